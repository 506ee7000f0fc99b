use Rattle.std.proofs.Common.{◌+◌, arith, ap, ◌∙◌, drop}
use Rattle.rv_asm.specs.Layout.{text_size, items_of, cut}
use Rattle.rv_asm.proofs.Measured.{size_turn, size_end}
use Rattle.rv_asm.proofs.measure.text_size.Goals as goal

pub loop-part-preserved : goal.loop-part-preserved
loop-part-preserved c =
    let parts = c.as_slice-part-items.result.now in
    let i = c.loop-part.part-index in
    let measured = c.part_size.ensures ∙ ap (λ is. cut (text_size is)) c.as_slice.ensures in
    let turn =
    size_turn parts i c.loop-part.size c.part_size.result c.part-item.result c.loop-part.invariant.small c.loop-part-test.true c.part-item.is measured
    in
    record {
      small = omega arith;
      whole = ap (λ n. cut (n + text_size (items_of (drop (i + 1) parts)))) c.saturating_add-size.ensures ∙ turn ∙ c.loop-part.invariant.whole;
    }

pub returns : goal.returns
returns c =
    size_end c.as_slice-part-items.result.now c.loop-part.part-index c.loop-part.size c.loop-part-test.false c.loop-part.invariant.small c.loop-part.invariant.whole
    ∙ ap (λ ps. cut (text_size (items_of ps))) c.as_slice-part-items.ensures
