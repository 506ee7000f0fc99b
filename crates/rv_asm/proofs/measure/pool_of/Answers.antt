use Rattle.std.proofs.Common.{◌+◌, ap, ◌∙◌, drop}
use Rattle.rv_asm.specs.Layout.{items_of, pool_from}
use Rattle.rv_asm.proofs.Measured.{pool_turn}
use Rattle.rv_asm.proofs.measure.pool_of.Goals as goal

pub loop-part-preserved : goal.loop-part-preserved
loop-part-preserved c =
    let parts = c.as_slice-part-items.result.now in
    let i = c.loop-part.part-index in
    let known = c.in_ok-add_numbers.ensures ∙ ap (pool_from c.loop-part.pool.keys) c.as_slice.ensures in
    ap (λ ks. pool_from ks (items_of (drop (i + 1) parts))) known
    ∙ (pool_turn parts i c.part-item.result c.loop-part.pool.keys c.loop-part-test.true c.part-item.is
    ∙ c.loop-part.invariant)
