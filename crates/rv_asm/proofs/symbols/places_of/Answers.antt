use Rattle.std.proofs.Common.{◌+◌, ap, ◌∙◌, arith, drop}
use Rattle.indexmap.specs.IndexMap.{get}
use Rattle.rv_asm.specs.Layout.{text_size, items_of, same_label, found, or_else}
use Rattle.rv_asm.proofs.Measured.{found_turn, left_turn}
use Rattle.rv_asm.proofs.symbols.places_of.Goals as goal

pub add_places-requires : goal.add_places-requires
add_places-requires c =
    let parts = c.as_slice-part-items.result.now in
    let turn = left_turn parts c.loop-part.part-index c.loop-part.at c.part-item.result c.loop-part-test.true c.part-item.is in
    let part = ap text_size c.as_slice.ensures in
    let whole = ap (λ ps. text_size (items_of ps)) c.as_slice-part-items.ensures in
    let left = c.loop-part.invariant.left in
    let room = c.requires in
    omega arith

pub loop-part-preserved : goal.loop-part-preserved
loop-part-preserved c =
    let parts = c.as_slice-part-items.result.now in
    let i = c.loop-part.part-index in
    let at = c.loop-part.at in
    let part = c.part-item.result in
    let rest = items_of (drop (i + 1) parts) in
    let end = c.in_ok-at.ensures.end ∙ ap (λ is. at + text_size is) c.as_slice.ensures in
    record {
      left = ap (λ n. n + text_size rest) end ∙ (left_turn parts i at part c.loop-part-test.true c.part-item.is ∙ c.loop-part.invariant.left);
      places = λ q.
          ap (λ a. or_else (found q a rest) (get same_label c.add_places.new.places q)) end
          ∙ (ap (or_else (found q (at + text_size part) rest))
          (c.in_ok-at.ensures.places q ∙ ap (λ is. or_else (found q at is) (get same_label c.loop-part.places q)) c.as_slice.ensures)
          ∙ (found_turn parts i at part q (get same_label c.loop-part.places q) c.loop-part-test.true c.part-item.is
          ∙ c.loop-part.invariant.places q));
    }
