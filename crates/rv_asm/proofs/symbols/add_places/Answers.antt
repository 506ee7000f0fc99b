use Rattle.std.proofs.Common.{◌+◌, ap, ◌∙◌, get_or, drop}
use Rattle.std.specs.Prelude.{pos}
use Rattle.indexmap.specs.IndexMap.{get}
use Rattle.rv_form.specs.declared.instr.Instr.TheVariants.{Lui}
use Rattle.rv_asm.specs.declared.item.AsmItem.TheVariants.{Code}
use Rattle.rv_asm.specs.Layout.{size_of, text_size, same_label, found, or_else}
use Rattle.rv_asm.proofs.Measured.{label_turn, item_turn}
use Rattle.rv_asm.proofs.symbols.add_places.Goals as goal

pub loop-item-preserved : goal.loop-item-preserved
loop-item-preserved c =
    let items = c.args.items.now in
    let i = c.loop-item.item-index in
    let at = c.loop-item.at in
    let none = Code (Lui 0 (pos 0)) in
    let item = get_or items i none in
    let rest = drop (i + 1) items in
    let end = ap (λ n. at + n) c.item_size-at.ensures in
    record {
      left = ap (λ n. n + text_size rest) end ∙ (item_turn items i at none c.loop-item-test.true ∙ c.loop-item.invariant.left);
      places = λ q.
          ap (λ a. or_else (found q a rest) (get same_label c.add_label.new.places q)) end
          ∙ (ap (or_else (found q (at + size_of item) rest)) (c.in_ok-add_label.ensures q)
          ∙ (label_turn items i at none q (get same_label c.loop-item.places q) c.loop-item-test.true ∙ c.loop-item.invariant.places q));
    }
