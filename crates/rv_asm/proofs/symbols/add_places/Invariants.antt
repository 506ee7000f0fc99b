use Rattle.std.proofs.Common.{◌≡◌, ◌+◌, drop}
use Rattle.indexmap.specs.IndexMap.{get}
use Rattle.const_data.specs.declared.word.Label.{Label}
use Rattle.rv_asm.specs.Layout.{text_size, same_label, found, or_else}
use Rattle.rv_asm.proofs.symbols.add_places.Given as goal

abbrev pub invariant-loop-item : goal.invariant-loop-item
invariant-loop-item l =
    record {
      left : l.at + text_size (drop l.item-index l.items) ≡ l.from + text_size l.items;
      places : (q : Label) → or_else (found q l.at (drop l.item-index l.items)) (get same_label l.places q) ≡ or_else (found q l.from l.items) (get same_label l.initial.places q);
    }
