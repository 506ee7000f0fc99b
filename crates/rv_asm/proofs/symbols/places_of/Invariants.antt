use Rattle.std.proofs.Common.{◌≡◌, ◌+◌, drop}
use Rattle.indexmap.specs.IndexMap.{get}
use Rattle.const_data.specs.declared.word.Label.{Label}
use Rattle.rv_asm.specs.Layout.{text_size, items_of, same_label, found, or_else}
use Rattle.rv_asm.proofs.symbols.places_of.Given as goal

abbrev pub invariant-loop-part : goal.invariant-loop-part
invariant-loop-part l =
    record {
      left : l.at + text_size (items_of (drop l.part-index l.part-items)) ≡ l.from + text_size (items_of l.part-items);
      places : (q : Label) → or_else (found q l.at (items_of (drop l.part-index l.part-items))) (get same_label l.places q) ≡ found q l.from (items_of l.part-items);
    }
