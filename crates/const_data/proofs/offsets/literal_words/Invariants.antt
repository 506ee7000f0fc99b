use Rattle.std.proofs.Common.{◌≡◌, ◌++◌, drop}
use Rattle.flat_form.specs.FlatWritten.{form}
use Rattle.const_data.specs.Words.{object_at, places_from}
use Rattle.const_data.proofs.offsets.literal_words.Given as goal

abbrev pub invariant-loop-lit : goal.invariant-loop-lit
invariant-loop-lit l =
    record {
      words : l.words ++ places_from (form l.flat) l.lit-index (drop l.lit-index l.flat.lits) ≡ places_from (form l.flat) 0 l.flat.lits;
      next : l.next ≡ object_at (form l.flat) l.lit-index;
    }
