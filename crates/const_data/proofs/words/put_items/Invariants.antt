use Rattle.std.proofs.Common.{◌≡◌, ◌++◌, take}
use Rattle.std.specs.Prelude.{map}
use Rattle.flat_form.specs.FlatWritten.{form}
use Rattle.const_data.specs.Words.{literal_word}
use Rattle.const_data.proofs.words.put_items.Given as goal

abbrev pub invariant-loop-item : goal.invariant-loop-item
invariant-loop-item l = l.words ≡ l.initial.words ++ map (literal_word (form l.flat)) (take l.item-index l.items)
