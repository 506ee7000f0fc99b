use Rattle.std.proofs.Common.{◌≡◌, ◌++◌, length}
use Rattle.flat_form.specs.FlatWritten.{form}
use Rattle.const_data.specs.Words.{all_objects}
use Rattle.const_data.proofs.words.put_objects.Given as goal

abbrev pub invariant-loop-lit : goal.invariant-loop-lit
invariant-loop-lit l =
    l.words ++ all_objects (form l.flat) l.left ≡ l.initial.words ++ all_objects (form l.flat) l.flat.lits

abbrev pub decreases-loop-lit : goal.decreases-loop-lit
decreases-loop-lit l = length l.left
