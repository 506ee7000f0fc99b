use Rattle.std.proofs.Common.{◌≡◌, ◌++◌, length}
use Rattle.std.specs.Prelude.{map}
use Rattle.flat_form.specs.FlatWritten.{form, procedure}
use Rattle.const_data.specs.Words.{all_closures}
use Rattle.const_data.proofs.words.put_closures.Given as goal

abbrev pub invariant-loop-others : goal.invariant-loop-others
invariant-loop-others l =
    l.words ++ all_closures (form l.flat) l.proc (map procedure l.left)
    ≡ l.initial.words ++ all_closures (form l.flat) 0 (map procedure l.flat.procs)

abbrev pub decreases-loop-others : goal.decreases-loop-others
decreases-loop-others l = length l.left
