use Rattle.std.proofs.Common.{◌≡◌, ◌++◌, length}
use Rattle.std.specs.Prelude.{map}
use Rattle.flat_form.specs.FlatWritten.{procedure}
use Rattle.const_data.specs.Words.{all_descriptors}
use Rattle.const_data.proofs.words.put_descriptors.Given as goal

abbrev pub invariant-loop-procedure : goal.invariant-loop-procedure
invariant-loop-procedure l =
    l.words ++ all_descriptors l.proc (map procedure l.left) ≡ l.initial.words ++ all_descriptors 0 (map procedure l.procs)

abbrev pub decreases-loop-procedure : goal.decreases-loop-procedure
decreases-loop-procedure l = length l.left
