use Rattle.std.proofs.Common.{◌≡◌, length}
use Rattle.std.specs.Prelude.{map, max}
use Rattle.flat_form.specs.FlatWritten.{procedure}
use Rattle.const_data.specs.Words.{most_in_procs}
use Rattle.const_data.proofs.arguments.argument_words.Given as goal

abbrev pub invariant-loop-proc : goal.invariant-loop-proc
invariant-loop-proc l =
    max l.most (most_in_procs (map procedure l.left)) ≡ max 1 (most_in_procs (map procedure l.flat.procs))

abbrev pub decreases-loop-proc : goal.decreases-loop-proc
decreases-loop-proc l = length l.left
