use Rattle.std.proofs.Common.{◌≡◌, ◌++◌, length}
use Rattle.alpha_core.proofs.copy.copy_lits.Given as goal

abbrev pub invariant-loop-lit : goal.invariant-loop-lit
invariant-loop-lit l = l.copy ++ l.rest ≡ l.fn.lits

abbrev pub decreases-loop-lit : goal.decreases-loop-lit
decreases-loop-lit l = length l.rest
