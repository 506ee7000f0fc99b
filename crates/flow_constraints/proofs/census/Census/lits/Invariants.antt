use Rattle.std.proofs.Common.{◌≡◌, length}
use Rattle.flow_constraints.specs.Census.{counted_lits}
use Rattle.flow_constraints.proofs.census.Census.lits.Given as goal

abbrev pub invariant-loop-lit : goal.invariant-loop-lit
invariant-loop-lit l =
    counted_lits l.left l.coming l.census ≡ counted_lits l.initial.left l.initial.coming l.initial.census

abbrev pub decreases-loop-lit : goal.decreases-loop-lit
decreases-loop-lit l = length l.left
