use Rattle.std.proofs.Common.{◌≡◌, length}
use Rattle.flow_constraints.specs.Quoted.{quoted_all}
use Rattle.flow_constraints.proofs.layout.Quoted.lay_all.Given as goal

abbrev pub invariant-loop-lit : goal.invariant-loop-lit
invariant-loop-lit l =
    quoted_all l.left l.self ≡ quoted_all l.initial.left l.initial.self

abbrev pub decreases-loop-lit : goal.decreases-loop-lit
decreases-loop-lit l = length l.left
