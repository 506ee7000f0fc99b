use Rattle.std.proofs.Common.{◌≡◌, drop}
use Rattle.flow_constraints.specs.Quoted.{with_coming, shape_of}
use Rattle.flow_constraints.proofs.layout.shape_at.Given as goal

abbrev pub invariant-loop-lit : goal.invariant-loop-lit
invariant-loop-lit l =
    with_coming l.coming l.shape (drop l.lit-index l.lits) ≡ shape_of l.lits
