use Rattle.std.proofs.Common.{◌≡◌, ◌++◌, drop}
use Rattle.flow_constraints.specs.Layout.{atoms_of}
use Rattle.flow_constraints.proofs.atoms.atoms_of.Given as goal

abbrev pub invariant-loop-kind : goal.invariant-loop-kind
invariant-loop-kind l =
    l.atoms ++ atoms_of l.which l.atom (drop l.kind-index l.kinds) ≡ atoms_of l.which 0 l.kinds
