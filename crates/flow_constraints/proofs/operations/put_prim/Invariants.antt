use Rattle.std.proofs.Common.{◌≡◌, ◌++◌, drop, map}
use Rattle.flow_constraints.specs.Table.{atom_in}
use Rattle.flow_constraints.proofs.operations.put_prim.Given as goal

abbrev pub invariant-loop-atom : goal.invariant-loop-atom
invariant-loop-atom l =
    l.rules ++ map (λ a. atom_in l.operation.guard a l.operation.value) (drop l.atom-index l.atom-items)
    ≡ l.initial.rules ++ map (λ a. atom_in l.operation.guard a l.operation.value) l.atom-items
