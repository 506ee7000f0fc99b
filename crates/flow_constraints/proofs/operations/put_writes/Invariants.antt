use Rattle.std.proofs.Common.{◌≡◌, ◌++◌, drop}
use Rattle.flow_constraints.specs.Table.{write_rules}
use Rattle.flow_constraints.proofs.operations.put_writes.Given as goal

abbrev pub invariant-loop-atom : goal.invariant-loop-atom
invariant-loop-atom l =
    l.rules ++ write_rules l.flow l.guard (drop l.atom-index l.atoms) l.row l.from l.place
    ≡ l.initial.rules ++ write_rules l.flow l.guard l.atoms l.row l.from l.place
