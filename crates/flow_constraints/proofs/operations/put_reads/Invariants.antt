use Rattle.std.proofs.Common.{◌≡◌, ◌++◌, drop}
use Rattle.flow_constraints.specs.Table.{read_rules}
use Rattle.flow_constraints.proofs.operations.put_reads.Given as goal

abbrev pub invariant-loop-atom : goal.invariant-loop-atom
invariant-loop-atom l =
    l.rules ++ read_rules l.flow l.operation (drop l.atom-index l.atoms) l.row l.place
    ≡ l.initial.rules ++ read_rules l.flow l.operation l.atoms l.row l.place
