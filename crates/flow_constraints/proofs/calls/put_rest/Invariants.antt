use Rattle.std.proofs.Common.{◌≡◌, ◌++◌, drop, map}
use Rattle.flow_constraints.specs.Table.{within}
use Rattle.flow_constraints.proofs.calls.put_rest.Given as goal

abbrev pub invariant-loop-operand : goal.invariant-loop-operand
invariant-loop-operand l =
    l.rules ++ map (λ y. within l.guard y l.car) (drop l.operand-index l.operands)
    ≡ l.initial.rules ++ map (λ y. within l.guard y l.car) l.operands
