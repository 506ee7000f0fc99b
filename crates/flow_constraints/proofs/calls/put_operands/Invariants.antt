use Rattle.std.proofs.Common.{◌≡◌, ◌++◌, length}
use Rattle.flow_constraints.specs.Table.{operand_rules}
use Rattle.flow_constraints.proofs.calls.put_operands.Given as goal

abbrev pub invariant-loop-param : goal.invariant-loop-param
invariant-loop-param l =
    l.rules ++ operand_rules l.flow l.guard l.entry l.params l.operands
    ≡ l.initial.rules ++ operand_rules l.flow l.guard l.entry l.initial.params l.initial.operands

abbrev pub decreases-loop-param : goal.decreases-loop-param
decreases-loop-param l = length l.params
