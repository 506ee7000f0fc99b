use Rattle.std.proofs.Common.{◌≡◌, ◌++◌, drop, map}
use Rattle.flow_constraints.specs.Rows.{number_at}
use Rattle.flow_constraints.specs.Table.{within}
use Rattle.flow_constraints.proofs.calls.put_applied.Given as goal

abbrev pub invariant-loop-param : goal.invariant-loop-param
invariant-loop-param l =
    l.rules ++ map (λ x. within l.guard l.items (number_at l.flow.vars x)) (drop l.param-index l.param-items)
    ≡ l.initial.rules ++ map (λ x. within l.guard l.items (number_at l.flow.vars x)) l.param-items
