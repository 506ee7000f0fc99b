use Rattle.std.proofs.Common.{◌≡◌, ◌++◌, drop}
use Rattle.std.specs.List.{flat_map}
use Rattle.flow_constraints.specs.Table.{enter_rules}
use Rattle.flow_constraints.proofs.calls.put_call.Given as goal

abbrev pub invariant-loop-entry : goal.invariant-loop-entry
invariant-loop-entry l =
    l.rules ++ flat_map (enter_rules l.flow l.site l.operands) (drop l.entry-index l.entry-items)
    ≡ l.initial.rules ++ flat_map (enter_rules l.flow l.site l.operands) l.entry-items
