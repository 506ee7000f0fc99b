use Rattle.std.proofs.Common.{◌≡◌, ◌++◌, drop}
use Rattle.std.specs.List.{flat_map}
use Rattle.flow_constraints.specs.Table.{applied}
use Rattle.flow_constraints.proofs.calls.put_apply.Given as goal

abbrev pub invariant-loop-entry : goal.invariant-loop-entry
invariant-loop-entry l =
    l.rules ++ flat_map (applied l.flow l.site l.items) (drop l.entry-index l.entry-items)
    ≡ l.initial.rules ++ flat_map (applied l.flow l.site l.items) l.entry-items
