use Rattle.std.proofs.Common.{◌≡◌, ◌++◌, length}
use Rattle.std.specs.Prelude.{reverse}
use Rattle.flow_constraints.specs.Table.{items_in}
use Rattle.flow_constraints.proofs.literals.push_items.Given as goal

abbrev pub invariant-loop-item : goal.invariant-loop-item
invariant-loop-item l =
    l.coming.items ++ reverse (items_in l.to l.items) ≡ l.initial.coming.items ++ reverse (items_in l.to l.initial.items)

abbrev pub decreases-loop-item : goal.decreases-loop-item
decreases-loop-item l = length l.items
