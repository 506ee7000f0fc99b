use Rattle.std.proofs.Common.{◌≡◌, ◌++◌, drop, map}
use Rattle.flow_constraints.specs.Table.{part_rule}
use Rattle.flow_constraints.proofs.literals.put_held.Given as goal

abbrev pub invariant-loop-part : goal.invariant-loop-part
invariant-loop-part l =
    l.rules ++ map (part_rule l.flow) (drop l.part-index l.part-items)
    ≡ l.initial.rules ++ map (part_rule l.flow) l.part-items
