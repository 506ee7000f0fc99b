use Rattle.std.proofs.Common.{◌≡◌, ◌++◌, drop}
use Rattle.std.specs.List.{flat_map}
use Rattle.flow_constraints.specs.Table.{spine_pair}
use Rattle.flow_constraints.proofs.calls.put_spine.Given as goal

abbrev pub invariant-loop-atom : goal.invariant-loop-atom
invariant-loop-atom l =
    l.rules ++ flat_map (spine_pair l.flow l.guard l.spine l.items) (drop l.atom-index l.atom-items)
    ≡ l.initial.rules ++ flat_map (spine_pair l.flow l.guard l.spine l.items) l.atom-items
