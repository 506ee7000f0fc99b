use Rattle.std.proofs.Common.{◌≡◌, ◌+◌, ◌++◌, drop}
use Rattle.escape_facts.specs.Owners.{each_entry, list_owners}
use Rattle.escape_facts.proofs.owners.put_lists.Given as goal

abbrev pub invariant-loop-at : goal.invariant-loop-at
invariant-loop-at l =
    l.links ++ each_entry list_owners (l.at + 1) (drop l.at l.entries) ≡ l.initial.links ++ each_entry list_owners 1 l.entries
