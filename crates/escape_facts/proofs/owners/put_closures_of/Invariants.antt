use Rattle.std.proofs.Common.{◌≡◌, ◌++◌, drop}
use Rattle.std.specs.List.{flat_map}
use Rattle.escape_facts.specs.Owners.{closure_owner}
use Rattle.escape_facts.proofs.owners.put_closures_of.Given as goal

abbrev pub invariant-loop-number : goal.invariant-loop-number
invariant-loop-number l =
    l.links ++ flat_map (closure_owner l.proc) (drop l.number-index l.made)
    ≡ l.initial.links ++ flat_map (closure_owner l.proc) l.made
