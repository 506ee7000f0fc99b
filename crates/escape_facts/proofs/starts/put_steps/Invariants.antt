use Rattle.std.proofs.Common.{◌≡◌, ◌++◌, drop}
use Rattle.std.specs.List.{flat_map}
use Rattle.least_set.specs.Search.{listed}
use Rattle.escape_facts.specs.Reached.{step_starts}
use Rattle.escape_facts.proofs.starts.put_steps.Given as goal

abbrev pub invariant-loop-place : goal.invariant-loop-place
invariant-loop-place l =
    l.sites ++ flat_map (step_starts (listed l.owners) l.flow l.rows) (drop l.place-index l.places)
    ≡ l.initial.sites ++ flat_map (step_starts (listed l.owners) l.flow l.rows) l.places
