use Rattle.std.proofs.Common.{◌≡◌, ◌++◌, drop}
use Rattle.std.specs.List.{flat_map}
use Rattle.escape_facts.specs.Owners.{place_owners}
use Rattle.escape_facts.proofs.owners.put_places.Given as goal

abbrev pub invariant-loop-place : goal.invariant-loop-place
invariant-loop-place l =
    l.links ++ flat_map (place_owners) (drop l.place-index l.places)
    ≡ l.initial.links ++ flat_map (place_owners) l.places
