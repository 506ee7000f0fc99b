use Rattle.std.proofs.Common.{◌≡◌, ◌++◌, drop}
use Rattle.std.specs.List.{flat_map}
use Rattle.slot_facts.specs.Needs.{end_reads, place_reads, references}
use Rattle.slot_facts.proofs.needs.references.Given as goal

abbrev pub invariant-loop-place : goal.invariant-loop-place
invariant-loop-place l =
    l.links ++ flat_map (place_reads l.flow l.rows) (drop l.place-index l.places) ≡ flat_map (place_reads l.flow l.rows) l.places

abbrev pub invariant-loop-end : goal.invariant-loop-end
invariant-loop-end l =
    l.links ++ flat_map (end_reads l.flow l.rows) (drop l.end-index l.ends) ≡ references l.flow l.rows l.places l.ends
