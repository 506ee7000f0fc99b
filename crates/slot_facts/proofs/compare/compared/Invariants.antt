use Rattle.std.proofs.Common.{◌≡◌, ◌++◌, drop}
use Rattle.std.specs.List.{flat_map}
use Rattle.slot_facts.specs.Compare.{compared_at}
use Rattle.slot_facts.proofs.compare.compared.Given as goal

abbrev pub invariant-loop-place : goal.invariant-loop-place
invariant-loop-place l =
    l.numbers ++ flat_map (compared_at l.procs l.flow l.rows) (drop l.place-index l.places)
    ≡ flat_map (compared_at l.procs l.flow l.rows) l.places
