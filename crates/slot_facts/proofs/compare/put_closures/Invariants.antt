use Rattle.std.proofs.Common.{◌≡◌, ◌++◌, drop}
use Rattle.std.specs.List.{flat_map}
use Rattle.slot_facts.specs.Compare.{closures_of}
use Rattle.slot_facts.proofs.compare.put_closures.Given as goal

abbrev pub invariant-loop-atom : goal.invariant-loop-atom
invariant-loop-atom l =
    l.numbers ++ flat_map (closures_of l.procs l.flow l.rows l.other) (drop l.atom-index l.atoms)
    ≡ l.initial.numbers ++ flat_map (closures_of l.procs l.flow l.rows l.other) l.atoms
