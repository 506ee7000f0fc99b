use Rattle.std.proofs.Common.{◌≡◌, ◌++◌, drop}
use Rattle.std.specs.List.{flat_map}
use Rattle.least_set.specs.Search.{listed}
use Rattle.escape_facts.specs.Reached.{site_at}
use Rattle.escape_facts.proofs.rows.put_atoms.Given as goal

abbrev pub invariant-loop-atom : goal.invariant-loop-atom
invariant-loop-atom l =
    l.sites ++ flat_map (site_at (listed l.owners) l.whose) (drop l.atom-index l.atoms)
    ≡ l.initial.sites ++ flat_map (site_at (listed l.owners) l.whose) l.atoms
