use Rattle.std.proofs.Common.{◌≡◌, ◌++◌, drop}
use Rattle.std.specs.List.{flat_map}
use Rattle.least_set.specs.Search.{listed}
use Rattle.escape_facts.specs.Reached.{row_sites}
use Rattle.escape_facts.proofs.rows.put_rows.Given as goal

abbrev pub invariant-loop-row : goal.invariant-loop-row
invariant-loop-row l =
    l.sites ++ flat_map (row_sites (listed l.owners) l.rows l.whose) (drop l.row-index l.numbers)
    ≡ l.initial.sites ++ flat_map (row_sites (listed l.owners) l.rows l.whose) l.numbers
