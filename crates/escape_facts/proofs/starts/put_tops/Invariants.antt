use Rattle.std.proofs.Common.{◌≡◌, ◌-◌, ◌++◌}
use Rattle.std.specs.Prelude.{None}
use Rattle.least_set.specs.Search.{listed}
use Rattle.named_form.specs.Valid.{numbers_from}
use Rattle.escape_facts.specs.Reached.{rows_sites}
use Rattle.escape_facts.proofs.starts.put_tops.Given as goal

abbrev pub invariant-loop-top : goal.invariant-loop-top
invariant-loop-top l =
    l.sites ++ rows_sites (listed l.owners) l.rows None (numbers_from l.top (l.tops - l.top))
    ≡ l.initial.sites ++ rows_sites (listed l.owners) l.rows None (numbers_from 0 l.tops)
