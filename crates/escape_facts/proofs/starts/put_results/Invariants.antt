use Rattle.std.proofs.Common.{◌≡◌, ◌+◌, ◌++◌, drop}
use Rattle.least_set.specs.Search.{listed}
use Rattle.escape_facts.specs.Owners.{each_entry}
use Rattle.escape_facts.specs.Reached.{result_starts}
use Rattle.escape_facts.proofs.starts.put_results.Given as goal

abbrev pub invariant-loop-at : goal.invariant-loop-at
invariant-loop-at l =
    l.sites ++ each_entry (result_starts (listed l.owners) l.flow l.rows) (l.at + 1) (drop l.at l.entries)
    ≡ l.initial.sites ++ each_entry (result_starts (listed l.owners) l.flow l.rows) 1 l.entries
