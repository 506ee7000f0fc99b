use Rattle.std.proofs.Common.{◌≡◌, ◌++◌, drop}
use Rattle.std.specs.List.{flat_map}
use Rattle.least_set.specs.Search.{listed}
use Rattle.escape_facts.proofs.starts.put_own.Given as goal

abbrev pub invariant-loop-proc : goal.invariant-loop-proc
invariant-loop-proc l =
    l.sites ++ flat_map (listed l.own) (drop l.proc-index l.capturing)
    ≡ l.fn.sites ++ (listed l.own 0 ++ flat_map (listed l.own) l.capturing)
