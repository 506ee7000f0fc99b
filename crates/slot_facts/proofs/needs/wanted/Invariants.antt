use Rattle.std.proofs.Common.{◌≡◌, ◌++◌, drop}
use Rattle.std.specs.List.{flat_map}
use Rattle.least_set.specs.Search.{listed}
use Rattle.slot_facts.proofs.needs.wanted.Given as goal

abbrev pub invariant-loop-proc : goal.invariant-loop-proc
invariant-loop-proc l =
    l.wanted.items ++ flat_map (listed l.needed) (drop l.proc-index l.procs) ≡ l.variables ++ flat_map (listed l.needed) l.procs
