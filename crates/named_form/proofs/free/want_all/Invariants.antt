use Rattle.std.proofs.Common.{◌≡◌, ◌++◌, drop}
use Rattle.std.specs.List.{flat_map}
use Rattle.named_form.specs.Needs.{listed}
use Rattle.named_form.proofs.free.want_all.Given as goal

abbrev pub invariant-loop-proc : goal.invariant-loop-proc
invariant-loop-proc l =
    l.wanted.items ++ flat_map (listed l.free) (drop l.proc-index l.procs)
    ≡ l.initial.wanted.items ++ flat_map (listed l.free) l.procs
