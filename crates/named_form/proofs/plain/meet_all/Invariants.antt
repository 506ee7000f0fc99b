use Rattle.std.proofs.Common.{◌≡◌, ◌++◌, drop, map, vec_len}
use Rattle.named_form.specs.Tallies.{met_all, vars_before}
use Rattle.named_form.specs.Written.{procedure}
use Rattle.named_form.proofs.plain.meet_all.Given as goal

abbrev pub invariant-loop-proc : goal.invariant-loop-proc
invariant-loop-proc l =
    (met_all (map procedure (drop l.proc-index l.procs)) l.tally ≡ met_all (map procedure l.procs) l.initial.tally)
    × (l.firsts.items ++ vars_before (map procedure (drop l.proc-index l.procs)) l.tally
    ≡ vars_before (map procedure l.procs) l.initial.tally)
    × (vec_len l.firsts ≡ l.proc-index)
