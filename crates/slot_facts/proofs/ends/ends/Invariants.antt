use Rattle.std.proofs.Common.{◌≡◌, ◌++◌, drop, map}
use Rattle.flow_constraints.specs.Walk.{counts}
use Rattle.named_form.specs.Written.{procedure}
use Rattle.slot_facts.specs.Ends.{ends_from}
use Rattle.slot_facts.proofs.ends.ends.Given as goal

abbrev pub invariant-loop-number : goal.invariant-loop-number
invariant-loop-number l =
    l.ends ++ ends_from l.number (counts l.before) (map procedure (drop l.number l.procs))
    ≡ ends_from 0 (counts l.initial.before) (map procedure l.procs)
