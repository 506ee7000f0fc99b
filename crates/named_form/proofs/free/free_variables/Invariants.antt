use Rattle.std.proofs.Common.{◌≡◌, ◌≤◌, length, map}
use Rattle.named_form.specs.PlainPlan.{Begins}
use Rattle.named_form.specs.Written.{procedure}
use Rattle.named_form.proofs.Kept.{Listed}
use Rattle.named_form.proofs.free.free_variables.Given as goal

abbrev pub invariant-loop-q : goal.invariant-loop-q
invariant-loop-q l =
    (l.q ≤ length l.procs)
    × (length l.free.items ≡ length l.procs)
    × (Begins (map procedure l.procs) l.firsts → Listed (map procedure l.procs) l.q l.free.items)
