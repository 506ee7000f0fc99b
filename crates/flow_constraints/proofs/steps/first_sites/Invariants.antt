use Rattle.std.proofs.Common.{◌≡◌, ◌+◌, drop, map}
use Rattle.named_form.specs.Code.{rest_lists}
use Rattle.named_form.specs.Written.{procedure}
use Rattle.flow_constraints.proofs.steps.first_sites.Given as goal

abbrev pub invariant-loop-proc : goal.invariant-loop-proc
invariant-loop-proc l =
    l.lists + rest_lists (map procedure (drop l.proc-index l.procs)) ≡ rest_lists (map procedure l.procs)
