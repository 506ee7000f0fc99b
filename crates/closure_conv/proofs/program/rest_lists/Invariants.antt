use Rattle.std.proofs.Common.{◌≡◌, ◌+◌, map, drop}
use Rattle.named_form.specs.Code.{rest_lists}
use Rattle.named_form.specs.Written.{procedure}
use Rattle.closure_conv.proofs.program.rest_lists.Given as goal

abbrev pub invariant-loop-proc : goal.invariant-loop-proc
invariant-loop-proc l =
    l.lists + rest_lists (map procedure (drop l.proc-index l.proc-items)) ≡ rest_lists (map procedure l.proc-items)
