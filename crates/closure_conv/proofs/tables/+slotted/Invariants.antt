use Rattle.std.proofs.Common.{◌≡◌, ◌++◌}
use Rattle.std.specs.List.{filter}
use Rattle.named_form.specs.Code.{binds}
use Rattle.named_form.specs.Written.{code}
use Rattle.closure_conv.specs.Tables.{has_slot}
use Rattle.closure_conv.proofs.Linked.{left}
use Rattle.closure_conv.proofs.tables.+slotted.Given as goal

abbrev pub invariant-put_block-loop-step : goal.invariant-put_block-loop-step
invariant-put_block-loop-step l =
    l.vars ++ filter (has_slot l.tables) (binds (left l.step-items l.step-index l.block))
    ≡ l.initial.vars ++ filter (has_slot l.tables) (binds (code l.block))
