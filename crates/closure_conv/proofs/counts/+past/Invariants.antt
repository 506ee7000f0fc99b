use Rattle.std.proofs.Common.{◌≡◌}
use Rattle.named_form.specs.Code.{past_code}
use Rattle.named_form.specs.Written.{code}
use Rattle.closure_conv.specs.Tables.{counts}
use Rattle.closure_conv.proofs.Linked.{left}
use Rattle.closure_conv.proofs.counts.+past.Given as goal

abbrev pub invariant-past_block-loop-step : goal.invariant-past_block-loop-step
invariant-past_block-loop-step l =
    past_code (counts l.at) (left l.step-items l.step-index l.block) ≡ past_code (counts l.initial.at) (code l.block)
