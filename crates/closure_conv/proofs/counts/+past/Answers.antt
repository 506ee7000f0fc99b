use Rattle.std.proofs.Common.{sym, ap}
use Rattle.named_form.specs.Code.{past_code}
use Rattle.closure_conv.specs.Tables.{counts}
use Rattle.closure_conv.proofs.Linked.{code_is, past_one}
use Rattle.closure_conv.proofs.counts.+past.Goals as goal

pub past_block-loop-step-init : goal.past_block-loop-step-init
past_block-loop-step-init t c =
    ap (past_code (counts c.args.at)) (sym (code_is c.args.block.now c.as_slice-step-items.result.now c.as_slice-step-items.ensures))

pub past_block-loop-step-preserved : goal.past_block-loop-step-preserved
past_block-loop-step-preserved t c =
    past_one c.as_slice-step-items.result.now c.loop-step.step-index c.step-item.result c.args.block.now (counts c.loop-step.at)
    (counts c.in_ok-at.at) _ c.loop-step-test.true c.step-item.is c.in_ok-at.ensures c.loop-step.invariant
