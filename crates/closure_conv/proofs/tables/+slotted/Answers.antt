use Rattle.std.proofs.Common.{◌++◌, sym, ap, ◌∙◌}
use Rattle.std.specs.List.{filter}
use Rattle.named_form.specs.Code.{binds}
use Rattle.closure_conv.specs.Tables.{has_slot}
use Rattle.closure_conv.proofs.Linked.{code_is, bound_one}
use Rattle.closure_conv.proofs.tables.+slotted.Goals as goal

pub put_block-loop-step-init : goal.put_block-loop-step-init
put_block-loop-step-init t c =
    ap (λ code. c.args.vars.now ++ filter (has_slot c.args.tables.now) (binds code))
    (sym (code_is c.args.block.now c.as_slice-step-items.result.now c.as_slice-step-items.ensures))

pub put_block-loop-step-preserved : goal.put_block-loop-step-preserved
put_block-loop-step-preserved t c =
    bound_one (has_slot c.args.tables.now) c.as_slice-step-items.result.now c.loop-step.step-index c.step-item.result
    c.args.block.now c.loop-step.vars c.put_slotted.new.vars c.put_arms.new.vars _ c.loop-step-test.true c.step-item.is
    (c.in_ok-put_slotted.ensures ∙ ap (λ xs. c.loop-step.vars ++ filter (has_slot c.args.tables.now) xs) c.as_slice.ensures) c.in_ok-put_arms.ensures c.loop-step.invariant
