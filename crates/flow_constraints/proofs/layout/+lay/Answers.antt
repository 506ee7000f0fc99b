use Rattle.std.proofs.Common.{sym, ap, ◌∙◌}
use Rattle.named_form.proofs.Folds.{none_left, all_left}
use Rattle.flow_constraints.specs.Layout.{laid_code}
use Rattle.flow_constraints.proofs.layout.+lay.Goals as goal

pub lay_block-returns : goal.lay_block-returns
lay_block-returns t c =
    sym (ap (λ code. laid_code code c.loop-step.layout) (none_left c.args.block.now c.as_slice-step-items.result.now c.loop-step.step-index c.loop-step-test.false))
    ∙ (c.loop-step.invariant
    ∙ ap (λ code. laid_code code c.args.layout.now) (all_left c.args.block.now c.as_slice-step-items.result.now c.as_slice-step-items.ensures))
