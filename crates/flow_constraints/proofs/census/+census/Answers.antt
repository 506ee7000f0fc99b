use Rattle.std.proofs.Common.{sym, ap, ◌∙◌}
use Rattle.named_form.proofs.Folds.{none_left, all_left}
use Rattle.flow_constraints.specs.Census.{counted_code}
use Rattle.flow_constraints.proofs.census.+census.Goals as goal

pub count_block-returns : goal.count_block-returns
count_block-returns t c =
    sym (ap (λ code. counted_code code c.loop-step.census) (none_left c.args.block.now c.as_slice-step-items.result.now c.loop-step.step-index c.loop-step-test.false))
    ∙ (c.loop-step.invariant
    ∙ ap (λ code. counted_code code c.args.census) (all_left c.args.block.now c.as_slice-step-items.result.now c.as_slice-step-items.ensures))
