use Rattle.std.proofs.Common.{sym, ap, ◌∙◌}
use Rattle.named_form.specs.Tallies.{met_code}
use Rattle.named_form.proofs.Folds.{none_left, all_left}
use Rattle.named_form.proofs.tally.+tally.Goals as goal

pub meet_block-returns : goal.meet_block-returns
meet_block-returns t c =
    sym (ap (λ code. met_code c.args.tail code c.loop-at.tally) (none_left c.args.block.now c.as_slice-steps.result.now c.loop-at.at c.loop-at-test.false))
    ∙ (c.loop-at.invariant
    ∙ ap (λ code. met_code c.args.tail code c.args.tally.now) (all_left c.args.block.now c.as_slice-steps.result.now c.as_slice-steps.ensures))
