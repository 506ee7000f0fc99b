use Rattle.std.proofs.Common.{◌++◌, sym, ap, ◌∙◌}
use Rattle.flow_constraints.specs.Walk.{counts}
use Rattle.named_form.specs.Code.{past_code}
use Rattle.named_form.proofs.Folds.{none_left, all_left}
use Rattle.slot_facts.specs.Ends.{code_ends}
use Rattle.slot_facts.proofs.ends.+ends.Goals as goal

pub put_block-returns : goal.put_block-returns
put_block-returns t c =
    let none = none_left c.args.block.now c.as_slice-step-items.result.now c.loop-step.step-index c.loop-step-test.false in
    let all = all_left c.args.block.now c.as_slice-step-items.result.now c.as_slice-step-items.ensures in
    record {
      ends =
          c.in_ok-push.ensures.ok
          ∙ (sym (ap (λ code. c.loop-step.ends ++ code_ends c.args.proc c.args.number (counts c.loop-step.before) code) none)
          ∙ (c.loop-step.invariant.listed
          ∙ ap (λ code. c.args.ends.now ++ code_ends c.args.proc c.args.number (counts c.args.before.now) code) all));
      past =
          sym (ap (λ code. past_code (counts c.loop-step.before) code) none)
          ∙ (c.loop-step.invariant.moved ∙ ap (λ code. past_code (counts c.args.before.now) code) all);
    }
