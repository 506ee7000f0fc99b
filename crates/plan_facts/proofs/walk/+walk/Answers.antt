use Rattle.std.proofs.Common.{◌++◌, append-nil, sym, ap, ◌∙◌}
use Rattle.flow_constraints.specs.Walk.{counts}
use Rattle.named_form.specs.Code.{past_code}
use Rattle.named_form.proofs.Folds.{none_left, all_left}
use Rattle.plan_facts.specs.Walk.{walk_code}
use Rattle.plan_facts.proofs.walk.+walk.Goals as goal

pub put_block-returns : goal.put_block-returns
put_block-returns t c =
    let s = c.args.spot in
    let none = none_left c.args.block.now c.as_slice-items.result.now c.loop-at.at c.loop-at-test.false in
    let all = all_left c.args.block.now c.as_slice-items.result.now c.as_slice-items.ensures in
    record {
      steps =
          sym (append-nil c.loop-at.steps)
          ∙ (sym (ap (λ code. c.loop-at.steps ++ walk_code s (counts c.loop-at.before) code) none)
          ∙ (c.loop-at.invariant.listed
          ∙ ap (λ code. c.args.steps.now ++ walk_code s (counts c.args.before.now) code) all));
      past =
          sym (ap (λ code. past_code (counts c.loop-at.before) code) none)
          ∙ (c.loop-at.invariant.moved ∙ ap (λ code. past_code (counts c.args.before.now) code) all);
    }
