use Rattle.std.proofs.Common.{◌++◌, append-nil, sym, ap, ◌∙◌}
use Rattle.named_form.specs.Code.{past_code}
use Rattle.named_form.proofs.Folds.{none_left, all_left}
use Rattle.flow_constraints.specs.Walk.{counts, put_code}
use Rattle.flow_constraints.proofs.steps.+put.Goals as goal

pub put_block-returns : goal.put_block-returns
put_block-returns t c =
    let f = c.args.flow.now in
    let lits = c.args.lits.now in
    let b = c.args.number in
    let none = none_left c.args.block.now c.as_slice-step-items.result.now c.loop-step.step-index c.loop-step-test.false in
    let all = all_left c.args.block.now c.as_slice-step-items.result.now c.as_slice-step-items.ensures in
    record {
      rules =
          sym (append-nil c.loop-step.rules)
          ∙ (sym (ap (λ code. c.loop-step.rules ++ put_code f lits (counts c.loop-step.before) b code) none)
          ∙ (c.loop-step.invariant.listed
          ∙ ap (λ code. c.args.rules.now ++ put_code f lits (counts c.args.before.now) b code) all));
      past =
          sym (ap (λ code. past_code (counts c.loop-step.before) code) none)
          ∙ (c.loop-step.invariant.moved ∙ ap (λ code. past_code (counts c.args.before.now) code) all);
    }
