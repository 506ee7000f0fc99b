use Rattle.std.proofs.Common.{◌≡◌, ◌+◌, ℕ, arith, sym, ap, ◌∙◌}
use Rattle.named_form.proofs.Folds.{none_left, all_left}
use Rattle.flow_constraints.specs.Census.{cut}
use Rattle.flow_constraints.specs.Counting.{code_count}
use Rattle.flow_constraints.proofs.tally.+tally.Goals as goal

no_more : (n : ℕ) → n ≡ n + 0
no_more n = omega arith

pub meet_block-returns : goal.meet_block-returns
meet_block-returns t c =
    let f = c.args.flow.now in
    let lits = c.args.lits.now in
    let none = none_left c.args.block.now c.as_slice-step-items.result.now c.loop-step.step-index c.loop-step-test.false in
    let all = all_left c.args.block.now c.as_slice-step-items.result.now c.as_slice-step-items.ensures in
    record {
      rules =
          ap cut (no_more c.loop-step.tally.rules)
          ∙ (sym (ap (λ code. cut (c.loop-step.tally.rules + code_count f lits code)) none)
          ∙ (c.loop-step.invariant.counted
          ∙ ap (λ code. cut (c.args.tally.now.rules + code_count f lits code)) all));
      remembers = c.loop-step.invariant.remembers;
    }
