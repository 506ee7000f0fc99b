use Rattle.std.proofs.Common.{◌≡◌, ◌++◌}
use Rattle.named_form.specs.Code.{past_code}
use Rattle.named_form.proofs.Folds.{left}
use Rattle.flow_constraints.specs.Walk.{counts, put_code}
use Rattle.flow_constraints.proofs.steps.+put.Given as goal

abbrev pub invariant-put_block-loop-step : goal.invariant-put_block-loop-step
invariant-put_block-loop-step l =
    record {
      listed :
          l.rules ++ put_code l.flow l.lits (counts l.before) l.number (left l.block l.step-items l.step-index)
          ≡ l.initial.rules ++ put_code l.flow l.lits (counts l.initial.before) l.number (left l.block l.step-items 0);
      moved :
          past_code (counts l.before) (left l.block l.step-items l.step-index)
          ≡ past_code (counts l.initial.before) (left l.block l.step-items 0);
    }
