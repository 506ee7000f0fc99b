use Rattle.std.proofs.Common.{◌≡◌, ◌++◌}
use Rattle.flow_constraints.specs.Walk.{counts}
use Rattle.named_form.specs.Code.{past_code}
use Rattle.named_form.proofs.Folds.{left}
use Rattle.slot_facts.specs.Ends.{code_ends}
use Rattle.slot_facts.proofs.ends.+ends.Given as goal

abbrev pub invariant-put_block-loop-step : goal.invariant-put_block-loop-step
invariant-put_block-loop-step l =
    record {
      listed :
          l.ends ++ code_ends l.proc l.number (counts l.before) (left l.block l.step-items l.step-index)
          ≡ l.initial.ends ++ code_ends l.proc l.number (counts l.initial.before) (left l.block l.step-items 0);
      moved :
          past_code (counts l.before) (left l.block l.step-items l.step-index)
          ≡ past_code (counts l.initial.before) (left l.block l.step-items 0);
    }
