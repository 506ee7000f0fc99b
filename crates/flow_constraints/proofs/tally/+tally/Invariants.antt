use Rattle.std.proofs.Common.{◌≡◌, ◌+◌}
use Rattle.named_form.proofs.Folds.{left}
use Rattle.flow_constraints.specs.Census.{cut}
use Rattle.flow_constraints.specs.Counting.{Remembers, code_count}
use Rattle.flow_constraints.proofs.tally.+tally.Given as goal

abbrev pub invariant-meet_block-loop-step : goal.invariant-meet_block-loop-step
invariant-meet_block-loop-step l =
    record {
      counted :
          cut (l.tally.rules + code_count l.flow l.lits (left l.block l.step-items l.step-index))
          ≡ cut (l.initial.tally.rules + code_count l.flow l.lits (left l.block l.step-items 0));
      remembers : Remembers l.flow l.tally;
    }
