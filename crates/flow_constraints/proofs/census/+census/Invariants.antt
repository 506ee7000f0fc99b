use Rattle.std.proofs.Common.{◌≡◌}
use Rattle.named_form.proofs.Folds.{left}
use Rattle.flow_constraints.specs.Census.{counted_code}
use Rattle.flow_constraints.proofs.census.+census.Given as goal

abbrev pub invariant-count_block-loop-step : goal.invariant-count_block-loop-step
invariant-count_block-loop-step l =
    counted_code (left l.block l.step-items l.step-index) l.census ≡ counted_code (left l.block l.step-items 0) l.initial.census
