use Rattle.std.proofs.Common.{◌≡◌}
use Rattle.named_form.proofs.Folds.{left}
use Rattle.flow_constraints.specs.Layout.{laid_code}
use Rattle.flow_constraints.proofs.layout.+lay.Given as goal

abbrev pub invariant-lay_block-loop-step : goal.invariant-lay_block-loop-step
invariant-lay_block-loop-step l =
    laid_code (left l.block l.step-items l.step-index) l.layout ≡ laid_code (left l.block l.step-items 0) l.initial.layout
