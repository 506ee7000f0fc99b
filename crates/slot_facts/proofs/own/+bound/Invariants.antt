use Rattle.std.proofs.Common.{◌≡◌, ◌++◌}
use Rattle.named_form.specs.Code.{binds}
use Rattle.named_form.proofs.Folds.{left}
use Rattle.slot_facts.proofs.own.+bound.Given as goal

abbrev pub invariant-put_block-loop-step : goal.invariant-put_block-loop-step
invariant-put_block-loop-step l =
    l.vars ++ binds (left l.block l.step-items l.step-index) ≡ l.initial.vars ++ binds (left l.block l.step-items 0)
