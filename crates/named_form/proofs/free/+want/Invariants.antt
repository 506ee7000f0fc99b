use Rattle.std.proofs.Common.{◌≡◌, ◌++◌}
use Rattle.named_form.specs.Needs.{listed, needs_in}
use Rattle.named_form.proofs.Folds.{left}
use Rattle.named_form.proofs.free.+want.Given as goal

abbrev pub invariant-want_block-loop-step : goal.invariant-want_block-loop-step
invariant-want_block-loop-step l =
    l.wanted.items ++ needs_in (listed l.free) (left l.block l.step-items l.step-index)
    ≡ l.initial.wanted.items ++ needs_in (listed l.free) (left l.block l.step-items 0)
