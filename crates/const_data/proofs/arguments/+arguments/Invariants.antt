use Rattle.std.proofs.Common.{◌≡◌}
use Rattle.std.specs.Prelude.{max}
use Rattle.flat_form.specs.FlatWritten.{code}
use Rattle.const_data.specs.Words.{most_in}
use Rattle.const_data.proofs.Linked.{left}
use Rattle.const_data.proofs.arguments.+arguments.Given as goal

abbrev pub invariant-most_operands-loop-step : goal.invariant-most_operands-loop-step
invariant-most_operands-loop-step l =
    max l.most (most_in (left l.step-items l.step-index l.block)) ≡ most_in (code l.block)
