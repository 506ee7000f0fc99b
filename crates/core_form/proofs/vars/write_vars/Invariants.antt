use Rattle.std.proofs.Common.{◌≡◌, ◌++◌, length}
use Rattle.core_form.specs.Text.{vars_text, more_vars}
use Rattle.core_form.proofs.vars.write_vars.Given as goal

abbrev pub invariant-loop-var : goal.invariant-loop-var
invariant-loop-var l = l.text.items ++ more_vars l.rest ≡ l.fn.text.items ++ vars_text l.fn.vars

abbrev pub decreases-loop-var : goal.decreases-loop-var
decreases-loop-var l = length l.rest
