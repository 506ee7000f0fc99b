-- What is left comes last, the last first.
use Rattle.std.proofs.Common.{◌≡◌, ◌++◌, reverse, length}
use Rattle.draft_form.proofs.order.push_reversed.Given as goal

abbrev pub invariant-loop-last : goal.invariant-loop-last
invariant-loop-last l = l.to.items ++ reverse l.rest ≡ l.fn.to.items ++ reverse l.fn.ids

abbrev pub decreases-loop-last : goal.decreases-loop-last
decreases-loop-last l = length l.rest
