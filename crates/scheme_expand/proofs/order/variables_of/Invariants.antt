-- The variables of the expressions so far.
use Rattle.std.proofs.Common.{◌≡◌, take}
use Rattle.scheme_expand.specs.ByWord.{variables_at}
use Rattle.scheme_expand.proofs.order.variables_of.Given as goal

abbrev pub invariant-loop-id : goal.invariant-loop-id
invariant-loop-id l = l.variables.items ≡ variables_at l.drafts.exprs.items (take l.id-index l.order)
