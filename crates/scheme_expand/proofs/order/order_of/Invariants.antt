-- The expressions of the forms so far are listed.
use Rattle.std.proofs.Common.{take}
use Rattle.draft_form.specs.Drawn.{Names, Data}
use Rattle.scheme_expand.proofs.TextInOrder.{IsOrder}
use Rattle.scheme_expand.proofs.order.order_of.Given as goal

abbrev pub invariant-loop-form : goal.invariant-loop-form
invariant-loop-form l = (names : Names) (nodes : Data) → IsOrder names nodes l.drafts (take l.form-index l.forms) l.order.items
