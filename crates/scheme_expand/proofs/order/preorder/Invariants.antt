-- What is listed so far, with what waits, is the text.
use Rattle.draft_form.specs.Drafts.{Draft, parts}
use Rattle.draft_form.specs.Drawn.{Names, Data, Drawn}
use Rattle.scheme_expand.proofs.TextInOrder.{Waits}
use Rattle.scheme_expand.proofs.order.preorder.Given as goal

abbrev pub invariant-loop-turn : goal.invariant-loop-turn
invariant-loop-turn l =
    (names : Names) (nodes : Data) (e : Draft) → Drawn names nodes l.drafts l.form e
    → Waits names nodes l.drafts l.waiting.items l.initial.order.items l.order.items (parts e)
