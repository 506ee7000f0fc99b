use Rattle.std.proofs.Common.{◌≡◌, [], ◌∷◌, ◌++◌, refl, ap, ◌∙◌, arith}
use Rattle.std.proofs.lemmas.Grind.{common_steps}
use Rattle.draft_form.specs.Drafts.{parts}
use Rattle.scheme_expand.proofs.TextInOrder.{walk_begun, walk_on, walk_ended}
use Rattle.scheme_expand.proofs.order.preorder.Goals as goal

pub loop-turn-init : goal.loop-turn-init
loop-turn-init c = λ names nodes e drawn.
    walk_begun names nodes c.args.drafts.now c.push.new.self.items c.args.order.now.items c.args.order.now.items c.args.form e
    (c.in_ok-push.ensures.items ∙ ap (λ is. is ++ c.args.form ∷ []) c.new-waiting.ensures.items) refl drawn

pub loop-turn-preserved : goal.loop-turn-preserved
loop-turn-preserved c = λ names nodes e drawn.
    walk_on names nodes c.args.drafts.now c.loop-turn.waiting.items c.pop.new.self.items c.push_parts.new.to.items c.args.order.now.items
    c.loop-turn.order.items c.push-in-loop-turn.new.self.items c.in-Some.id c.in_ok-draft.draft.now (parts e) (c.loop-turn.invariant names nodes e drawn)
    c.in-Some.ensures.items c.in_ok-draft.ensures c.in_ok-push-2.ensures.items c.in_ok-push_parts.ensures

pub returns-in_default : goal.returns-in_default
returns-in_default c = λ names nodes e drawn.
    let empty : c.loop-turn.waiting.items ≡ [] = grind (arith, common_steps, c.in_default.ensures.cases) in
    walk_ended names nodes c.args.drafts.now c.loop-turn.waiting.items c.args.order.now.items c.loop-turn.order.items (parts e)
    (c.loop-turn.invariant names nodes e drawn) empty
