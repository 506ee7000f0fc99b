use Rattle.std.proofs.Common.{[], ◌∷◌, refl, ap, subst}
use Rattle.scheme_base.specs.declared.op.Op.TheVariants as op
use Rattle.quasi_expand.specs.declared.template.Part.TheVariants as part
use Rattle.std.specs.Prelude.{codes}
use Rattle.draft_form.specs.Drafts.{Name, Library, Const, Ref, Call, Prim}
use Rattle.draft_form.specs.Drawn.{Drawn}
use Rattle.draft_form.proofs.DraftsStay.{then_kept}
use Rattle.scheme_expand.specs.Calls.{one, two}
use Rattle.scheme_expand.specs.declared.step.Step.TheVariants as step
use Rattle.scheme_expand.proofs.AddedDrafts.{both_ok}
use Rattle.scheme_expand.proofs.Stacks.{comes_as, is_given, one_given, one_taken, redrawn, two_given, two_taken}
use Rattle.scheme_expand.proofs.make.Maker.part.Goals as goal

pub returns-in-Datum : goal.returns-in-Datum
returns-in-Datum c =
    both_ok c.constant.result
    (λ id kept drawn k v w i h.
    let at = step.Template c.args.pos in
    let e = comes_as k (at c.args.part) (at (part.Datum c.in-Datum.id)) v w (ap at c.in-Datum.is) h in
    is_given k c.args.self.now _ id v w v.made (Const c.args.pos e.0) i (redrawn c.args.self.now c.constant.new.self kept)
    (drawn k.names k.source.nodes.now e.0 e.1) e.2)
    c.constant.ensures.kept c.constant.ensures.drawn

pub returns-in-Rest : goal.returns-in-Rest
returns-in-Rest c =
    both_ok c.constant-in-Rest.result
    (λ id kept drawn k v w i h.
    let at = step.Template c.args.pos in
    let e = comes_as k (at c.args.part) (at (part.Rest c.in-Rest.node c.in-Rest.from)) v w (ap at c.in-Rest.is) h in
    is_given k c.args.self.now _ id v w v.made (Const c.args.pos e.0) i (redrawn c.args.self.now c.constant-in-Rest.new.self kept)
    (drawn k.names k.source.nodes.now e.0 e.1) e.2)
    c.constant-in-Rest.ensures.kept c.constant-in-Rest.ensures.drawn

pub returns-in_ok-car-in-Cons : goal.returns-in_ok-car-in-Cons
returns-in_ok-car-in-Cons c =
    both_ok c.binary.result
    (λ id kept drawn k v w i h.
    let at = step.Template c.args.pos in
    let p = c.args.pos in
    let m = c.take-in-Cons.new.self in
    let cdr = c.in_ok-cdr-in-Cons.cdr in
    let car = c.in_ok-car-in-Cons.car in
    two_given k m _ cdr car id v w (λ d e. Prim p op.Cons (two e d))
    (two_taken k c.args.self.now c.take.new.self m cdr car v i c.in_ok-cdr-in-Cons.ensures c.in_ok-car-in-Cons.ensures)
    (redrawn m c.binary.new.self kept) (λ d e x y. drawn k.names k.source.nodes.now e d y x)
    (comes_as k (at c.args.part) (at part.Cons) v w (ap at c.in-Cons.is) h))
    c.binary.ensures.kept c.binary.ensures.drawn

pub returns-in_ok-join-in-Join : goal.returns-in_ok-join-in-Join
returns-in_ok-join-in-Join c =
    both_ok c.call.result
    (λ id kept drawn k v w i h.
    let at = step.Template c.args.pos in
    let p = c.args.pos in
    let names = k.names in
    let nodes = k.source.nodes.now in
    let m = c.take-in-Join-2.new.self in
    let rest = c.in_ok-rest-in-Join.rest in
    let items = c.in_ok-items-in-Join.items in
    let first = c.in_ok-join-in-Join.ensures.kept in
    let both = two_taken k c.args.self.now c.take-in-Join.new.self m rest items v i c.in_ok-rest-in-Join.ensures c.in_ok-items-in-Join.ensures in
    let P : Name → Type 0 = λ x. Drawn names nodes c.reference.new.self c.in_ok-join-in-Join.join (Ref p x) in
    let operator : P (Library (codes "%join")) = subst P (ap Library both.made.helpers.join) (c.in_ok-join-in-Join.ensures.drawn names nodes) in
    two_given k m _ rest items id v w (λ d e. Call p (Ref p (Library (codes "%join"))) (two e d)) both
    (redrawn m c.call.new.self (then_kept m.drafts c.reference.new.self c.call.new.self first kept))
    (λ d e x y.
    drawn names nodes (Ref p (Library (codes "%join"))) (two e d) operator
    (items, rest ∷ [], refl, first.one names nodes items e y, (rest, [], refl, first.one names nodes rest d x, refl)))
    (comes_as k (at c.args.part) (at part.Join) v w (ap at c.in-Join.is) h))
    c.call.ensures.kept c.call.ensures.drawn

pub returns-in_ok-operator-in-Vector : goal.returns-in_ok-operator-in-Vector
returns-in_ok-operator-in-Vector c =
    both_ok c.call-in-Vector.result
    (λ id kept drawn k v w i h.
    let at = step.Template c.args.pos in
    let p = c.args.pos in
    let names = k.names in
    let nodes = k.source.nodes.now in
    let m = c.take-in-Vector.new.self in
    let items = c.in_ok-items-in-Vector.items in
    let first = c.in_ok-operator-in-Vector.ensures.kept in
    let taken = one_taken k c.args.self.now m items v i c.in_ok-items-in-Vector.ensures in
    let P : Name → Type 0 = λ x. Drawn names nodes c.reference-in-Vector.new.self c.in_ok-operator-in-Vector.operator (Ref p x) in
    let operator : P (Library (codes "list->vector")) = subst P (ap Library taken.made.helpers.list_to_vector) (c.in_ok-operator-in-Vector.ensures.drawn names nodes) in
    one_given k m _ items id v w (λ d. Call p (Ref p (Library (codes "list->vector"))) (one d)) taken
    (redrawn m c.call-in-Vector.new.self (then_kept m.drafts c.reference-in-Vector.new.self c.call-in-Vector.new.self first kept))
    (λ d x.
    drawn names nodes (Ref p (Library (codes "list->vector"))) (one d) operator (items, [], refl, first.one names nodes items d x, refl))
    (comes_as k (at c.args.part) (at part.Vector) v w (ap at c.in-Vector.is) h))
    c.call-in-Vector.ensures.kept c.call-in-Vector.ensures.drawn
