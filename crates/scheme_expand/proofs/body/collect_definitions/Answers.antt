use Rattle.std.proofs.Common.{◌++◌, ◌∷◌, [], refl, sym, ap, ◌∙◌}
use Rattle.scheme_expand.proofs.Collecting.{none_collected, one_collected, begin_collected, not_collected, all_collected}
use Rattle.scheme_expand.proofs.Due.{none_left}
use Rattle.scheme_expand.proofs.body.collect_definitions.Goals.{then-defines+in_ok-push-2, else-defines+in-Some-begun+in_ok-push_reversed-in-Some-begun}
use Rattle.scheme_expand.proofs.body.collect_definitions.Goals as goal

pub loop-turn-init : goal.loop-turn-init
loop-turn-init c = λ d h.
    none_collected c.args.source c.args.item d _ _ _ h refl
    (c.in_ok-push.ensures.items ∙ ap (λ l. l ++ c.args.item ∷ []) c.new-items.ensures.items)

pub returns-in_default : goal.returns-in_default
returns-in_default c = λ d h.
    all_collected c.args.source d _ _ c.loop-turn.items.items (c.loop-turn.invariant d h)
    (none_left c.loop-turn.items.items (sym c.loop-turn.items.ok.0 ∙ c.in_default.ensures.cases.0))

pub loop-turn-preserved : goal.loop-turn-preserved
loop-turn-preserved c = λ d h.
    elim c.if-defines.branch [
      | then-defines+in_ok-push-2 w ↦
          one_collected c.args.source d _ _ c.if-defines.definitions.items c.loop-turn.items.items c.if-defines.items.items c.in-Some.id
          (c.loop-turn.invariant d h) (c.in-Some.ensures.items ∙ ap (λ v. v.items ++ c.in-Some.id ∷ []) (sym w.items-is))
          (ap (λ v. v.items) w.definitions-is ∙ w.in_ok-push-2.ensures.items)
          (λ e k. sym (c.defines.ensures e k) ∙ w.if-defines.true)
      | else-defines+in-Some-begun+in_ok-push_reversed-in-Some-begun w ↦
          begin_collected c.args.source d _ c.loop-turn.definitions.items c.if-defines.definitions.items c.loop-turn.items.items
          c.pop.new.self.items c.if-defines.items.items w.in-Some-begun.inner.now c.in-Some.id (c.loop-turn.invariant d h)
          c.in-Some.ensures.items (ap (λ v. v.items) w.items-is ∙ w.in_ok-push_reversed-in-Some-begun.ensures)
          (ap (λ v. v.items) w.definitions-is) (λ e k. sym (c.defines.ensures e k) ∙ w.if-defines.false) w.in-Some-begun.ensures
    ]

pub returns-in-None : goal.returns-in-None
returns-in-None c = λ d h.
    not_collected c.args.source d c.args.definitions.now.items c.loop-turn.definitions.items _ c.loop-turn.items.items
    c.pop.new.self.items c.in-Some.id _ (c.loop-turn.invariant d h) c.in-Some.ensures.items
    (λ e k. sym (c.defines.ensures e k) ∙ c.if-defines.false) c.in-None.ensures c.truncate.ensures.items
    (c.len-start.ensures ∙ c.args.definitions.now.ok.0)
