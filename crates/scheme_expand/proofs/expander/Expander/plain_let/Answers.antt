use Rattle.std.proofs.Common.{None, true, refl, sym, ◌∙◌}
use Rattle.scheme_expand.proofs.Adding.{kept_both}
use Rattle.scheme_expand.proofs.Bounds.{bound_in, broken_bound, let_due}
use Rattle.scheme_expand.proofs.Due.{on_ok}
use Rattle.scheme_expand.proofs.LetTurns.{broken_form, let_is, let_turns}
use Rattle.scheme_expand.specs.Shapes.{bound_form}
use Rattle.scheme_expand.specs.Waiting.{named_data}
use Rattle.scheme_expand.proofs.Parts.{read_at, read_same}
use Rattle.scheme_expand.proofs.expander.Expander.plain_let.Goals as goal

pub returns-in_default-clause-fault : goal.returns-in_default-clause-fault
returns-in_default-clause-fault c = λ ds h. broken_bound c.args.self.now c.bindings.new.self true c.args.pos ds (rw c.in_default.is at (c.in_ok-bindings.ensures.fault ds h))

pub returns-clause-fault : goal.returns-clause-fault
returns-clause-fault c =
    let a = c.args.self.now in
    let z = c.bindings.new.self in
    let p = c.args.pos in
    on_ok c.body.result
    (λ w ds h.
    let i = rw c.in-Some.is at (c.in_ok-bindings.ensures.fault ds h) in
    kept_both a z c.body.new.self _ i.0
    (let_due z c.enter.new.self c.wait.new.self c.push_exprs.new.self c.wait-2.new.self c.body.new.self true p ds _ _
    (bound_in a.source z.source true ds _ _ (sym i.0.source) i.1) (λ ws k. c.in_ok-enter.ensures.fault ws (read_at z.source _ _ (named_data ws) c.deref.ensures.value k))
    (c.in_ok-wait.ensures.fault None (None, None, refl, refl, refl)) (λ es k. c.in_ok-push_exprs.ensures.fault es (read_at c.wait.new.self.source _ _ es c.deref-2.ensures.value k))
    (c.in_ok-wait-2.ensures.fault None (None, None, refl, refl, refl)) w))
    c.body.ensures.fault

pub returns-in_default-clause-core : goal.returns-in_default-clause-core
returns-in_default-clause-core c = λ κ v ds i h r.
    let a = c.args.self.now in
    let p = c.args.pos in
    let ids = c.args.operands.now in
    let wrong = rw c.in_default.is at c.in_ok-bindings.ensures.core in
    absurd
    (broken_form p true ds (bound_form true p ds) _ (let_is p ds)
    (λ e. wrong ds e (read_same κ.source a.source ids ids ds ds (sym i.source) refl refl h)) r)

pub returns-clause-core : goal.returns-clause-core
returns-clause-core c =
    let a = c.args.self.now in
    let z = c.bindings.new.self in
    let p = c.args.pos in
    let ids = c.args.operands.now in
    let pairs = c.in-Some.bindings in
    let parts = c.in-Some.body in
    on_ok c.body.result
    (λ w κ v ds i h r.
    let g = rw c.in-Some.is at (c.in_ok-bindings.ensures.fault ds (read_same κ.source a.source ids ids ds ds (sym i.source) refl refl h)) in
    let q = rw c.in-Some.is at c.in_ok-bindings.ensures.core in
    let_turns κ a z c.enter.new.self c.wait.new.self c.push_exprs.new.self c.wait-2.new.self c.body.new.self p _ _ _ ds pairs parts v
    i r g.1 q (λ s. c.in_ok-level.ensures κ.names v.bound s)
    (λ ws y k. c.in_ok-enter.ensures.core κ v ws y (read_at κ.source _ _ (named_data ws) c.deref.ensures.value k))
    c.in_ok-wait.ensures.core (c.len.ensures ∙ pairs.values.ok.0) c.in_ok-push_exprs.ensures.core c.deref-2.ensures.value
    c.in_ok-wait-2.ensures.core (λ u o y k e. w κ u o y k e))
    c.body.ensures.core
