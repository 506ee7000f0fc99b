use Rattle.std.proofs.Common.{None, true, refl, sym, ◌∙◌}
use Rattle.scheme_expand.specs.Shapes.{named_form}
use Rattle.scheme_expand.specs.Waiting.{named_datum, named_data}
use Rattle.scheme_expand.proofs.Adding.{both_kept, kept_both}
use Rattle.scheme_expand.proofs.Bounds.{bound_in, broken_named, named_due}
use Rattle.scheme_expand.proofs.Due.{on_ok}
use Rattle.scheme_expand.proofs.LetTurns.{broken_form, named_is, named_turns}
use Rattle.scheme_expand.proofs.Parts.{read_at, read_in, read_same}
use Rattle.scheme_expand.proofs.expander.Expander.named_let.Goals as goal

pub returns-in_default-clause-fault : goal.returns-in_default-clause-fault
returns-in_default-clause-fault c = λ w ds k h. broken_named c.args.self.now c.bindings.new.self c.args.pos w ds (rw c.in_default.is at (c.in_ok-bindings.ensures.fault ds h))

pub returns-clause-fault : goal.returns-clause-fault
returns-clause-fault c =
    let a = c.args.self.now in
    let z = c.bindings.new.self in
    let p = c.args.pos in
    on_ok c.body.result
    (λ inner w ds k h.
    let i = rw c.in-Some.is at (c.in_ok-bindings.ensures.fault ds h) in
    kept_both a z c.body.new.self _ i.0
    (named_due z _ c.enter.new.self c.wait.new.self c.push_exprs.new.self c.wait-2.new.self c.body.new.self p w ds _ _
    (bound_in a.source z.source true ds _ _ (sym i.0.source) i.1)
    (both_kept z c.name.new.self _ _ (c.in_ok-word.ensures.fault w (read_in a.source z.source c.args.name (named_datum w) (sym i.0.source) k))
    (record { source = refl; steps = refl; fault = refl }))
    (λ ws k. c.in_ok-enter.ensures.fault ws (read_at c.name.new.self.source _ _ (named_data ws) c.deref.ensures.value k))
    (c.in_ok-wait.ensures.fault None (None, None, refl, refl, refl)) (λ es k. c.in_ok-push_exprs.ensures.fault es (read_at c.wait.new.self.source _ _ es c.deref-2.ensures.value k))
    (c.in_ok-wait-2.ensures.fault None (None, None, refl, (None, None, refl, refl, refl), refl)) inner))
    c.body.ensures.fault

pub returns-in_default-clause-core : goal.returns-in_default-clause-core
returns-in_default-clause-core c = λ κ v w ds i k h r.
    let a = c.args.self.now in
    let p = c.args.pos in
    let ids = c.args.operands.now in
    let wrong = rw c.in_default.is at c.in_ok-bindings.ensures.core in
    absurd
    (broken_form p true ds (named_form p w ds) _ (named_is p w ds)
    (λ e. wrong ds e (read_same κ.source a.source ids ids ds ds (sym i.source) refl refl h)) r)

pub returns-clause-core : goal.returns-clause-core
returns-clause-core c =
    let a = c.args.self.now in
    let z = c.bindings.new.self in
    let p = c.args.pos in
    let ids = c.args.operands.now in
    let pairs = c.in-Some.bindings in
    let parts = c.in-Some.body in
    on_ok c.body.result
    (λ inner κ v w ds i k h r.
    let g = rw c.in-Some.is at (c.in_ok-bindings.ensures.fault ds (read_same κ.source a.source ids ids ds ds (sym i.source) refl refl h)) in
    let q = rw c.in-Some.is at c.in_ok-bindings.ensures.core in
    named_turns κ a z c.name.new.self _ c.enter.new.self c.wait.new.self c.push_exprs.new.self c.wait-2.new.self c.body.new.self _ p _ _ _
    _ c.args.name _ w ds pairs parts v i k r g.1 q (λ s. c.in_ok-level.ensures κ.names v.bound s) c.in_ok-word.ensures.core
    (λ v1 v2 y j. c.in_ok-add.ensures κ v1 v2 y j)
    (λ ws v1 y j. c.in_ok-enter.ensures.core κ v1 ws y (read_at κ.source _ _ (named_data ws) c.deref.ensures.value j))
    (record { source = refl; library = refl; changed = refl }) (record { made = refl; drafts = refl; helpers = refl }) refl
    (λ bs xs y s j. c.in_ok-bind.ensures κ.names bs xs y s j) (λ bs s. c.in_ok-inner.ensures κ.names bs s)
    c.in_ok-wait.ensures.core (c.len.ensures ∙ pairs.values.ok.0) c.in_ok-push_exprs.ensures.core c.deref-2.ensures.value
    c.in_ok-wait-2.ensures.core (λ u o y j e. inner κ u o y j e))
    c.body.ensures.core
