use Rattle.scheme_expand.specs.Forms.{no_binding}
use Rattle.scheme_expand.specs.Grammar.{bound_words, each_definition}
use Rattle.scheme_expand.specs.Rewriting.{names as names_of}
use Rattle.scheme_expand.specs.Views.{bind}
use Rattle.scheme_expand.proofs.Coming.{view_kept}
use Rattle.scheme_expand.proofs.MadeBodies.{plain_body_turns, body_turns, bodies_right, definitions_in, fresh_bound, puts_as}
use Rattle.scheme_expand.specs.Putting.{defined_steps}
use Rattle.std.proofs.Common.{◌≡◌, [], None, length, refl, sym, ap, ◌∙◌, arith}
use Rattle.std.proofs.lemmas.Grind.{common_steps}
use Rattle.scheme_expand.proofs.Bodies.{only_expressions, body_due}
use Rattle.scheme_expand.proofs.Collecting.{definitions_at}
use Rattle.scheme_expand.proofs.Due.{on_ok}
use Rattle.scheme_expand.proofs.Parts.{read_at}
use Rattle.scheme_expand.specs.Waiting.{named_data}
use Rattle.scheme_expand.proofs.expander.Expander.body.Goals as goal

pub returns-then-is_empty-clause-fault : goal.returns-then-is_empty-clause-fault
returns-then-is_empty-clause-fault c =
    let a = c.args.self.now in
    let empty : c.args.body.now.definitions.items ≡ [] = grind (arith, common_steps, c.if-is_empty.ensures) in
    on_ok c.expressions.result
    (λ w x i. only_expressions a c.expressions.new.self c.args.body.now x i empty w)
    c.expressions.ensures.fault

pub returns-clause-fault : goal.returns-clause-fault
returns-clause-fault c =
    let a = c.args.self.now in
    on_ok c.expressions-2.result
    (λ w x i.
    body_due a c.enter.new.self _ c.wait.new.self c.values.new.self c.wait-2.new.self c.expressions-2.new.self c.args.body.now x i
    (λ ws k. c.in_ok-enter.ensures.fault ws (read_at a.source _ _ (named_data ws) c.deref.ensures.value k)) (record { source = refl; steps = refl; fault = refl })
    (c.in_ok-wait.ensures.fault None (None, None, refl, refl, refl))
    (λ ds k. c.in_ok-values.ensures.fault ds (definitions_at c.wait.new.self.source _ _ ds c.deref-3.ensures.value k))
    (c.in_ok-wait-2.ensures.fault None (None, None, refl, refl, refl)) w)
    c.expressions-2.ensures.fault

pub returns-then-is_empty-clause-core : goal.returns-then-is_empty-clause-core
returns-then-is_empty-clause-core c =
    let a = c.args.self.now in
    let empty : c.args.body.now.definitions.items ≡ [] = grind (arith, common_steps, c.if-is_empty.ensures) in
    on_ok c.expressions.result
    (λ w κ v x i h r. plain_body_turns κ a c.expressions.new.self c.args.pos c.args.body.now x v h r empty (λ ds k l. w κ v ds i k l))
    c.expressions.ensures.core

pub returns-clause-core : goal.returns-clause-core
returns-clause-core c =
    let a = c.args.self.now in
    let some : c.args.body.now.definitions.items ≡ [] → ⊥ = λ e. grind (arith, common_steps, c.if-is_empty.ensures, e) in
    on_ok c.expressions-2.result
    (λ w κ v x i h r.
    let ws = bound_words (each_definition h.defs no_binding) in
    let u = bind (names_of ws) v in
    let enter = c.in_ok-enter.ensures.core κ v ws i (read_at κ.source _ _ (named_data ws) c.deref.ensures.value h.names) in
    let fresh =
    fresh_bound κ c.enter.new.self _ c.len.result u enter.view refl (record { source = refl; library = refl; changed = refl })
    (record { made = refl; drafts = refl; helpers = refl })
    (c.in_ok-bind_all_fresh.ensures κ.names u.bound enter.view.made.words enter.view.made.scope)
    in
    let many : c.len.result ≡ length c.args.body.now.names.items = omega (arith, c.len.ensures, c.args.body.now.names.ok.0) in
    let right = (bodies_right c.args.body.now κ.source x h r).0 in
    body_turns κ a c.enter.new.self _ c.wait.new.self c.values.new.self c.wait-2.new.self c.expressions-2.new.self c.args.pos
    c.in_ok-level.level c.in_ok-inner.inner _ _ c.args.body.now x v h r some enter fresh many c.in_ok-wait.ensures.core
    (puts_as c.wait.new.self c.values.new.self _ _ (ap defined_steps c.deref-3.ensures.value) (c.in_ok-values.ensures.core h.defs (definitions_at c.wait.new.self.source _ _ h.defs c.deref-3.ensures.value (definitions_in κ.source c.wait.new.self.source c.args.body.now.definitions.items h.defs (sym (c.in_ok-wait.ensures.core.same.source ∙ enter.view.source)) h.are)) right)) c.in_ok-wait-2.ensures.core (c.in_ok-level.ensures κ.names v.bound i.made.scope)
    (c.in_ok-inner.ensures κ.names u.bound enter.view.made.scope) (c.define_lambdas-all_lambdas.ensures h.defs (definitions_at c.enter.new.self.source _ _ h.defs c.deref-2.ensures.value (definitions_in κ.source c.enter.new.self.source c.args.body.now.definitions.items h.defs (sym enter.view.source) h.are)) right)
    (λ z j l. w κ z h.items j h.rest l))
    c.expressions-2.ensures.core
