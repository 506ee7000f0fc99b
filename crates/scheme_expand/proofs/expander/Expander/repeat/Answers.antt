use Rattle.std.proofs.Common.{None, refl, sym, ap, ◌∙◌, arith}
use Rattle.scheme_expand.specs.Shapes.{those}
use Rattle.scheme_expand.specs.Grammar.{step_words}
use Rattle.scheme_expand.specs.Waiting.{named_data}
use Rattle.scheme_expand.proofs.Adding.{kept_both}
use Rattle.scheme_expand.proofs.Bodies.{all_in}
use Rattle.scheme_expand.proofs.DoParts.{repeat_due}
use Rattle.scheme_expand.proofs.Due.{of, of_all, on_ok}
use Rattle.scheme_expand.proofs.Least.{earlier_none}
use Rattle.scheme_expand.proofs.LoopTurns.{loop_turns}
use Rattle.scheme_expand.proofs.Parts.{read_at, read_in}
use Rattle.scheme_expand.proofs.expander.Expander.repeat.Goals as goal

pub returns-clause-fault : goal.returns-clause-fault
returns-clause-fault c =
    let a = c.args.self.now in
    let b = c.enter.new.self in
    let d = c.push_exprs.new.self in
    let e = c.wait-2.new.self in
    let f = c.next_values.new.self in
    let g = c.wait-3.new.self in
    let h = c.results.new.self in
    let p = c.args.pos in
    on_ok c.wait-4.result
    (λ w ss t rs cs i rt rr rc.
    let names =
    kept_both a _ b _ (record { source = refl; steps = refl; fault = refl }) (c.in_ok-enter.ensures.fault (step_words ss) (read_at a.source _ _ _ c.deref.ensures.value i.names))
    in
    let call = c.in_ok-wait.ensures.fault None (None, None, refl, refl, refl) in
    let s1 = sym (call.source ∙ names.source) in
    let inits = c.in_ok-push_exprs.ensures.fault i.first (read_at c.wait.new.self.source _ _ i.first c.deref-2.ensures.value (all_in a.source c.wait.new.self.source _ i.first s1 i.inits)) in
    let lambda =
    c.in_ok-wait-2.ensures.fault None
    (None, None, refl, (None, None, refl, (None, None, refl, (None, None, refl, (None, None, refl, refl, refl), refl), refl), refl), refl)
    in
    let s2 = s1 ∙ sym (lambda.source ∙ inits.source) in
    let next = c.in_ok-next_values.ensures.fault i.next (read_at e.source _ _ i.next (ap those c.deref-3.ensures.value) (all_in a.source e.source _ i.next s2 i.steps)) in
    let s3 = s2 ∙ sym next.source in
    let commands =
    c.in_ok-wait-3.ensures.fault (of_all cs) (
      None,
      of_all cs,
      refl,
      (of_all cs, None, (cs, all_in a.source f.source _ cs s3 rc, refl), refl, sym (earlier_none (of_all cs))),
      refl,
    )
    in
    let s4 = s3 ∙ sym commands.source in
    let results = c.in_ok-results.ensures.fault rs (all_in a.source g.source _ rs s4 rr) in
    let s5 = s4 ∙ sym results.source in
    repeat_due a b c.wait.new.self d e f g h c.wait-4.new.self c.args.turns.now ss t rs cs i names call inits lambda next commands results
    (w (of t)
    (of t, None, (t, read_in a.source h.source c.args.parts.test t s5 rt, refl), (None, None, refl, refl, refl), sym (earlier_none (of t)))))
    c.wait-4.ensures.fault

pub returns-clause-core : goal.returns-clause-core
returns-clause-core c =
    let a = c.args.self.now in
    let turns = c.args.turns.now in
    on_ok c.wait-4.result
    (λ w κ v ss t rs cs i are rt rr rc single right.
    loop_turns κ a _ c.enter.new.self c.wait.new.self c.push_exprs.new.self c.wait-2.new.self c.next_values.new.self
    c.wait-3.new.self c.results.new.self c.wait-4.new.self c.args.pos _ _ _ _ _ _ _ _ _ turns ss t rs cs v i are
    rt rr rc single right (c.in_ok-level.ensures κ.names v.bound i.made.scope) refl
    (record { source = refl; library = refl; changed = refl }) (record { made = refl; drafts = refl; helpers = refl })
    (c.in_ok-bind_fresh.ensures κ.names v.bound i.made.words i.made.scope)
    (λ s. c.in_ok-inner.ensures κ.names _ s)
    (λ ws u j k. c.in_ok-enter.ensures.core κ u ws j (read_at κ.source _ _ (named_data ws) c.deref.ensures.value k))
    c.in_ok-wait.ensures.core c.in_ok-push_exprs.ensures.core c.deref-2.ensures.value c.in_ok-wait-2.ensures.core
    (λ u j k l. c.in_ok-next_values.ensures.core κ u j k l) c.deref-3.ensures.value c.in_ok-wait-3.ensures.core
    c.in_ok-results.ensures.core w (c.len-count.ensures ∙ turns.names.ok.0) (omega (arith, c.in-Some.ensures)))
    c.wait-4.ensures.core
