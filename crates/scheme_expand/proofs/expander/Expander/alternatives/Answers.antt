use Rattle.std.proofs.Common.{◌∷◌, [], refl, ap, ◌∙◌}
use Rattle.scheme_expand.specs.Waiting.{earlier}
use Rattle.scheme_expand.specs.declared.step.Step.TheVariants as step
use Rattle.scheme_expand.proofs.Adding.{one_waits, kept_both}
use Rattle.scheme_expand.proofs.Due.{of, of_all, on_ok, idle, more_wait, none_left, none_due, last_due}
use Rattle.scheme_expand.proofs.Coming.{nothing_turns, rescoped}
use Rattle.scheme_expand.proofs.MadeForms.{alternatives_turn, below_is, none_alternated}
use Rattle.scheme_expand.specs.Views.{below}
use Rattle.scheme_expand.proofs.expander.Expander.alternatives.Goals as goal

pub returns-in_default-clause-fault : goal.returns-in_default-clause-fault
returns-in_default-clause-fault c = λ ds h.
    none_due c.args.self.now c.args.exprs.now ds (none_left c.args.exprs.now c.in_default.ensures.cases) h

pub returns-clause-fault : goal.returns-clause-fault
returns-clause-fault c =
    let a = c.args.self.now in
    let s = a.source in
    let last = c.in-Some.last.now in
    let others = c.in-Some.others in
    let held = c.saturating_sub-held.result in
    let alternatives = step.Alternatives c.args.pos others held in
    let either = step.Either c.args.pos held in
    on_ok c.wait.result
    (λ w ds h.
    last_due a c.wait.new.self c.args.exprs.now others.now last ds c.in-Some.ensures.cases.0
    (λ os d p q.
    kept_both a _ c.wait.new.self (earlier (of_all os) (of d)) (record { source = refl; steps = refl; fault = refl })
    (w (earlier (of_all os) (of d))
    (more_wait s alternatives (either ∷ step.Expr last ∷ []) (of_all os) (of d) (os, p, refl)
    (idle s either (step.Expr last ∷ []) (of d) refl (one_waits s (step.Expr last) (of d) (d, q, refl))))))
    h)
    c.wait.ensures.fault

pub returns-in_default-clause-core : goal.returns-in_default-clause-core
returns-in_default-clause-core c = λ κ v ds i h r e.
    nothing_turns κ c.args.self.now v _ i
    (none_alternated κ c.args.pos c.args.exprs.now ds v (none_left c.args.exprs.now c.in_default.ensures.cases) h)

pub returns-clause-core : goal.returns-clause-core
returns-clause-core c =
    let a = c.args.self.now in
    let k = c.saturating_sub-held.result in
    on_ok c.wait.result
    (λ put κ v ds i h r e.
    alternatives_turn κ a _ c.wait.new.self c.args.pos c.args.exprs.now c.in-Some.others c.in-Some.last.now k v ds
    c.in-Some.ensures.cases.0 h r (c.saturating_sub-held.ensures ∙ (below_is c.args.level ∙ ap below e))
    (record {
      steps = refl;
      view =
          rescoped κ a _ v _ i (record { source = refl; library = refl; changed = refl })
          (record { made = refl; drafts = refl; helpers = refl }) (c.leave.ensures κ.names v.bound i.made.words i.made.scope);
    })
    put)
    c.wait.ensures.core
