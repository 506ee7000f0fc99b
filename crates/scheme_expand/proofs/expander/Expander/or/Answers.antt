use Rattle.std.proofs.Common.{◌∷◌, [], false, refl}
use Rattle.scheme_base.specs.Constants.{Constant as constant}
use Rattle.scheme_expand.specs.Forms.{Or}
use Rattle.scheme_expand.specs.Waiting.{earlier}
use Rattle.scheme_expand.specs.declared.step.Step.TheVariants as step
use Rattle.scheme_expand.proofs.Adding.{one_waits, kept_both}
use Rattle.scheme_expand.proofs.Due.{of, of_all, on_ok, any_ok, more_wait, none_left, none_kept, last_due}
use Rattle.scheme_expand.proofs.Coming.{rescoped}
use Rattle.scheme_expand.proofs.MadeForms.{or_turns, none_turns}
use Rattle.scheme_expand.proofs.expander.Expander.or.Goals as goal

pub returns-in_default-clause-fault : goal.returns-in_default-clause-fault
returns-in_default-clause-fault c =
    any_ok c.constant.result
    (λ ds h.
    none_kept c.args.self.now c.constant.new.self c.args.operands.now ds (none_left c.args.operands.now c.in_default.ensures.cases)
    c.constant.ensures.fault h)

pub returns-clause-fault : goal.returns-clause-fault
returns-clause-fault c =
    let a = c.args.self.now in
    let s = a.source in
    let last = c.in-Some.last.now in
    let others = c.in-Some.others in
    let alternatives = step.Alternatives c.args.pos others c.in_ok-level.level in
    on_ok c.wait.result
    (λ w ds h.
    last_due a c.wait.new.self c.args.operands.now others.now last ds c.in-Some.ensures.cases.0
    (λ os d p q.
    kept_both a _ c.wait.new.self (earlier (of_all os) (of d)) (record { source = refl; steps = refl; fault = refl })
    (w (earlier (of_all os) (of d))
    (more_wait s alternatives (step.Expr last ∷ []) (of_all os) (of d) (os, p, refl)
    (one_waits s (step.Expr last) (of d) (d, q, refl)))))
    h)
    c.wait.ensures.fault

pub returns-clause-core : goal.returns-clause-core
returns-clause-core c =
    let a = c.args.self.now in
    on_ok c.wait.result
    (λ put κ v ds i h r.
    let scope = c.in_ok-bind_all_fresh.ensures κ.names v.bound i.made.words i.made.scope in
    or_turns κ a _ c.wait.new.self c.args.pos c.args.operands.now c.in-Some.others c.in-Some.last.now c.in_ok-level.level _
    v ds c.in-Some.ensures.cases.0 h r refl
    (record {
      steps = refl;
      view =
          rescoped κ a _ v _ i (record { source = refl; library = refl; changed = refl })
          (record { made = refl; drafts = refl; helpers = refl }) scope;
    })
    (c.in_ok-level.ensures κ.names _ scope) put)
    c.wait.ensures.core

pub returns-in_default-clause-core : goal.returns-in_default-clause-core
returns-in_default-clause-core c =
    on_ok c.constant.result
    (λ w κ v ds i h r.
    none_turns κ c.args.self.now c.constant.new.self c.args.pos c.args.operands.now (constant.Boolean false) (λ es. Or c.args.pos es)
    v ds (none_left c.args.operands.now c.in_default.ensures.cases) h refl (w κ v (constant.Boolean false) i refl))
    c.constant.ensures.core
