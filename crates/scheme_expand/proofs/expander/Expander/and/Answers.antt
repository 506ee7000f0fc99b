use Rattle.std.proofs.Common.{◌∷◌, [], true, refl}
use Rattle.scheme_base.specs.Constants.{Constant as constant}
use Rattle.scheme_expand.specs.Forms.{And}
use Rattle.scheme_expand.specs.Waiting.{earlier}
use Rattle.scheme_expand.specs.declared.step.Step.TheVariants as step
use Rattle.scheme_expand.proofs.Adding.{one_waits}
use Rattle.scheme_expand.proofs.Due.{of, of_all, on_ok, any_ok, more_wait, none_left, none_kept, last_due}
use Rattle.scheme_expand.proofs.MadeForms.{and_turns, none_turns}
use Rattle.scheme_expand.proofs.expander.Expander.and.Goals as goal

pub returns-in_default-clause-fault : goal.returns-in_default-clause-fault
returns-in_default-clause-fault c =
    any_ok c.constant.result
    (λ ds h.
    none_kept c.args.self.now c.constant.new.self c.args.operands.now ds (none_left c.args.operands.now c.in_default.ensures.cases)
    c.constant.ensures.fault h)

pub returns-clause-fault : goal.returns-clause-fault
returns-clause-fault c =
    let a = c.args.self.now in
    let s = a.source in
    let last = c.in-Some.last.now in
    let others = c.in-Some.others in
    on_ok c.wait.result
    (λ w ds h.
    last_due a c.wait.new.self c.args.operands.now others.now last ds c.in-Some.ensures.cases.0
    (λ os d p q.
    w (earlier (of_all os) (of d))
    (more_wait s (step.Conjuncts c.args.pos others) (step.Expr last ∷ []) (of_all os) (of d) (os, p, refl)
    (one_waits s (step.Expr last) (of d) (d, q, refl))))
    h)
    c.wait.ensures.fault

pub returns-clause-core : goal.returns-clause-core
returns-clause-core c =
    on_ok c.wait.result
    (λ put κ v ds i h r.
    and_turns κ c.args.self.now c.wait.new.self c.args.pos c.args.operands.now c.in-Some.others c.in-Some.last.now v ds i
    c.in-Some.ensures.cases.0 h r put)
    c.wait.ensures.core

pub returns-in_default-clause-core : goal.returns-in_default-clause-core
returns-in_default-clause-core c =
    on_ok c.constant.result
    (λ w κ v ds i h r.
    none_turns κ c.args.self.now c.constant.new.self c.args.pos c.args.operands.now (constant.Boolean true) (λ es. And c.args.pos es)
    v ds (none_left c.args.operands.now c.in_default.ensures.cases) h refl (w κ v (constant.Boolean true) i refl))
    c.constant.ensures.core
