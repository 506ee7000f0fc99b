use Rattle.std.proofs.Common.{◌∷◌, [], refl}
use Rattle.scheme_expand.specs.Waiting.{earlier}
use Rattle.scheme_expand.specs.declared.step.Step.TheVariants as step
use Rattle.scheme_expand.proofs.Adding.{one_waits}
use Rattle.scheme_expand.proofs.Due.{of, of_all, on_ok, idle, more_wait, none_left, none_due, last_due}
use Rattle.scheme_expand.proofs.Coming.{nothing_turns}
use Rattle.scheme_expand.proofs.MadeForms.{conjuncts_turn, none_conjoined}
use Rattle.scheme_expand.proofs.expander.Expander.conjuncts.Goals as goal

pub returns-in_default-clause-fault : goal.returns-in_default-clause-fault
returns-in_default-clause-fault c = λ ds h. none_due c.args.self.now c.args.exprs.now ds (none_left c.args.exprs.now c.in_default.ensures.cases) h

pub returns-clause-fault : goal.returns-clause-fault
returns-clause-fault c =
    let a = c.args.self.now in
    let s = a.source in
    let last = c.in-Some.last.now in
    let others = c.in-Some.others in
    on_ok c.wait.result
    (λ w ds h.
    last_due a c.wait.new.self c.args.exprs.now others.now last ds c.in-Some.ensures.cases.0
    (λ os d p q.
    w (earlier (of_all os) (of d))
    (more_wait s (step.Conjuncts c.args.pos others) (step.Both c.args.pos ∷ step.Expr last ∷ []) (of_all os) (of d) (os, p, refl)
    (idle s (step.Both c.args.pos) (step.Expr last ∷ []) (of d) refl
    (one_waits s (step.Expr last) (of d) (d, q, refl)))))
    h)
    c.wait.ensures.fault

pub returns-in_default-clause-core : goal.returns-in_default-clause-core
returns-in_default-clause-core c = λ κ v ds i h r.
    nothing_turns κ c.args.self.now v _ i
    (none_conjoined κ c.args.pos c.args.exprs.now ds v (none_left c.args.exprs.now c.in_default.ensures.cases) h)

pub returns-clause-core : goal.returns-clause-core
returns-clause-core c =
    on_ok c.wait.result
    (λ put κ v ds i h r.
    conjuncts_turn κ c.args.self.now c.wait.new.self c.args.pos c.args.exprs.now c.in-Some.others c.in-Some.last.now v ds i
    c.in-Some.ensures.cases.0 h r put)
    c.wait.ensures.core
