use Rattle.std.proofs.Common.{None, [], ◌∷◌, refl, sym, ap}
use Rattle.scheme_expand.specs.Putting.{next_step}
use Rattle.scheme_expand.proofs.MadeBodies.{puts_as}
use Rattle.scheme_expand.specs.declared.step.Step.TheVariants as step
use Rattle.scheme_expand.proofs.Adding.{one_waits}
use Rattle.scheme_expand.proofs.NextValues.{one_next, no_next}
use Rattle.scheme_expand.proofs.Due.{of, on_ok}
use Rattle.scheme_expand.proofs.expander.Expander.next_value.Goals as goal

pub returns-in-Some-clause-fault : goal.returns-in-Some-clause-fault
returns-in-Some-clause-fault c =
    let a = c.args.self.now in
    on_ok c.wait.result
    (λ w ds h.
    one_next a c.wait.new.self c.args.step c.in-Some.id ds h c.in-Some.is
    (λ d k. w (of d) (one_waits a.source (step.Expr c.in-Some.id) (of d) (d, k, refl))))
    c.wait.ensures.fault

pub returns-in-None-clause-fault : goal.returns-in-None-clause-fault
returns-in-None-clause-fault c =
    let a = c.args.self.now in
    on_ok c.wait-in-None.result
    (λ w ds h.
    no_next a c.wait-in-None.new.self c.args.step ds h c.in-None.is
    (w None (one_waits a.source (step.Reference c.args.pos c.args.variable) None refl)))
    c.wait-in-None.ensures.fault

pub returns-in-Some-clause-core : goal.returns-in-Some-clause-core
returns-in-Some-clause-core c =
    on_ok c.wait.result
    (λ put.
    puts_as c.args.self.now c.wait.new.self _ _ (ap (λ o. next_step c.args.pos o c.args.variable ∷ []) (sym c.in-Some.is)) put)
    c.wait.ensures.core

pub returns-in-None-clause-core : goal.returns-in-None-clause-core
returns-in-None-clause-core c =
    on_ok c.wait-in-None.result
    (λ put.
    puts_as c.args.self.now c.wait-in-None.new.self _ _ (ap (λ o. next_step c.args.pos o c.args.variable ∷ []) (sym c.in-None.is)) put)
    c.wait-in-None.ensures.core
