use Rattle.std.proofs.Common.{None, [], ◌∷◌, refl, sym, ap}
use Rattle.scheme_expand.specs.Putting.{part_step}
use Rattle.scheme_expand.specs.declared.step.Step.TheVariants as step
use Rattle.scheme_expand.proofs.Adding.{one_waits}
use Rattle.scheme_expand.proofs.Due.{of, on_ok}
use Rattle.scheme_expand.proofs.TemplateSteps.{one_step, no_step}
use Rattle.scheme_expand.proofs.TemplateViews.{other_step}
use Rattle.scheme_expand.proofs.MadeBodies.{puts_as}
use Rattle.scheme_expand.proofs.expander.Expander.template_step.Goals as goal

pub returns-in-Expr-clause-fault : goal.returns-in-Expr-clause-fault
returns-in-Expr-clause-fault c =
    let a = c.args.self.now in
    on_ok c.wait.result
    (λ w ds h.
    one_step a c.wait.new.self c.args.part c.in-Expr.expr ds h c.in-Expr.is
    (λ d k. w (of d) (one_waits a.source (step.Expr c.in-Expr.expr) (of d) (d, k, refl))))
    c.wait.ensures.fault

pub returns-in_default-clause-fault : goal.returns-in_default-clause-fault
returns-in_default-clause-fault c =
    let a = c.args.self.now in
    on_ok c.wait-in_default.result
    (λ w ds h.
    no_step a c.wait-in_default.new.self c.args.part ds h c.in_default.not-Expr
    (w None (one_waits a.source (step.Template c.args.pos c.args.part) None refl)))
    c.wait-in_default.ensures.fault

pub returns-in-Expr-clause-core : goal.returns-in-Expr-clause-core
returns-in-Expr-clause-core c =
    on_ok c.wait.result
    (λ put. puts_as c.args.self.now c.wait.new.self _ _ (ap (λ x. part_step c.args.pos x ∷ []) (sym c.in-Expr.is)) put)
    c.wait.ensures.core

pub returns-in_default-clause-core : goal.returns-in_default-clause-core
returns-in_default-clause-core c =
    on_ok c.wait-in_default.result
    (λ put.
    puts_as c.args.self.now c.wait-in_default.new.self _ _
    (ap (λ x. x ∷ []) (sym (other_step c.args.pos c.args.part c.in_default.not-Expr))) put)
    c.wait-in_default.ensures.core
