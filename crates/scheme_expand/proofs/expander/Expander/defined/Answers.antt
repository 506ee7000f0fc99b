use Rattle.scheme_expand.proofs.Parts.{read_in}
use Rattle.scheme_expand.proofs.MadeBodies.{value_turns, procedure_value_turns, not_defined}
use Rattle.scheme_expand.proofs.Due.{any_ok}
use Rattle.scheme_expand.specs.declared.body.Defined.TheVariants as defined
use Rattle.scheme_expand.proofs.Bodies.{expression_due, lambda_value_due}
use Rattle.scheme_expand.proofs.Adding.{due, one_waits}
use Rattle.scheme_expand.proofs.Definitions.{value_of}
use Rattle.scheme_expand.proofs.Due.{of, on_ok}
use Rattle.std.proofs.Common.{◌∷◌, [], refl, sym, ap, ◌∙◌}
use Rattle.scheme_expand.specs.declared.step.Step.TheVariants as step
use Rattle.scheme_expand.specs.Faults.{fault, least}
use Rattle.scheme_expand.specs.Forms.{no_binding}
use Rattle.scheme_expand.specs.Noted.{number_of}
use Rattle.scheme_expand.specs.Waiting.{in_values}
use Rattle.scheme_expand.proofs.expander.Expander.defined.Goals as goal

pub returns-in-Expr-clause-fault : goal.returns-in-Expr-clause-fault
returns-in-Expr-clause-fault c =
    let a = c.args.self.now in
    on_ok c.wait.result
    (λ w d h t.
    expression_due a c.wait.new.self c.in-Ok.definition d c.in-Expr.value (c.in-Ok.ensures d h t) c.in-Expr.is
    (λ e k. w (of e) (one_waits a.source (step.Expr c.in-Expr.value) (of e) (e, k, refl))))
    c.wait.ensures.fault

pub returns-in-Procedure-clause-fault : goal.returns-in-Procedure-clause-fault
returns-in-Procedure-clause-fault c =
    let a = c.args.self.now in
    on_ok c.procedure.result
    (λ w d h t.
    lambda_value_due a c.procedure.new.self c.in-Ok.definition d c.in-Procedure.formals
    (defined.Procedure c.in-Procedure.formals c.in-Procedure.body) c.in-Procedure.body.now c.pos-pos.result
    (c.in-Ok.ensures d h t) c.in-Procedure.is (λ i. i) (c.pos-pos.ensures d h) w)
    c.procedure.ensures.fault

pub returns-in-Err-clause-fault : goal.returns-in-Err-clause-fault
returns-in-Err-clause-fault c =
    let a = c.args.self.now in
    on_ok c.broken.result
    (λ w d h t.
    due a c.broken.new.self (least (fault c.pos-pos.result (number_of c.in-Err.rule) ∷ [])) (value_of d)
    (ap (λ p. least (fault p (number_of c.in-Err.rule) ∷ [])) (c.pos-pos.ensures d h)
    ∙ ap (λ bs. least (in_values bs)) (sym (c.in-Err.ensures d h t no_binding)))
    w)
    c.broken.ensures

pub returns-in-Expr-clause-core : goal.returns-in-Expr-clause-core
returns-in-Expr-clause-core c =
    let a = c.args.self.now in
    on_ok c.wait.result
    (λ p κ v d e i h g k.
    value_turns κ a c.wait.new.self c.in-Ok.definition d c.in-Expr.value e v i g k
    (c.in-Ok.ensures d (read_in κ.source a.source _ d (sym i.source) h) g.define) c.in-Expr.is p)
    c.wait.ensures.core

pub returns-in-Procedure-clause-core : goal.returns-in-Procedure-clause-core
returns-in-Procedure-clause-core c =
    let a = c.args.self.now in
    on_ok c.procedure.result
    (λ w κ v d e i h g k.
    let r = read_in κ.source a.source _ d (sym i.source) h in
    procedure_value_turns κ a c.procedure.new.self c.in-Ok.definition d c.in-Procedure.formals
    (defined.Procedure c.in-Procedure.formals c.in-Procedure.body) c.in-Procedure.body.now c.pos-pos.result e v i g k
    (c.in-Ok.ensures d r g.define) c.in-Procedure.is (λ x. x) (c.pos-pos.ensures d r) w)
    c.procedure.ensures.core

pub returns-in-Err-clause-core : goal.returns-in-Err-clause-core
returns-in-Err-clause-core c =
    let a = c.args.self.now in
    any_ok c.broken.result
    (λ κ v d e i h g k.
    absurd (not_defined d e _ _ g (c.in-Err.ensures d (read_in κ.source a.source _ d (sym i.source) h) g.define)))
