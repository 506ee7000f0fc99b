use Rattle.std.proofs.Common.{sym, ap, ◌∙◌}
use Rattle.scheme_expand.specs.declared.body.Defined.TheVariants as defined
use Rattle.scheme_expand.specs.Faults.{in_exp}
use Rattle.scheme_expand.specs.Rewriting.{is_lambda}
use Rattle.scheme_expand.proofs.MadeBodies.{value_at, procedure_at}
use Rattle.scheme_expand.proofs.body.Defined.is_lambda.Goals as goal

pub returns-in-Expr : goal.returns-in-Expr
returns-in-Expr c = λ p e v r.
    let h = value_at c.args.source c.args.self (defined.Expr c.in-Expr.id) p e c.in-Expr.is v in
    c.is_lambda.ensures h.0 h.1 (sym (ap in_exp h.2) ∙ r) ∙ ap is_lambda (sym h.2)

pub returns-in-Procedure : goal.returns-in-Procedure
returns-in-Procedure c = λ p e v r.
    let h = value_at c.args.source c.args.self (defined.Procedure c.in-Procedure.field-0 c.in-Procedure.field-1) p e c.in-Procedure.is v in
    sym (procedure_at p h.0 h.1 h.2 e h.5 r)
