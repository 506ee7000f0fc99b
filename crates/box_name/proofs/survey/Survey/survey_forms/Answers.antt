use Rattle.std.proofs.Common.{rules}
use Rattle.std.proofs.lemmas.List.{nil_from_length}
use Rattle.box_name.proofs.Finding.{ahead_begins, ahead_on, ahead_ends}
use Rattle.box_name.proofs.survey.Survey.survey_forms.Goals as goal

pub loop-expr-init : goal.loop-expr-init
loop-expr-init c =
    λ forms holds. ahead_begins c.args.core.now c.args.self.now forms c.args.core.now.forms _ holds (search rules)

pub loop-expr-preserved : goal.loop-expr-preserved
loop-expr-preserved c =
    λ forms holds.
    ahead_on c.args.core.now c.args.self.now c.loop-expr.self c.survey_expr.new.self forms c.loop-expr.form c.in-Some-checked_add.next
    c.in-Some.expr.now c.loop-expr.left.now c.in-Some.others.now (c.loop-expr.invariant forms holds) (search rules) (search rules)
    c.in_ok-survey_expr.ensures

pub returns : goal.returns
returns c =
    λ forms holds.
    ahead_ends c.args.core.now c.args.self.now c.loop-expr.self forms c.loop-expr.form c.loop-expr.left.now
    (c.loop-expr.invariant forms holds) (nil_from_length _ c.in_default.ensures.cases)
