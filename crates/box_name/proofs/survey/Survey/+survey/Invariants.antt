use Rattle.std.proofs.Common.{◌≡◌, ℕ, ◌+◌, ◌*◌, length}
use Rattle.core_form.specs.declared.program.VarRef.{VarRef}
use Rattle.core_form.specs.Trees.{Trees, StandAll}
use Rattle.box_name.proofs.Finding.{Left}
use Rattle.box_name.proofs.survey.Survey.+survey.Given as goal

abbrev pub decreases-survey_expr : goal.decreases-survey_expr
decreases-survey_expr l = 4 * l.deep

abbrev pub decreases-survey_list : goal.decreases-survey_list
decreases-survey_list l = 4 * l.deep + 1

abbrev pub decreases-survey_body : goal.decreases-survey_body
decreases-survey_body l = 4 * l.deep + 1

abbrev pub decreases-survey_direct : goal.decreases-survey_direct
decreases-survey_direct l = 4 * l.deep + 2

abbrev pub decreases-survey_call : goal.decreases-survey_call
decreases-survey_call l = 4 * l.deep + 3

abbrev pub invariant-survey_list-loop-expr : goal.invariant-survey_list-loop-expr
invariant-survey_list-loop-expr l =
    (es : Trees VarRef) → StandAll l.core.exprs l.fn.exprs es → Left l.core l.form l.fn.self l.self es l.left

abbrev pub decreases-survey_list-loop-expr : goal.decreases-survey_list-loop-expr
decreases-survey_list-loop-expr l = length l.left
