use Rattle.std.proofs.Common.{length}
use Rattle.core_form.specs.declared.program.VarRef.{VarRef}
use Rattle.core_form.specs.Trees.{Trees, Holds}
use Rattle.box_name.proofs.Finding.{Ahead}
use Rattle.box_name.proofs.survey.Survey.survey_forms.Given as goal

abbrev pub invariant-loop-expr : goal.invariant-loop-expr
invariant-loop-expr l =
    (forms : Trees VarRef) → Holds l.core forms → Ahead l.core l.fn.self l.self forms l.form l.left

abbrev pub decreases-loop-expr : goal.decreases-loop-expr
decreases-loop-expr l = length l.left
