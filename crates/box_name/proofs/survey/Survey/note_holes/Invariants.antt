use Rattle.std.proofs.Common.{ℕ, length}
use Rattle.core_form.specs.declared.program.VarRef.{VarRef}
use Rattle.core_form.specs.Trees.{Trees, StandAll}
use Rattle.box_name.proofs.Finding.{Pairing}
use Rattle.box_name.proofs.survey.Survey.note_holes.Given as goal

abbrev pub invariant-loop-param : goal.invariant-loop-param
invariant-loop-param l =
    (form : ℕ) (es : Trees VarRef) → StandAll l.core.exprs l.fn.operands es
    → Pairing l.core form l.fn.self l.self l.fn.params es l.params l.operands

abbrev pub decreases-loop-param : goal.decreases-loop-param
decreases-loop-param l = length l.params
