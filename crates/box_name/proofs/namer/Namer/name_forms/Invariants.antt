use Rattle.std.proofs.Common.{◌≡◌, [], length}
use Rattle.core_form.specs.declared.program.VarRef.{VarRef}
use Rattle.core_form.specs.Trees.{Trees, Holds}
use Rattle.box_name.specs.Fitting.{KnowsAll}
use Rattle.box_name.specs.Told.{all_told}
use Rattle.box_name.proofs.Forming.{Running}
use Rattle.box_name.proofs.namer.Namer.name_forms.Given as goal

abbrev pub invariant-loop-expr : goal.invariant-loop-expr
invariant-loop-expr l =
    (forms : Trees VarRef) → Holds l.core forms → KnowsAll l.core l.facts (all_told l.core.lits forms)
    → l.fn.self.next_var ≡ 0 → l.fn.self.next_proc ≡ 1 → l.fn.steps.items ≡ []
    → Running l.core.exprs l.core.lits (all_told l.core.lits forms) l.fn.self l.self l.steps.items l.form l.left

abbrev pub decreases-loop-expr : goal.decreases-loop-expr
decreases-loop-expr l = length l.left
