use Rattle.std.proofs.Common.{◌+◌, ◌*◌, length}
use Rattle.core_form.specs.declared.program.Var.{Var}
use Rattle.core_form.specs.Source.{Scope}
use Rattle.core_form.specs.Trees.{Trees, StandAll}
use Rattle.alpha_core.specs.ScopesHeld.{Shows}
use Rattle.alpha_core.proofs.Making.{Follows}
use Rattle.alpha_core.proofs.renamer.Renamer.+rename.Given as goal

abbrev pub decreases-rename_expr : goal.decreases-rename_expr
decreases-rename_expr l = 3 * l.deep

abbrev pub decreases-rename_list : goal.decreases-rename_list
decreases-rename_list l = 3 * l.deep + 1

abbrev pub decreases-rename_lambda : goal.decreases-rename_lambda
decreases-rename_lambda l = 3 * l.deep + 2

abbrev pub decreases-rename_if : goal.decreases-rename_if
decreases-rename_if l = 3 * l.deep + 2

abbrev pub decreases-rename_set : goal.decreases-rename_set
decreases-rename_set l = 3 * l.deep + 2

abbrev pub decreases-rename_call : goal.decreases-rename_call
decreases-rename_call l = 3 * l.deep + 2

abbrev pub decreases-rename_prim : goal.decreases-rename_prim
decreases-rename_prim l = 3 * l.deep + 2

abbrev pub decreases-rename_seq : goal.decreases-rename_seq
decreases-rename_seq l = 3 * l.deep + 2

abbrev pub decreases-rename_fix : goal.decreases-rename_fix
decreases-rename_fix l = 3 * l.deep + 2

abbrev pub decreases-rename_define : goal.decreases-rename_define
decreases-rename_define l = 3 * l.deep + 2

abbrev pub invariant-rename_list-loop-expr : goal.invariant-rename_list-loop-expr
invariant-rename_list-loop-expr l =
    (es : Trees Var) → StandAll l.core.exprs l.fn.exprs es → (ρ : Scope Var) → Shows l.fn.self.scope ρ
    → Follows l.core.exprs ρ l.fn.self l.self es l.left l.renamed

abbrev pub decreases-rename_list-loop-expr : goal.decreases-rename_list-loop-expr
decreases-rename_list-loop-expr l = length l.left
