use Rattle.std.proofs.Common.{◌≡◌, ℕ, ◌+◌, ◌*◌, length}
use Rattle.core_form.specs.declared.program.VarRef.{VarRef}
use Rattle.core_form.specs.Trees.{Trees, StandAll}
use Rattle.box_name.specs.Fitting.{Fits}
use Rattle.box_name.specs.Naming.{Setting}
use Rattle.box_name.proofs.Listing.{Going, Paying}
use Rattle.box_name.proofs.namer.Namer.+name.Given as goal

abbrev pub decreases-name_expr : goal.decreases-name_expr
decreases-name_expr l = 5 * l.deep

abbrev pub decreases-name_list : goal.decreases-name_list
decreases-name_list l = 5 * l.deep + 1

abbrev pub decreases-name_value : goal.decreases-name_value
decreases-name_value l = 5 * l.deep + 1

abbrev pub decreases-name_arm : goal.decreases-name_arm
decreases-name_arm l = 5 * l.deep + 1

abbrev pub decreases-name_values : goal.decreases-name_values
decreases-name_values l = 5 * l.deep + 2

abbrev pub decreases-name_if : goal.decreases-name_if
decreases-name_if l = 5 * l.deep + 2

abbrev pub decreases-name_direct : goal.decreases-name_direct
decreases-name_direct l = 5 * l.deep + 3

abbrev pub decreases-name_call : goal.decreases-name_call
decreases-name_call l = 5 * l.deep + 4

abbrev pub decreases-name_list-loop-expr : goal.decreases-name_list-loop-expr
decreases-name_list-loop-expr l = length l.left

abbrev pub decreases-name_values-loop-operand : goal.decreases-name_values-loop-operand
decreases-name_values-loop-operand l = length l.left

abbrev pub invariant-name_list-loop-expr : goal.invariant-name_list-loop-expr
invariant-name_list-loop-expr l =
    (es : Trees VarRef) → StandAll l.fn.stand.core.now.exprs l.fn.exprs es → (s : Setting) → Fits l.fn.stand s → (n p : ℕ)
    → l.fn.self.next_var ≡ n → l.fn.self.next_proc ≡ p
    → Going l.fn.stand.core.now.exprs l.fn.stand.core.now.lits s n p l.fn.self l.self l.fn.steps.items l.steps.items es l.left l.values

abbrev pub invariant-name_values-loop-operand : goal.invariant-name_values-loop-operand
invariant-name_values-loop-operand l =
    (es : Trees VarRef) → StandAll l.fn.stand.core.now.exprs l.fn.operands es → (s : Setting) → Fits l.fn.stand s → (n p : ℕ)
    → l.fn.self.next_var ≡ n → l.fn.self.next_proc ≡ p
    → Paying l.fn.stand.core.now.exprs l.fn.stand.core.now.lits s n p l.fn.self l.self l.fn.steps.items l.steps.items es l.left l.values.items
