use Rattle.std.proofs.Common.{ℕ, List, ◌+◌, ◌-◌, ◌*◌, ◌^◌, ◌++◌, length}
use Rattle.core_form.specs.Pieces.{ExprText}
use Rattle.core_form.proofs.PieceTexts.{Left}
use Rattle.core_form.proofs.text.write_form.Given as goal

abbrev pub invariant-loop-piece : goal.invariant-loop-piece
invariant-loop-piece l =
    (t : List ℕ) → ExprText l.fn.core l.fn.form t → Left l.core l.stack.items l.text.items (l.fn.text.items ++ t)

abbrev pub decreases-loop-piece : goal.decreases-loop-piece
decreases-loop-piece l = 8 * (2 ^ 64 - length l.text.items) + length l.stack.items
