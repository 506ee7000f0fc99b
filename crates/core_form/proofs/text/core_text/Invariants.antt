use Rattle.std.proofs.Common.{ℕ, List, ◌≡◌, ◌++◌, length}
use Rattle.core_form.specs.Text.{TextOf}
use Rattle.core_form.specs.Pieces.{LinesText}
use Rattle.core_form.proofs.text.core_text.Given as goal

abbrev pub invariant-loop-form : goal.invariant-loop-form
invariant-loop-form l =
    (t : List ℕ) → TextOf l.fn.core t → (v : List ℕ) × LinesText l.core l.forms v × (t ≡ l.text.items ++ v)

abbrev pub decreases-loop-form : goal.decreases-loop-form
decreases-loop-form l = length l.forms
