-- The fresh ones of the variables so far are numbered.
use Rattle.std.proofs.Common.{ℕ, List, take}
use Rattle.std.specs.Borrow.{Bor}
use Rattle.draft_form.specs.Numbers.{Given}
use Rattle.draft_form.specs.Numbering.{Gives, NumbersAll}
use Rattle.draft_form.proofs.level.Levels.number_all.Given as goal

abbrev pub invariant-loop-variable : goal.invariant-loop-variable
invariant-loop-variable l =
    (words : List (Bor (List ℕ))) (g : Given) → Gives l.fn.self.numbers.items g
    → NumbersAll words (take l.variable-index l.variables) l.fn.self l.self l.fn.visits.items l.visits.items g
