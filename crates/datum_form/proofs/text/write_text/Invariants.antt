use Rattle.std.proofs.Common.{◌≡◌, ◌++◌, length}
use Rattle.datum_form.specs.Data.{Items}
use Rattle.datum_form.specs.Print.{lines_of}
use Rattle.datum_form.specs.Stands.{StandAll, Holds}
use Rattle.datum_form.proofs.text.write_text.Given as goal

-- what is printed, and then what is left
abbrev pub invariant-loop-first : goal.invariant-loop-first
invariant-loop-first l =
    (is : Items) → Holds l.fn.datums is
    → (left : Items) × StandAll l.fn.datums.nodes l.rest left × (l.text.items ++ lines_of left ≡ lines_of is)

abbrev pub decreases-loop-first : goal.decreases-loop-first
decreases-loop-first l = length l.rest
