use Rattle.std.proofs.Common.{◌≡◌, ◌++◌, ℕ, List as Seq, length}
use Rattle.datum_form.specs.declared.datums.Node.{Node}
use Rattle.datum_form.specs.Data.{Items}
use Rattle.datum_form.specs.Pending.{Pending}
use Rattle.datum_form.specs.Print.{more_text}
use Rattle.datum_form.specs.Stands.{StandAll}
use Rattle.datum_form.proofs.text.push_others.Given as goal

-- the items after those that are left are put before the other parts
abbrev pub invariant-loop-last : goal.invariant-loop-last
invariant-loop-last l =
    (done : Seq ℕ) × (l.fn.ids ≡ l.rest ++ done)
    × ((nodes : Seq Node) (is : Items) (rest : Seq ℕ) → StandAll nodes done is → Pending nodes l.fn.parts.items rest
    → Pending nodes l.parts.items (more_text is ++ rest))

abbrev pub decreases-loop-last : goal.decreases-loop-last
decreases-loop-last l = length l.rest
