use Rattle.std.proofs.Common.{◌++◌}
use Rattle.datum_form.specs.Data.{Datum}
use Rattle.datum_form.specs.Pending.{Left}
use Rattle.datum_form.specs.Print.{text_of}
use Rattle.datum_form.specs.Stands.{Stands}
use Rattle.datum_form.proofs.text.write_datum.Given as goal

-- what is printed, and then what is pending
abbrev pub invariant-loop-turn : goal.invariant-loop-turn
invariant-loop-turn l =
    (d : Datum) → Stands l.fn.nodes l.fn.top d
    → Left l.fn.nodes l.text.items l.parts.items (l.fn.text.items ++ text_of d)
