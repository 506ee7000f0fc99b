use Rattle.std.proofs.Common.{ℕ, List, length}
use Rattle.datum_form.specs.Data.{datum_of}
use Rattle.datum_form.specs.Stands.{Stands}
use Rattle.datum_form.specs.Syntax.{Syntax}
use Rattle.datum_reader.specs.Machine.{Frame, give}
use Rattle.datum_reader.specs.Machine.Run.{On}
use Rattle.datum_reader.specs.Reading.{IsAt, Goes}
use Rattle.datum_reader.proofs.reading.Reading.give.Given as goal

-- whatever was given at first, what is still to be given ends the same way
abbrev pub invariant-loop-level : goal.invariant-loop-level
invariant-loop-level l =
    (n : ℕ) (fs : List Frame) (us : List Syntax) (s : Syntax) → IsAt l.fn.self (On n fs us)
    → Stands l.fn.self.nodes l.fn.datum (datum_of s) → Goes l.self l.id us (give n fs us s)

abbrev pub decreases-loop-level : goal.decreases-loop-level
decreases-loop-level l = length l.self.levels.items
