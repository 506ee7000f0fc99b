-- How far the reader has come, as a state of the machine.
use Rattle.std.specs.Prelude.{◌≡◌, ℕ, ◌+◌, List as Seq, [], ◌∷◌, length, reverse, Option, Some, None, Result, Ok, Err}
use Rattle.scheme_base.specs.declared.pos.Pos.{Pos}
use Rattle.datum_form.specs.declared.datums.Node.{Node}
use Rattle.datum_form.specs.Data.{datum_of, data_of}
use Rattle.datum_form.specs.Stands.{Stands, StandAll, Holds as DataHold}
use Rattle.datum_form.specs.Syntax.{Syntax}
use Rattle.datum_reader.specs.declared.level.Level.{Level}
use Rattle.datum_reader.specs.declared.reading.Reading.{Reading}
use Rattle.datum_reader.specs.declared.reading.Taken.{Taken}
use Rattle.datum_reader.specs.declared.reading.Taken.TheVariants as taken
use Rattle.datum_reader.specs.declared.error.ReadErr.{ReadErr}
use Rattle.datum_reader.specs.declared.error.ReadErr.TheVariants.{Unclosed}
use Rattle.datum_form.specs.declared.datums.Datums.{Datums}
use Rattle.datum_reader.specs.Answer.{max_depth}
use Rattle.datum_reader.specs.Levels.{HoldsLevel}
use Rattle.datum_reader.specs.Machine.{Frame, Run, frame_place, give}
use Rattle.datum_reader.specs.Machine.Run.{On, Stray, Deep}

-- these levels are these frames, the innermost first
abbrev pub HoldsLevels : Seq Node → Seq Level → Seq Frame → Type 0
HoldsLevels nodes [] [] = Unit {0}
HoldsLevels nodes [] (f ∷ fs) = ⊥
HoldsLevels nodes (l ∷ ls) [] = ⊥
HoldsLevels nodes (l ∷ ls) (f ∷ fs) = HoldsLevel nodes l f × HoldsLevels nodes ls fs

pub record Holds (reading : Reading) (n : ℕ) (fs : Seq Frame) (us : Seq Syntax) : Type 0 where
  pub levels : HoldsLevels reading.nodes (reverse reading.levels.items) fs
  pub tops : StandAll reading.nodes reading.tops (data_of us)
  pub room : n + length reading.levels.items ≡ max_depth

-- the reader is in this state
abbrev pub IsAt : Reading → Run → Type 0
IsAt reading (On n fs us) = Holds reading n fs us
IsAt reading (Stray p) = ⊥
IsAt reading (Deep p) = ⊥

-- the reader is in some state
pub record IsReading (reading : Reading) : Type 0 where
  pub room : ℕ
  pub frames : Seq Frame
  pub trees : Seq Syntax
  pub holds : Holds reading room frames trees

-- a state with a datum that is still to be given, and that ends as another did
pub record Goes (reading : Reading) (id : ℕ) (us : Seq Syntax) (end : Run) : Type 0 where
  pub room : ℕ
  pub frames : Seq Frame
  pub tree : Syntax
  pub holds : Holds reading room frames us
  pub stands : Stands reading.nodes id (datum_of tree)
  pub same : end ≡ give room frames us tree

-- a token at this place is read, fits no text or opens one level too many
abbrev pub Follows : Taken → Reading → Pos → Run → Type 0
Follows taken.Goes reading q run = IsAt reading run
Follows taken.Stray reading q run = run ≡ Stray q
Follows taken.Deep reading q run = run ≡ Deep q

-- the innermost level, if one is open
abbrev pub Innermost : Seq Node → Option Level → Seq Frame → Type 0
Innermost nodes None fs = fs ≡ []
Innermost nodes (Some l) [] = ⊥
Innermost nodes (Some l) (f ∷ fs) = HoldsLevel nodes l f

-- the reader answers these trees, or what is open innermost
abbrev pub Finishes : Result Datums ReadErr → Seq Frame → Seq Syntax → Type 0
Finishes (Ok datums) fs us = (fs ≡ []) × DataHold datums (data_of us)
Finishes (Err (Unclosed p)) (f ∷ fs) us = p ≡ frame_place f
Finishes answer fs us = ⊥
