-- How a run of a program stops, and how that is told outside.
use Rattle.std.specs.Prelude.{ℕ, List, [], ◌++◌, codes, decimal}
use Rattle.scheme_base.specs.declared.error.ErrKind.{ErrKind}
use Rattle.scheme_base.specs.declared.error.ErrKind.TheVariants.{WrongType, Index, Unbound, NotProcedure, Count, Overflow, ZeroDivisor, Undefined, LiteralWritten}
use Rattle.scheme_base.specs.declared.pos.Pos.{Pos}
use Rattle.scheme_base.specs.Outside.{Ending, Exits}

pub data Stop : Type 0 where
  End : Stop
  Error : ErrKind → (position : Pos) → Stop
  -- a read of channel 0 or a write of channel 1 failed
  IoStop : Stop

abbrev pub number_of : ErrKind → ℕ
number_of WrongType = 1
number_of Index = 2
number_of Unbound = 3
number_of NotProcedure = 4
number_of Count = 5
number_of Overflow = 6
number_of ZeroDivisor = 7
number_of Undefined = 8
number_of LiteralWritten = 9

-- the line that an error's report is
abbrev pub report : ErrKind → Pos → List ℕ
report kind position =
    codes "error " ++ (decimal (number_of kind) ++ (codes " at " ++ (decimal position.line ++ (codes ":" ++ (decimal position.col ++ codes "\n")))))

-- the status, and what is sent to the channel for errors
abbrev pub told : Stop → Ending
told End = Exits 0 []
told (Error kind position) = Exits 1 (report kind position)
told IoStop = Exits 3 (codes "io\n")
