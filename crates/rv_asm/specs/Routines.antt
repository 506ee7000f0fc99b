-- The order of the routines' text, and which forms each routine has.
--
-- A routine that makes an object has a form that makes it with the running activation and one that makes it
-- for good, in this order; one that looks at its operands' types has the same forms without those checks,
-- behind the others. The operations stand in the order of the primitive operations, `%apply` and `%call/cc`
-- aside, which are the routines `apply` and `callcc`.
use Rattle.std.specs.Prelude.{ℕ, Bool, true, false, Option, Some, ◌+◌}
use Rattle.scheme_base.specs.declared.op.Op.{Op}
use Rattle.scheme_base.specs.declared.op.Op.TheVariants as op
use Rattle.scheme_base.specs.declared.place.Mark.{Mark}
use Rattle.scheme_base.specs.declared.place.Mark.TheVariants as mark
use Rattle.scheme_base.specs.Stops.{number_of as error_number}
use Rattle.const_data.specs.declared.word.Label.{Label}
use Rattle.const_data.specs.declared.word.Label.TheVariants as label
use Rattle.rv_asm.specs.declared.routine.Routine.{Routine}
use Rattle.rv_asm.specs.declared.routine.Routine.TheVariants as routine

abbrev pub place_of_mark : Mark → ℕ
place_of_mark mark.Local = 0
place_of_mark mark.Global = 1

-- does an operation make an object?
abbrev pub allocates : Op → Bool
allocates op.Cons = true
allocates op.MakeSymbol = true
allocates op.MakeString = true
allocates op.MakeVector = true
allocates o = false

-- has an operation an operand of a kind, so that other types are refused?
abbrev pub refuses : Op → Bool
refuses op.Eqv = false
refuses op.IsPair = false
refuses op.IsSymbol = false
refuses op.IsString = false
refuses op.IsVector = false
refuses op.IsProcedure = false
refuses op.IsInteger = false
refuses op.IsChar = false
refuses op.IsBoolean = false
refuses op.IsNull = false
refuses op.IsEof = false
refuses op.Cons = false
refuses op.ReadChar = false
refuses op.PeekChar = false
refuses op.Apply = false
refuses op.CallCC = false
refuses o = true

-- the number of an operation's first form
abbrev pub first_of : Op → ℕ
first_of op.Eqv = 26
first_of op.IsPair = 27
first_of op.IsSymbol = 28
first_of op.IsString = 29
first_of op.IsVector = 30
first_of op.IsProcedure = 31
first_of op.IsInteger = 32
first_of op.IsChar = 33
first_of op.IsBoolean = 34
first_of op.IsNull = 35
first_of op.IsEof = 36
first_of op.Cons = 37
first_of op.Car = 39
first_of op.Cdr = 41
first_of op.SetCar = 43
first_of op.SetCdr = 45
first_of op.Add = 47
first_of op.Subtract = 49
first_of op.Multiply = 51
first_of op.Quotient = 53
first_of op.Remainder = 55
first_of op.Modulo = 57
first_of op.Equals = 59
first_of op.Less = 61
first_of op.CharToInteger = 63
first_of op.IntegerToChar = 65
first_of op.SymbolName = 67
first_of op.MakeSymbol = 69
first_of op.MakeString = 73
first_of op.MakeVector = 77
first_of op.StringLength = 81
first_of op.VectorLength = 83
first_of op.StringRef = 85
first_of op.VectorRef = 87
first_of op.StringSet = 89
first_of op.VectorSet = 91
first_of op.ReadChar = 93
first_of op.PeekChar = 94
first_of op.WriteChar = 95
first_of op.Apply = 23
first_of op.CallCC = 24

-- how far behind an operation's first form the one with this mark stands
abbrev pub marked : Bool → Option Mark → ℕ
marked true (Some m) = place_of_mark m
marked o m = 0

-- how far behind an operation's first form those without checks stand
abbrev pub unchecked : (refused checked made : Bool) → ℕ
unchecked true false true = 2
unchecked true false false = 1
unchecked r c m = 0

abbrev pub operation_number : Op → Bool → Option Mark → ℕ
operation_number o checked m = first_of o + unchecked (refuses o) checked (allocates o) + marked (allocates o) m

-- the number of a routine in the order of the text, from 0
abbrev pub number_of : Routine → ℕ
number_of routine.Start = 0
number_of routine.Finish = 1
number_of (routine.Error kind) = 1 + error_number kind
number_of routine.Storage = 11
number_of routine.Io = 12
number_of (routine.New m) = 13 + place_of_mark m
number_of routine.Save = 15
number_of routine.Restore = 16
number_of (routine.Rest m) = 17 + place_of_mark m
number_of (routine.Copy m) = 19 + place_of_mark m
number_of (routine.Call true) = 21
number_of (routine.Call false) = 22
number_of routine.Apply = 23
number_of (routine.CallCC true) = 24
number_of (routine.CallCC false) = 25
number_of (routine.Operation o checked m) = operation_number o checked m

abbrev pub label_of : Routine → Label
label_of r = label.Routine (number_of r)
