-- What the reader makes of a number: its value where it is in range.
use Rattle.std.specs.Prelude.{ℕ, ℤ, Bool, true, false, Option, Some, None, min}
use Rattle.scheme_base.specs.Integers.{in_range}
use Rattle.datum_reader.specs.declared.number.Numeral.{Numeral}
use Rattle.datum_reader.specs.declared.number.Numeral.TheVariants.{NoNumber, OutOfRange, Value}

-- a value, or the least that is out of range whatever the sign
abbrev pub bounded : ℕ → ℕ
bounded n = min n 2305843009213693953

abbrev pub ranged : Bool → ℤ → Numeral
ranged true z = Value z
ranged false z = OutOfRange

abbrev pub numeral_of : Option ℤ → Numeral
numeral_of None = NoNumber
numeral_of (Some z) = ranged (in_range z) z
