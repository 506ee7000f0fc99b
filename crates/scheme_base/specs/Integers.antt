-- The integers of this profile, from -2^61 to 2^61 - 1 (R4RS 6.5.3 leaves the range to the implementation).
use Rattle.std.specs.Prelude.{ℤ, pos, negsuc, int_le, ◌&&◌, Bool}

abbrev pub least : ℤ
least = negsuc 2305843009213693951

abbrev pub greatest : ℤ
greatest = pos 2305843009213693951

abbrev pub in_range : ℤ → Bool
in_range z = int_le least z && int_le z greatest
