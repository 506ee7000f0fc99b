-- Numbers as words hold them: signed ones in two's complement, and several bytes with the lowest first.
use Rattle.std.specs.Prelude.{ℕ, zero, suc, ◌+◌, ◌-◌, ◌*◌, ◌/◌, ◌%◌, ◌^◌, ℤ, pos, negsuc, ◌+ℤ◌, List, [], ◌∷◌, if◌then◌else◌, nat_lt}

-- what a field of this many values holds of a signed number
abbrev pub low_part : (values : ℕ) → ℤ → ℕ
low_part values (pos n) = n % values
low_part values (negsuc n) = values - 1 - n % values

-- a number below 2 * half as a signed number
abbrev pub signed : (half : ℕ) → ℕ → ℤ
signed half n = if nat_lt n half then pos n else negsuc (2 * half - 1 - n)

-- the word of 64 bits of a signed number
abbrev pub word : ℤ → ℕ
word z = low_part (2 ^ 64) z

-- a number below 2 * half, with its sign extended to a word
abbrev pub extended : (half : ℕ) → ℕ → ℕ
extended half n = word (signed half n)

-- the sum of two words
abbrev pub add : ℕ → ℕ → ℕ
add a b = (a + b) % 2 ^ 64

-- a quotient that is rounded down
abbrev pub floor : ℤ → ℕ → ℤ
floor (pos n) d = pos (n / d)
floor (negsuc n) d = negsuc (n / d)

-- A distance is split for two instructions: 4,096 times the far part, and the near part, which has
-- twelve bits and a sign.
abbrev pub far_part : ℤ → ℤ
far_part distance = floor (distance +ℤ pos 2048) 4096

abbrev pub near_part : ℤ → ℤ
near_part distance = signed 2048 (low_part 4096 distance)

-- so many bytes of a number, the lowest first
abbrev pub low_bytes : (count : ℕ) → ℕ → List ℕ
low_bytes zero n = []
low_bytes (suc count) n = n % 256 ∷ low_bytes count (n / 256)
