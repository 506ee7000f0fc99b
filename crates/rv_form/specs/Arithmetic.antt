-- What the instructions compute of words of 64 bits (the RISC-V unprivileged manual, RV64I and M).
--
-- Where an instruction takes a word as a signed number, `integer` is that number. The operations on the low
-- 32 bits are those on words, of operands that are cut to 32 bits, and `narrow` cuts their results.
use Rattle.std.specs.Prelude.{ℕ, ◌+◌, ◌-◌, ◌*◌, ◌/◌, ◌%◌, ◌^◌, ℤ, ◌*ℤ◌, Bool, if◌then◌else◌, nat_eq, int_lt, int_div, int_rem}
use Rattle.rv_form.specs.Numbers.{signed, word, extended, floor}

abbrev pub integer : ℕ → ℤ
integer a = signed (2 ^ 63) a

-- the low 32 bits as a number, and as a word to which their sign is extended
abbrev pub low_half : ℕ → ℕ
low_half a = a % 2 ^ 32

abbrev pub narrow : ℕ → ℕ
narrow a = extended (2 ^ 31) (low_half a)

abbrev pub sub : ℕ → ℕ → ℕ
sub a b = (a + (2 ^ 64 - b)) % 2 ^ 64

-- the low and the high 64 bits of a product
abbrev pub mul : ℕ → ℕ → ℕ
mul a b = a * b % 2 ^ 64

abbrev pub high_product : ℤ → ℤ → ℕ
high_product x y = word (floor (x *ℤ y) (2 ^ 64))

-- signed order, and the word of an answer
abbrev pub less : ℕ → ℕ → Bool
less a b = int_lt (integer a) (integer b)

abbrev pub flag : Bool → ℕ
flag b = if b then 1 else 0

-- shifts by the low six bits of an amount: with zeros, or with the sign
abbrev pub shift_left : ℕ → ℕ → ℕ
shift_left a amount = a * 2 ^ (amount % 64) % 2 ^ 64

abbrev pub shift_right : ℕ → ℕ → ℕ
shift_right a amount = a / 2 ^ (amount % 64)

abbrev pub shift_signed : ℕ → ℕ → ℕ
shift_signed a amount = word (floor (integer a) (2 ^ (amount % 64)))

-- Division rounds towards 0, and a remainder has the dividend's sign. By 0 it gives all ones, and the
-- remainder is the dividend. The least number by -1 is 2^63, whose word is that of the least number.
abbrev pub divide : ℕ → ℕ → ℕ
divide a b = if nat_eq b 0 then 2 ^ 64 - 1 else word (int_div (integer a) (integer b))

abbrev pub remainder : ℕ → ℕ → ℕ
remainder a b = if nat_eq b 0 then a else word (int_rem (integer a) (integer b))

abbrev pub divide_unsigned : ℕ → ℕ → ℕ
divide_unsigned a b = if nat_eq b 0 then 2 ^ 64 - 1 else a / b

abbrev pub remainder_unsigned : ℕ → ℕ → ℕ
remainder_unsigned a b = if nat_eq b 0 then a else a % b

-- shifts of the low 32 bits, by the low five bits of an amount
abbrev pub shift_left_narrow : ℕ → ℕ → ℕ
shift_left_narrow a amount = narrow (shift_left a (amount % 32))

abbrev pub shift_right_narrow : ℕ → ℕ → ℕ
shift_right_narrow a amount = narrow (shift_right (low_half a) (amount % 32))

abbrev pub shift_signed_narrow : ℕ → ℕ → ℕ
shift_signed_narrow a amount = narrow (shift_signed (narrow a) (amount % 32))
