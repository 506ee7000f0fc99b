-- What a run of bytes is, R4RS 7.1.1: a number, a name, a character, a boolean or a dot.
--
-- This profile narrows R4RS: numbers are exact integers from -2^61 to 2^61 - 1, in any of the four radices
-- and with `#e` at most, and a character is one byte, whatever it is. Capital letters are as small ones.
use Rattle.std.specs.Prelude.{ℕ, ◌+◌, ◌-◌, ◌*◌, ◌==◌, ℤ, pos, neg_ℤ, Bool, true, false, ◌||◌, ◌&&◌, if◌then◌else◌, nat_eq, nat_le, nat_lt, List, [], ◌∷◌, length, drop, slice_index, codes, Option, Some, None}
use Rattle.std.specs.List.{starts_with}
use Rattle.std.specs.Option.{option_map}
use Rattle.std.specs.Str.{byte, bytes_eq, str_to_ascii_lowercase}
use Rattle.scheme_base.specs.Outside.{lists}
use Rattle.scheme_base.specs.declared.pos.Pos.{Pos}
use Rattle.scheme_base.specs.Integers.{in_range}
use Rattle.datum_form.specs.declared.token.Token.{Token}
use Rattle.datum_form.specs.declared.token.Atom.TheVariants.{Integer, Boolean, Character, Symbol}
use Rattle.datum_form.specs.declared.token.Token.TheVariants.{Dot, Atomic}
use Rattle.datum_form.specs.declared.piece.Word.{Word}
use Rattle.datum_form.specs.declared.piece.Word.TheVariants.{IsToken, OutOfRange, NoWord}

-- Numbers: ⟨num R⟩ with ⟨prefix R⟩ ⟨sign⟩ ⟨uinteger R⟩

abbrev pub begins_with : List ℕ → List ℕ → Bool
begins_with text word = starts_with nat_eq text word

-- what a byte counts as a digit, at least 16 where it is none
abbrev pub digit : ℕ → ℕ
digit b =
    if nat_le (byte "0") b && nat_le b (byte "9") then b - byte "0"
    else (if nat_le (byte "a") b && nat_le b (byte "f") then b - byte "a" + 10 else 16)

-- the number that digits of a radix go on with, after digits of the value n
abbrev pub digits_after : (radix n : ℕ) → List ℕ → Option ℕ
digits_after radix n [] = Some n
digits_after radix n (b ∷ bytes) =
    if nat_lt (digit b) radix then digits_after radix (n * radix + digit b) bytes else None

-- at least one digit
abbrev pub digits : (radix : ℕ) → List ℕ → Option ℕ
digits radix [] = None
digits radix (b ∷ bytes) = digits_after radix 0 (b ∷ bytes)

abbrev pub signed : (radix : ℕ) → List ℕ → Option ℤ
signed radix text =
    if begins_with text (codes "-") then option_map (λ n. neg_ℤ (pos n)) (digits radix (drop 1 text))
    else (if begins_with text (codes "+") then option_map pos (digits radix (drop 1 text))
    else option_map pos (digits radix text))

abbrev pub has_radix : List ℕ → Bool
has_radix text =
    begins_with text (codes "#b") || begins_with text (codes "#o") || begins_with text (codes "#d")
    || begins_with text (codes "#x")

-- the radix that a text begins with, or else ten
abbrev pub radix_of : List ℕ → ℕ
radix_of text =
    if begins_with text (codes "#b") then 2
    else (if begins_with text (codes "#o") then 8 else (if begins_with text (codes "#x") then 16 else 10))

abbrev pub after_radix : List ℕ → List ℕ
after_radix text = if has_radix text then drop 2 text else text

abbrev pub after_exact : List ℕ → List ℕ
after_exact text = if begins_with text (codes "#e") then drop 2 text else text

-- a radix and `#e` stand in either order
abbrev pub number : List ℕ → Option ℤ
number text =
    if begins_with text (codes "#e") then signed (radix_of (drop 2 text)) (after_radix (drop 2 text))
    else signed (radix_of text) (after_exact (after_radix text))

-- Names: ⟨identifier⟩, in small letters

abbrev pub is_digit : ℕ → Bool
is_digit b = nat_le (byte "0") b && nat_le b (byte "9")

abbrev pub is_initial : ℕ → Bool
is_initial b = nat_le (byte "a") b && nat_le b (byte "z") || lists (codes "!$%&*/:<=>?~_^") b

abbrev pub is_subsequent : ℕ → Bool
is_subsequent b = is_initial b || is_digit b || lists (codes ".+-") b

abbrev pub all_subsequent : List ℕ → Bool
all_subsequent [] = true
all_subsequent (b ∷ bytes) = is_subsequent b && all_subsequent bytes

abbrev pub is_ordinary : List ℕ → Bool
is_ordinary [] = false
is_ordinary (b ∷ bytes) = is_initial b && all_subsequent bytes

-- an ordinary name or a ⟨peculiar identifier⟩
abbrev pub is_name : List ℕ → Bool
is_name text =
    is_ordinary text || bytes_eq text (codes "+") || bytes_eq text (codes "-") || bytes_eq text (codes "...")

-- What a run is

abbrev pub number_word : Pos → ℤ → Word
number_word p z = if in_range z then IsToken (Atomic p (Integer z)) else OutOfRange

abbrev pub name_word : Pos → List ℕ → Word
name_word p text = if is_name text then IsToken (Atomic p (Symbol text)) else NoWord

abbrev pub number_or_name : Pos → List ℕ → Option ℤ → Word
number_or_name p text (Some z) = number_word p z
number_or_name p text None = name_word p text

-- a run in small letters
abbrev pub small_word : Pos → List ℕ → Word
small_word p text =
    if bytes_eq text (codes ".") then IsToken (Dot p)
    else (if bytes_eq text (codes "#t") then IsToken (Atomic p (Boolean true))
    else (if bytes_eq text (codes "#f") then IsToken (Atomic p (Boolean false))
    else number_or_name p text (number text)))

abbrev pub named_character : Pos → List ℕ → Word
named_character p text =
    if bytes_eq text (codes "#\\space") then IsToken (Atomic p (Character (byte " ")))
    else (if bytes_eq text (codes "#\\newline") then IsToken (Atomic p (Character (byte "\n"))) else NoWord)

-- a run that begins with `#\`
abbrev pub character_word : Pos → List ℕ → Word
character_word p text =
    if length text == 3 then IsToken (Atomic p (Character (slice_index text 2)))
    else named_character p (str_to_ascii_lowercase text)
