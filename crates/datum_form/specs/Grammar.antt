-- Texts of data by their bytes, as R4RS 7.1.1 says them: what a token is written as, and that a text is a
-- row of tokens with blanks between them.
--
-- Where this profile is narrower than R4RS, the line before says so.
use Rattle.std.specs.Prelude.{◌≡◌, ◌≢◌, ℕ, ℤ, pos, neg_ℤ, Bool, true, false, List, [], ◌∷◌, ◌++◌, Some, codes}
use Rattle.std.specs.Char.{is_ascii_whitespace}
use Rattle.std.specs.Str.{byte, str_to_ascii_lowercase}
use Rattle.scheme_base.specs.declared.pos.Pos.{Pos}
use Rattle.scheme_base.specs.Positions.{after_byte, position_after}
use Rattle.scheme_base.specs.Integers.{in_range}
use Rattle.datum_form.specs.declared.token.Token.{Token}
use Rattle.datum_form.specs.declared.token.Atom.TheVariants.{Integer, Boolean, Character, String, Symbol}
use Rattle.datum_form.specs.declared.token.Mark.TheVariants.{Quote, Quasiquote, Unquote, Splice}
use Rattle.datum_form.specs.declared.token.Token.TheVariants.{Open, OpenVector, Close, Dot, Marking, Atomic}
use Rattle.datum_form.specs.Text.{is_delimiter}
use Rattle.datum_form.specs.Words.{digits, is_name}

-- ⟨number⟩

-- ⟨radix R⟩
pub data IsRadix : ℕ → List ℕ → Type 0 where
  binary : IsRadix 2 (codes "#b")
  octal : IsRadix 8 (codes "#o")
  decimal : IsRadix 10 []
  marked_decimal : IsRadix 10 (codes "#d")
  hexadecimal : IsRadix 16 (codes "#x")

-- ⟨exactness⟩, but no `#i`
pub data IsExactness : List ℕ → Type 0 where
  unmarked : IsExactness []
  exact : IsExactness (codes "#e")

-- ⟨prefix R⟩: both in either order
pub data IsPrefix : ℕ → List ℕ → Type 0 where
  radix_first : (r : ℕ) (radix exactness : List ℕ) → IsRadix r radix → IsExactness exactness → IsPrefix r (radix ++ exactness)
  exactness_first : (r : ℕ) (exactness radix : List ℕ) → IsExactness exactness → IsRadix r radix → IsPrefix r (exactness ++ radix)

-- ⟨sign⟩
pub data IsSign : (negative : Bool) → List ℕ → Type 0 where
  unsigned : IsSign false []
  plus : IsSign false (codes "+")
  minus : IsSign true (codes "-")

abbrev pub with_sign : (negative : Bool) → ℕ → ℤ
with_sign false n = pos n
with_sign true n = neg_ℤ (pos n)

-- ⟨num R⟩ of ⟨uinteger R⟩: whole numbers alone, without `#` for a digit, and no fraction, exponent or
-- complex part. `digits` is the value of at least one ⟨digit R⟩.
pub record IsNumber (word : List ℕ) (z : ℤ) : Type 0 where
  pub radix : ℕ
  pub negative : Bool
  pub prefix : List ℕ
  pub sign : List ℕ
  pub number : List ℕ
  pub value : ℕ
  pub has_prefix : IsPrefix radix prefix
  pub has_sign : IsSign negative sign
  pub has_value : digits radix number ≡ Some value
  pub whole : word ≡ prefix ++ (sign ++ number)
  pub is : z ≡ with_sign negative value

-- A word in small letters: capital letters count as small ones everywhere, R4RS 2. A number is from -2^61
-- to 2^61 - 1. `is_name` is ⟨identifier⟩.
pub data IsWord : Pos → List ℕ → Token → Type 0 where
  dot : (p : Pos) → IsWord p (codes ".") (Dot p)
  true_word : (p : Pos) → IsWord p (codes "#t") (Atomic p (Boolean true))
  false_word : (p : Pos) → IsWord p (codes "#f") (Atomic p (Boolean false))
  number : (p : Pos) (word : List ℕ) (z : ℤ) → IsNumber word z → in_range z ≡ true → IsWord p word (Atomic p (Integer z))
  name : (p : Pos) (word : List ℕ) → is_name word ≡ true → IsWord p word (Atomic p (Symbol word))

-- ⟨character⟩: any byte, and two names in letters of either case
pub data IsCharacter : List ℕ → ℕ → Type 0 where
  itself : (b : ℕ) → IsCharacter (codes "#\\" ++ b ∷ []) b
  space : (word : List ℕ) → str_to_ascii_lowercase word ≡ codes "#\\space" → IsCharacter word (byte " ")
  newline : (word : List ℕ) → str_to_ascii_lowercase word ≡ codes "#\\newline" → IsCharacter word (byte "\n")

-- ⟨string element⟩s, and the bytes that they stand for
pub data IsString : List ℕ → List ℕ → Type 0 where
  empty : IsString [] []
  plain :
      (b : ℕ) (text bytes : List ℕ) → b ≢ byte "\"" → b ≢ byte "\\" → IsString text bytes
      → IsString (b ∷ text) (b ∷ bytes)
  escaped_quote :
      (text bytes : List ℕ) → IsString text bytes
      → IsString (byte "\\" ∷ byte "\"" ∷ text) (byte "\"" ∷ bytes)
  escaped_backslash :
      (text bytes : List ℕ) → IsString text bytes
      → IsString (byte "\\" ∷ byte "\\" ∷ text) (byte "\\" ∷ bytes)

-- ⟨delimiter⟩ comes next, or the end of the text
abbrev pub Delimited : List ℕ → Type 0
Delimited [] = Unit {0}
Delimited (b ∷ bytes) = is_delimiter b ≡ true

-- none of the bytes is a delimiter
abbrev pub Undelimited : List ℕ → Type 0
Undelimited [] = Unit {0}
Undelimited (b ∷ bytes) = (is_delimiter b ≡ false) × Undelimited bytes

-- this byte does not come next
abbrev pub NotNext : ℕ → List ℕ → Type 0
NotNext b [] = Unit {0}
NotNext b (c ∷ bytes) = c ≢ b

-- ⟨token⟩ at a place, by its bytes and what follows them. A word and a character go on to a delimiter.
pub data IsToken : Pos → (word after : List ℕ) → Token → Type 0 where
  opens : (p : Pos) (after : List ℕ) → IsToken p (codes "(") after (Open p)
  opens_vector : (p : Pos) (after : List ℕ) → IsToken p (codes "#(") after (OpenVector p)
  closes : (p : Pos) (after : List ℕ) → IsToken p (codes ")") after (Close p)
  quote : (p : Pos) (after : List ℕ) → IsToken p (codes "'") after (Marking p Quote)
  quasiquote : (p : Pos) (after : List ℕ) → IsToken p (codes "`") after (Marking p Quasiquote)
  splice : (p : Pos) (after : List ℕ) → IsToken p (codes ",@") after (Marking p Splice)
  unquote : (p : Pos) (after : List ℕ) → NotNext (byte "@") after → IsToken p (codes ",") after (Marking p Unquote)
  string :
      (p : Pos) (after text bytes : List ℕ) → IsString text bytes
      → IsToken p (byte "\"" ∷ (text ++ byte "\"" ∷ [])) after (Atomic p (String bytes))
  character :
      (p : Pos) (after : List ℕ) (b : ℕ) (more : List ℕ) (c : ℕ) → Undelimited more → Delimited after
      → IsCharacter (codes "#\\" ++ b ∷ more) c → IsToken p (codes "#\\" ++ b ∷ more) after (Atomic p (Character c))
  word :
      (p : Pos) (after bytes : List ℕ) (t : Token) → Undelimited bytes → Delimited after
      → IsWord p (str_to_ascii_lowercase bytes) t → IsToken p bytes after t

-- Blanks

-- none of the bytes is a line end
abbrev pub IsOneLine : List ℕ → Type 0
IsOneLine [] = Unit {0}
IsOneLine (b ∷ bytes) = (b ≢ byte "\n") × IsOneLine bytes

-- a line end comes next, or the end of the text
abbrev pub AtLineEnd : List ℕ → Type 0
AtLineEnd [] = Unit {0}
AtLineEnd (b ∷ bytes) = b ≡ byte "\n"

-- A text that begins at a place is these tokens, with ⟨intertoken space⟩ between them: whitespace, which is
-- the space, the tab, the line feed, the form feed and the carriage return, and comments.
pub data IsTokens : Pos → List ℕ → List Token → Type 0 where
  ended : (p : Pos) → IsTokens p [] []
  white :
      (p : Pos) (b : ℕ) (rest : List ℕ) (ts : List Token) → is_ascii_whitespace b ≡ true
      → IsTokens (after_byte p b) rest ts → IsTokens p (b ∷ rest) ts
  comment :
      (p : Pos) (line rest : List ℕ) (ts : List Token) → IsOneLine line → AtLineEnd rest
      → IsTokens (position_after p (byte ";" ∷ line)) rest ts → IsTokens p (byte ";" ∷ (line ++ rest)) ts
  token :
      (p : Pos) (word rest : List ℕ) (t : Token) (ts : List Token) → IsToken p word rest t
      → IsTokens (position_after p word) rest ts → IsTokens p (word ++ rest) (t ∷ ts)

-- a whole text is these tokens
abbrev pub IsSpelled : List ℕ → List Token → Type 0
IsSpelled text ts = IsTokens (record { line = 1; col = 1 }) text ts

-- What stops a text

-- a text begins with a number that is out of range and goes on to a delimiter
pub record NumberOut (text : List ℕ) : Type 0 where
  pub word : List ℕ
  pub after : List ℕ
  pub whole : text ≡ word ++ after
  pub undelimited : Undelimited word
  pub delimited : Delimited after
  pub value : ℤ
  pub is_number : IsNumber (str_to_ascii_lowercase word) value
  pub out : in_range value ≡ false

-- what stands in a string, with good escapes or bad: a `\` takes the next byte along, whatever it is
pub data IsInside : List ℕ → Type 0 where
  at_start : IsInside []
  plain_byte : (b : ℕ) (text : List ℕ) → b ≢ byte "\"" → b ≢ byte "\\" → IsInside text → IsInside (b ∷ text)
  escaped_byte : (b : ℕ) (text : List ℕ) → IsInside text → IsInside (byte "\\" ∷ b ∷ text)

-- a text begins with a string that is never closed
pub record NeverEnds (text : List ℕ) : Type 0 where
  pub inside : List ℕ
  pub begins : text ≡ byte "\"" ∷ inside
  pub unclosed : (body after : List ℕ) → IsInside body → inside ≡ body ++ byte "\"" ∷ after → ⊥
