-- The tokens of a text and their places, R4RS 2.2 and 7.1.1.
--
-- A text is a row of pieces: blanks, which are a whitespace byte or a comment, and tokens. A token goes on
-- as long as it can. The first piece that is no token ends the row: nothing after it is looked at.
use Rattle.std.specs.Prelude.{ℕ, zero, suc, ◌+◌, ◌-◌, ◌==◌, Bool, true, false, ◌||◌, if◌then◌else◌, not, List, [], ◌∷◌, length, take, drop, codes, slice_index}
use Rattle.std.specs.List.{take_while}
use Rattle.std.specs.Char.{is_ascii_whitespace}
use Rattle.std.specs.Str.{byte, str_to_ascii_lowercase}
use Rattle.scheme_base.specs.declared.pos.Pos.{Pos}
use Rattle.scheme_base.specs.Positions.{after_byte, is_line_end}
use Rattle.datum_form.specs.declared.token.Token.{Token}
use Rattle.datum_form.specs.declared.token.Atom.TheVariants.{String}
use Rattle.datum_form.specs.declared.token.Mark.TheVariants.{Quote, Quasiquote, Unquote, Splice}
use Rattle.datum_form.specs.declared.token.Token.TheVariants.{Open, OpenVector, Close, Marking, Atomic}
use Rattle.datum_form.specs.declared.piece.Piece.{Piece}
use Rattle.datum_form.specs.declared.piece.Piece.TheVariants.{Blank, Found, BadToken, BadNumber, OpenString}
use Rattle.datum_form.specs.declared.piece.Word.{Word}
use Rattle.datum_form.specs.Words.{begins_with, small_word, character_word}
use Rattle.datum_form.specs.declared.piece.Word.TheVariants.{IsToken, OutOfRange, NoWord}

-- Strings

-- what follows the quote mark that begins a string: its bytes and how many stand for them, with the quote
-- mark that ends it
pub data Quoted : Type 0 where
  Closed : (bytes : List ℕ) → (length : ℕ) → Quoted
  -- some `\` stands before another byte than `"` and `\`
  BadEscape : Quoted
  NeverClosed : Quoted

abbrev pub with_byte : ℕ → Quoted → Quoted
with_byte b (Closed bytes n) = Closed (b ∷ bytes) (n + 1)
with_byte b BadEscape = BadEscape
with_byte b NeverClosed = NeverClosed

abbrev pub after_backslash : Quoted → Quoted
after_backslash (Closed bytes n) = Closed bytes (n + 1)
after_backslash BadEscape = BadEscape
after_backslash NeverClosed = NeverClosed

abbrev pub with_bad_escape : Quoted → Quoted
with_bad_escape (Closed bytes n) = BadEscape
with_bad_escape BadEscape = BadEscape
with_bad_escape NeverClosed = NeverClosed

abbrev pub quoted : (escaped : Bool) → List ℕ → Quoted
quoted escaped [] = NeverClosed
quoted true (b ∷ bytes) =
    if b == byte "\"" || b == byte "\\" then with_byte b (quoted false bytes)
    else with_bad_escape (quoted false bytes)
quoted false (b ∷ bytes) =
    if b == byte "\"" then Closed [] 1
    else (if b == byte "\\" then after_backslash (quoted true bytes) else with_byte b (quoted false bytes))

-- Pieces

-- whitespace is the space, the tab, the line feed, the form feed and the carriage return
abbrev pub is_delimiter : ℕ → Bool
is_delimiter b = is_ascii_whitespace b || b == byte "(" || b == byte ")" || b == byte "\"" || b == byte ";"

-- how many bytes stand before the next delimiter
abbrev pub run_length : List ℕ → ℕ
run_length text = length (take_while (λ b. not (is_delimiter b)) text)

-- how many bytes stand before the next line end
abbrev pub line_length : List ℕ → ℕ
line_length text = length (take_while (λ b. not (is_line_end b)) text)

abbrev pub word_piece : Word → (length : ℕ) → Piece
word_piece (IsToken t) n = Found t n
word_piece OutOfRange n = BadNumber
word_piece NoWord n = BadToken

abbrev pub string_piece : Pos → Quoted → Piece
string_piece p (Closed bytes n) = Found (Atomic p (String bytes)) (n + 1)
string_piece p BadEscape = BadToken
string_piece p NeverClosed = OpenString

-- `#\` takes one byte, whatever it is, before its run goes on
abbrev pub character_piece : Pos → List ℕ → Piece
character_piece p text =
    word_piece (character_word p (take (3 + run_length (drop 3 text)) text)) (3 + run_length (drop 3 text))

abbrev pub run_piece : Pos → List ℕ → Piece
run_piece p text =
    if begins_with text (codes "#\\") then character_piece p text
    else word_piece (small_word p (str_to_ascii_lowercase (take (run_length text) text))) (run_length text)

abbrev pub mark_piece : Pos → List ℕ → Piece
mark_piece p text =
    if begins_with text (codes "'") then Found (Marking p Quote) 1
    else (if begins_with text (codes "`") then Found (Marking p Quasiquote) 1
    else (if begins_with text (codes ",@") then Found (Marking p Splice) 2
    else (if begins_with text (codes ",") then Found (Marking p Unquote) 1 else run_piece p text)))

abbrev pub token_piece : Pos → List ℕ → Piece
token_piece p text =
    if begins_with text (codes "(") then Found (Open p) 1
    else (if begins_with text (codes "#(") then Found (OpenVector p) 2
    else (if begins_with text (codes ")") then Found (Close p) 1
    else (if begins_with text (codes "\"") then string_piece p (quoted false (drop 1 text)) else mark_piece p text)))

-- the first piece of a text that is not empty and begins at this place
abbrev pub piece : Pos → List ℕ → Piece
piece p text =
    if is_ascii_whitespace (slice_index text 0) then Blank 1
    else (if begins_with text (codes ";") then Blank (line_length text) else token_piece p text)

abbrev pub piece_length : Piece → ℕ
piece_length (Blank n) = n
piece_length (Found t n) = n
piece_length BadToken = 1
piece_length BadNumber = 1
piece_length OpenString = 1

-- Tokens

-- how a text's tokens end: with the text, or with what is no token at this place
pub data Ending : Type 0 where
  Clean : Ending
  BadAt : Pos → Ending
  RangeAt : Pos → Ending
  OpenAt : Pos → Ending

pub record Lexed : Type 0 where
  pub tokens : List Token
  pub ending : Ending

-- a piece at this place, and what comes after it
abbrev pub before : Pos → Piece → Lexed → Lexed
before p (Blank n) rest = rest
before p (Found t n) rest = record { tokens = t ∷ rest.tokens; ending = rest.ending }
before p BadToken rest = record { tokens = []; ending = BadAt p }
before p BadNumber rest = record { tokens = []; ending = RangeAt p }
before p OpenString rest = record { tokens = []; ending = OpenAt p }

-- the tokens of a text that begins at this place, and of which the first bytes, so many, are still of the
-- piece before
abbrev pub lexed_after : (inside : ℕ) → Pos → List ℕ → Lexed
lexed_after inside p [] = record { tokens = []; ending = Clean }
lexed_after (suc inside) p (b ∷ bytes) = lexed_after inside (after_byte p b) bytes
lexed_after zero p (b ∷ bytes) =
    before p (piece p (b ∷ bytes)) (lexed_after (piece_length (piece p (b ∷ bytes)) - 1) (after_byte p b) bytes)

abbrev pub lexed : List ℕ → Lexed
lexed text = lexed_after 0 (record { line = 1; col = 1 }) text
