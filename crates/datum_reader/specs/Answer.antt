-- The data of a text, or its one fault.
--
-- A text has at most 2^20 bytes, and its data are nested at most 1,000 deep. Its fault is at the first token
-- after which no such text goes on, or at what is still open at its end.
use Rattle.std.specs.Prelude.{◌≡◌, ℕ, ◌<◌, ◌≤◌, List, length, ◌++◌, Option, Some, None, ◌⊎◌, Result, Ok, Err}
use Rattle.scheme_base.specs.declared.pos.Pos.{Pos}
use Rattle.scheme_base.specs.Positions.{position_after}
use Rattle.datum_form.specs.declared.token.Token.{Token}
use Rattle.datum_form.specs.Syntax.{Syntax, IsText, Begins}
use Rattle.datum_form.specs.Data.{Items, data_of, unplaced_all}
use Rattle.datum_form.specs.Print.{lines_of}
use Rattle.datum_form.specs.Stands.{Holds}
use Rattle.datum_form.specs.declared.datums.Datums.{Datums}
use Rattle.datum_form.specs.Grammar.{IsSpelled, IsToken, IsTokens, NumberOut, NeverEnds}
use Rattle.datum_form.specs.Faults.{Strays, Deepens, Unclosed as UnclosedTokens}
use Rattle.datum_form.specs.Text.{Ending, Lexed, lexed}
use Rattle.datum_form.specs.Text.Ending.{Clean, BadAt, RangeAt, OpenAt}
use Rattle.datum_reader.specs.declared.error.ReadErr.{ReadErr}
use Rattle.datum_reader.specs.declared.error.ReadErr.TheVariants.{Unclosed, Stray, BadToken, NumberRange, TooDeep, TooLong, NoMemory}

-- the most bytes of a text
abbrev pub max_length : ℕ
max_length = 1048576

-- the deepest nesting of its lists, vectors and marks
abbrev pub max_depth : ℕ
max_depth = 1000

-- a text reads as these data: it is the tokens of some trees, which are these data
pub record Reads (text : List ℕ) (data_read : Items) : Type 0 where
  pub short : length text ≤ max_length
  pub tokens : List Token
  pub spelled : IsSpelled text tokens
  pub trees : List Syntax
  pub is_text : IsText max_depth tokens trees
  pub read : data_read ≡ data_of trees

-- these data are printed as a text that reads as the same data, places aside; it may be longer than a text
-- that is read
pub record ReadsAgain (data_printed : Items) : Type 0 where
  pub tokens : List Token
  pub spelled : IsSpelled (lines_of data_printed) tokens
  pub trees : List Syntax
  pub is_text : IsText max_depth tokens trees
  pub same : unplaced_all (data_of trees) ≡ unplaced_all data_printed

-- where a text that does not come to its end stops
abbrev pub stop_of : Ending → Option Pos
stop_of Clean = None
stop_of (BadAt p) = Some p
stop_of (RangeAt p) = Some p
stop_of (OpenAt p) = Some p

-- why the tokens of a text stop before these bytes: a number out of range, a string that is never closed, or
-- neither of these
abbrev pub Causes : Ending → List ℕ → Type 0
Causes Clean rest = ⊥
Causes (BadAt p) rest = (NumberOut rest → ⊥) × (NeverEnds rest → ⊥)
Causes (RangeAt p) rest = NumberOut rest
Causes (OpenAt p) rest = NeverEnds rest

-- the tokens of a text that begins at one place stop at another: what stands before that place is these tokens,
-- none begins there, and why
pub record Stops (start : Pos) (text : List ℕ) (lex : Lexed) (p : Pos) : Type 0 where
  pub front : List ℕ
  pub rest : List ℕ
  pub whole : text ≡ front ++ rest
  pub place : p ≡ position_after start front
  pub before : IsTokens start front lex.tokens
  pub some : 0 < length rest
  pub none : (word after : List ℕ) (t : Token) → rest ≡ word ++ after → IsToken p word after t → ⊥
  pub cause : Causes lex.ending rest

-- the tokens of a text begin a text, and then comes what is no token
pub record Breaks (lex : Lexed) (ending : Ending) : Type 0 where
  pub begins : Begins max_depth lex.tokens
  pub is : lex.ending ≡ ending

-- the tokens of a text go to its end, and something is still open there
pub record EndsInside (lex : Lexed) (p : Pos) : Type 0 where
  pub clean : lex.ending ≡ Clean
  pub unclosed : UnclosedTokens max_depth lex.tokens p

-- a text that is not too long has this fault
abbrev pub Fault : Lexed → ReadErr → Type 0
Fault lex (Stray p) = Strays max_depth lex.tokens p
Fault lex (TooDeep p) = Deepens max_depth lex.tokens p
Fault lex (BadToken p) = Breaks lex (BadAt p)
Fault lex (NumberRange p) = Breaks lex (RangeAt p)
Fault lex (Unclosed p) = EndsInside lex p ⊎ Breaks lex (OpenAt p)
Fault lex (TooLong n) = ⊥
Fault lex NoMemory = ⊥

-- a text has this fault; its length is looked at first
abbrev pub ReadFault : List ℕ → ReadErr → Type 0
ReadFault text (TooLong n) = (max_length < length text) × (n ≡ length text)
ReadFault text e = (length text ≤ max_length) × Fault (lexed text) e

-- what is answered is so: data that the text reads as, or its fault; only want of memory has no cause
abbrev pub Answers : List ℕ → Result Datums ReadErr → Type 0
Answers text (Ok datums) = (d : Items) × Reads text d × Holds datums d
Answers text (Err NoMemory) = Unit {0}
Answers text (Err e) = ReadFault text e

-- the answer is these data
abbrev pub AreData : Items → Result Datums ReadErr → Type 0
AreData d (Ok datums) = Holds datums d
AreData d (Err e) = ⊥

-- this is answered, unless memory is wanting
abbrev pub OrNoMemory : (Result Datums ReadErr → Type 0) → Result Datums ReadErr → Type 0
OrNoMemory is answer = is answer ⊎ (answer ≡ Err NoMemory)
