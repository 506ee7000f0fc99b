-- What each primitive operation does (R4RS 6), in every machine that runs a form of a program.
--
-- An operation sees its operands, the objects that they name and the input's look-ahead. Its outcome says
-- what it gives, which one object it makes or changes, or why it stops; a machine carries the outcome out.
-- The types of all operands come first, then whether a literal is written to, then ranges and divisors.
use Rattle.std.specs.Prelude.{ℕ, zero, suc, ℤ, pos, negsuc, ◌+ℤ◌, ◌-ℤ◌, ◌*ℤ◌, int_lt, int_div, int_rem, nat_eq, nat_lt, nat_le, ◌&&◌, ◌||◌, if◌then◌else◌, List, [], ◌∷◌, ◌++◌, length, replicate, slice_get, slice_set, Option, Some, None, Bool, true, false}
use Rattle.std.specs.Option.{option_map}
use Rattle.std.specs.Ordering.{int_eq}
use Rattle.scheme_base.specs.declared.env.Env.{Env}
use Rattle.scheme_base.specs.declared.op.Op.{Op}
use Rattle.scheme_base.specs.declared.op.Op.TheVariants as op
use Rattle.scheme_base.specs.declared.error.ErrKind.{ErrKind}
use Rattle.scheme_base.specs.declared.error.ErrKind.TheVariants.{WrongType, Index, NotProcedure, Overflow, ZeroDivisor, LiteralWritten}
use Rattle.scheme_base.specs.Outside.{Event, ReadByte, ReadEnd, Calls, no_calls, next_fails, read_event, after_read, after_write}
use Rattle.scheme_base.specs.Values.{Value, Integer, Character, False, True, Nil, Unspecified, Eof, Undefined, Object, Box, Origin, ByRun, OfLiteral, NameOfLiteral, Content, Pair, String, Vector, Symbol, Blank, Thing, Holding, Procedure, truth}
use Rattle.scheme_base.specs.Integers.{in_range}
use Rattle.scheme_base.specs.Operands.{Kind, Any, AnInteger, ACharacter, APair, AString, AVector, ASymbol, operands_of}

-- What an operation sees

-- what stands at an object's number
pub data Seen : Type 0 where
  Holds : Origin → Content → Seen
  IsProcedure : Seen
  Nowhere : Seen

-- the objects, and how many numbers are given so far
pub record Sight : Type 0 where
  pub at : ℕ → Seen
  pub size : ℕ

-- the channels of a run, and the byte of the input that a `%peek-char` has read ahead
pub record Channels : Type 0 where
  pub calls : Calls
  pub ahead : Option ℕ

abbrev pub no_channels : Env → Channels
no_channels env = record { calls = no_calls env; ahead = None }

-- What an operation comes to

pub data Outcome : Type 0 where
  Answers : Value → Outcome
  -- a new object, which is the result
  Makes : Content → Outcome
  -- the object of this number holds this from now on, and the result is unspecified
  Changes : (number : ℕ) → Content → Outcome
  -- a value, after what has passed on the channels
  Passes : Value → Channels → Outcome
  -- the procedure is called with these operands
  Applies : (procedure : Value) → List Value → Outcome
  -- the procedure is called with the continuation of the operation
  Captures : (procedure : Value) → Outcome
  Fails : ErrKind → Outcome
  -- a call on a channel failed
  Breaks : Channels → Outcome

-- Kinds

abbrev pub held : Seen → Content
held (Holds o c) = c
held IsProcedure = Blank
held Nowhere = Blank

-- what the object holds that a value names
abbrev pub content_at : Sight → Value → Content
content_at s (Object n) = held (s.at n)
content_at s v = Blank

-- a part of a literal, or the name of a literal symbol
abbrev pub is_constant : Seen → Bool
is_constant (Holds ByRun c) = false
is_constant (Holds OfLiteral c) = true
is_constant (Holds NameOfLiteral c) = true
is_constant seen = false

-- whether a value names what may not be written to
abbrev pub is_literal : Sight → Value → Bool
is_literal s (Object n) = is_constant (s.at n)
is_literal s v = false

abbrev pub called : Seen → Bool
called IsProcedure = true
called seen = false

abbrev pub is_procedure : Sight → Value → Bool
is_procedure s (Object n) = called (s.at n)
is_procedure s v = false

abbrev pub is_integer : Value → Bool
is_integer (Integer z) = true
is_integer v = false

abbrev pub is_character : Value → Bool
is_character (Character byte) = true
is_character v = false

abbrev pub is_boolean : Value → Bool
is_boolean False = true
is_boolean True = true
is_boolean v = false

abbrev pub is_nil : Value → Bool
is_nil Nil = true
is_nil v = false

abbrev pub is_eof : Value → Bool
is_eof Eof = true
is_eof v = false

abbrev pub is_pair : Content → Bool
is_pair (Pair a d) = true
is_pair c = false

abbrev pub is_string : Content → Bool
is_string (String chars) = true
is_string c = false

abbrev pub is_vector : Content → Bool
is_vector (Vector items) = true
is_vector c = false

abbrev pub is_symbol : Content → Bool
is_symbol (Symbol name) = true
is_symbol c = false

abbrev pub fits : Sight → Kind → Value → Bool
fits s Any v = true
fits s AnInteger v = is_integer v
fits s ACharacter v = is_character v
fits s APair v = is_pair (content_at s v)
fits s AString v = is_string (content_at s v)
fits s AVector v = is_vector (content_at s v)
fits s ASymbol v = is_symbol (content_at s v)

abbrev pub all_fit : Sight → List Kind → List Value → Bool
all_fit s [] [] = true
all_fit s [] (v ∷ vs) = false
all_fit s (k ∷ ks) [] = false
all_fit s (k ∷ ks) (v ∷ vs) = fits s k v && all_fit s ks vs

-- What is in operands of the right kind

abbrev pub integer_of : Value → ℤ
integer_of (Integer z) = z
integer_of v = pos 0

abbrev pub byte_of : Value → ℕ
byte_of (Character byte) = byte
byte_of v = 0

abbrev pub number_of : Value → ℕ
number_of (Object n) = n
number_of v = 0

abbrev pub car_of : Content → Value
car_of (Pair a d) = a
car_of c = Unspecified

abbrev pub cdr_of : Content → Value
cdr_of (Pair a d) = d
cdr_of c = Unspecified

abbrev pub chars_of : Content → List ℕ
chars_of (String chars) = chars
chars_of c = []

abbrev pub items_of : Content → List Value
items_of (Vector items) = items
items_of c = []

abbrev pub symbol_name : Content → Value
symbol_name (Symbol name) = name
symbol_name c = Unspecified

-- Equivalence (R4RS 6.2): integers and characters by value, objects by identity

abbrev pub same : Value → Value → Bool
same (Integer x) (Integer y) = int_eq x y
same (Character b) (Character c) = nat_eq b c
same False False = true
same True True = true
same Nil Nil = true
same Unspecified Unspecified = true
same Eof Eof = true
same Undefined Undefined = true
same (Object m) (Object n) = nat_eq m n
same (Box m) (Box n) = nat_eq m n
same v w = false

-- Numbers (R4RS 6.5.5)

abbrev pub whole : ℤ → Outcome
whole z = if in_range z then Answers (Integer z) else Fails Overflow

abbrev pub by : (divisor : ℤ) → Outcome → Outcome
by d outcome = if int_eq d (pos 0) then Fails ZeroDivisor else outcome

abbrev pub same_sign : ℤ → ℤ → Bool
same_sign (pos x) (pos y) = true
same_sign (negsuc x) (negsuc y) = true
same_sign x y = false

-- the remainder has the dividend's sign, the modulo the divisor's
abbrev pub modulo_of : (remainder divisor : ℤ) → ℤ
modulo_of r d = if int_eq r (pos 0) || same_sign r d then r else r +ℤ d

abbrev pub character : ℤ → Outcome
character (pos n) = if nat_lt n 256 then Answers (Character n) else Fails Index
character (negsuc n) = Fails Index

-- Strings and vectors (R4RS 6.7 and 6.8)

-- a number as a length
abbrev pub as_length : ℤ → (ℕ → Content) → Outcome
as_length (pos n) made = Makes (made n)
as_length (negsuc n) made = Fails Index

-- a number as an index of what is so long
abbrev pub as_index : ℤ → (long : ℕ) → (ℕ → Outcome) → Outcome
as_index (pos n) long outcome = if nat_lt n long then outcome n else Fails Index
as_index (negsuc n) long outcome = Fails Index

abbrev pub item_or : {A : Type 0} → A → Option A → A
item_or a None = a
item_or a (Some b) = b

-- what is written to is no literal (R4RS 3.5)
abbrev pub written_to : (literal : Bool) → Outcome → Outcome
written_to true outcome = Fails LiteralWritten
written_to false outcome = outcome

-- Lists of operands (R4RS 6.9)

-- what a value is as a list
pub data Link : Type 0 where
  Ended : Link
  Further : (car cdr : Value) → Link
  Broken : Link

abbrev pub link_of : Content → Link
link_of (Pair a d) = Further a d
link_of c = Broken

abbrev pub link_at : Sight → Value → Link
link_at s Nil = Ended
link_at s v = link_of (content_at s v)

abbrev pub linked : Link → (Value → Option (List Value)) → Option (List Value)
linked Ended rest = Some []
linked (Further a d) rest = option_map (λ vs. a ∷ vs) (rest d)
linked Broken rest = None

-- the items of a list of at most n pairs
abbrev pub listed : ℕ → Sight → Value → Option (List Value)
listed zero s v = linked (link_at s v) (λ d. None)
listed (suc n) s v = linked (link_at s v) (λ d. listed n s d)

-- a list is proper where its pairs come to an end; it has no more pairs than there are objects
abbrev pub items_at : Sight → Value → Option (List Value)
items_at s v = listed s.size s v

abbrev pub applied : (procedure : Bool) → Value → Option (List Value) → Outcome
applied false f items = Fails NotProcedure
applied true f None = Fails WrongType
applied true f (Some vs) = Applies f vs

abbrev pub captured : (procedure : Bool) → Value → Outcome
captured false f = Fails NotProcedure
captured true f = Captures f

-- Characters in and out (R4RS 6.10.2 and 6.10.3). An end of the input is not kept: the next operation
-- reads again.

-- the look-ahead after a byte
abbrev pub kept : (peeks : Bool) → ℕ → Option ℕ
kept true byte = Some byte
kept false byte = None

abbrev pub from_event : (peeks : Bool) → Calls → Event → Outcome
from_event peeks calls (ReadByte byte) = Passes (Character byte) (record { calls = calls; ahead = kept peeks byte })
from_event peeks calls ReadEnd = Passes Eof (record { calls = calls; ahead = None })
from_event peeks calls e = Breaks (record { calls = calls; ahead = None })

abbrev pub from_input : (peeks : Bool) → Env → Calls → Option ℕ → Outcome
from_input peeks env calls (Some byte) = Passes (Character byte) (record { calls = calls; ahead = kept peeks byte })
from_input peeks env calls None =
    from_event peeks (after_read env calls) (read_event (next_fails env calls) calls.input)

abbrev pub output_after : Channels → (failed : Bool) → Outcome
output_after channels true = Breaks channels
output_after channels false = Passes Unspecified channels

abbrev pub to_output : Env → Channels → ℕ → Outcome
to_output env channels byte =
    output_after (record { calls = after_write env byte channels.calls; ahead = channels.ahead })
    (next_fails env channels.calls)

-- The operations, on operands of the right kinds: the first, the second and the third, with what the
-- object of the first holds

abbrev pub act : Env → Sight → Channels → Op → (c : Content) (v w x : Value) → Outcome
act env s ch op.Eqv c v w x = Answers (truth (same v w))
act env s ch op.IsPair c v w x = Answers (truth (is_pair c))
act env s ch op.IsSymbol c v w x = Answers (truth (is_symbol c))
act env s ch op.IsString c v w x = Answers (truth (is_string c))
act env s ch op.IsVector c v w x = Answers (truth (is_vector c))
act env s ch op.IsProcedure c v w x = Answers (truth (is_procedure s v))
act env s ch op.IsInteger c v w x = Answers (truth (is_integer v))
act env s ch op.IsChar c v w x = Answers (truth (is_character v))
act env s ch op.IsBoolean c v w x = Answers (truth (is_boolean v))
act env s ch op.IsNull c v w x = Answers (truth (is_nil v))
act env s ch op.IsEof c v w x = Answers (truth (is_eof v))
act env s ch op.Cons c v w x = Makes (Pair v w)
act env s ch op.Car c v w x = Answers (car_of c)
act env s ch op.Cdr c v w x = Answers (cdr_of c)
act env s ch op.SetCar c v w x = written_to (is_literal s v) (Changes (number_of v) (Pair w (cdr_of c)))
act env s ch op.SetCdr c v w x = written_to (is_literal s v) (Changes (number_of v) (Pair (car_of c) w))
act env s ch op.Add c v w x = whole (integer_of v +ℤ integer_of w)
act env s ch op.Subtract c v w x = whole (integer_of v -ℤ integer_of w)
act env s ch op.Multiply c v w x = whole (integer_of v *ℤ integer_of w)
act env s ch op.Quotient c v w x = by (integer_of w) (whole (int_div (integer_of v) (integer_of w)))
act env s ch op.Remainder c v w x = by (integer_of w) (Answers (Integer (int_rem (integer_of v) (integer_of w))))
act env s ch op.Modulo c v w x =
    by (integer_of w) (Answers (Integer (modulo_of (int_rem (integer_of v) (integer_of w)) (integer_of w))))
act env s ch op.Equals c v w x = Answers (truth (int_eq (integer_of v) (integer_of w)))
act env s ch op.Less c v w x = Answers (truth (int_lt (integer_of v) (integer_of w)))
act env s ch op.CharToInteger c v w x = Answers (Integer (pos (byte_of v)))
act env s ch op.IntegerToChar c v w x = character (integer_of v)
act env s ch op.SymbolName c v w x = Answers (symbol_name c)
act env s ch op.MakeSymbol c v w x = Makes (Symbol v)
act env s ch op.MakeString c v w x = as_length (integer_of v) (λ n. String (replicate n (byte_of w)))
act env s ch op.MakeVector c v w x = as_length (integer_of v) (λ n. Vector (replicate n w))
act env s ch op.StringLength c v w x = Answers (Integer (pos (length (chars_of c))))
act env s ch op.VectorLength c v w x = Answers (Integer (pos (length (items_of c))))
act env s ch op.StringRef c v w x =
    as_index (integer_of w) (length (chars_of c)) (λ i. Answers (Character (item_or 0 (slice_get (chars_of c) i))))
act env s ch op.VectorRef c v w x =
    as_index (integer_of w) (length (items_of c)) (λ i. Answers (item_or Unspecified (slice_get (items_of c) i)))
act env s ch op.StringSet c v w x =
    written_to (is_literal s v)
    (as_index (integer_of w) (length (chars_of c)) (λ i. Changes (number_of v) (String (slice_set (chars_of c) i (byte_of x)))))
act env s ch op.VectorSet c v w x =
    written_to (is_literal s v)
    (as_index (integer_of w) (length (items_of c)) (λ i. Changes (number_of v) (Vector (slice_set (items_of c) i x))))
act env s ch op.ReadChar c v w x = from_input false env ch.calls ch.ahead
act env s ch op.PeekChar c v w x = from_input true env ch.calls ch.ahead
act env s ch op.WriteChar c v w x = to_output env ch (byte_of v)
act env s ch op.Apply c v w x = applied (is_procedure s v) v (items_at s w)
act env s ch op.CallCC c v w x = captured (is_procedure s v) v

abbrev pub checked : (fit : Bool) → Outcome → Outcome
checked true outcome = outcome
checked false outcome = Fails WrongType

-- the n-th operand, counted from 0
abbrev pub nth : List Value → ℕ → Value
nth vs n = item_or Unspecified (slice_get vs n)

-- an operation on its operands
abbrev pub operate : Env → Sight → Channels → Op → List Value → Outcome
operate env s ch o vs =
    checked (all_fit s (operands_of o) vs) (act env s ch o (content_at s (nth vs 0)) (nth vs 0) (nth vs 1) (nth vs 2))

-- Stores. A machine enters an object in a form E of its own.

pub record Store (E : Type 0) : Type 0 where
  pub seen : E → Seen
  -- how an object is entered that the run makes
  pub enter : Content → E
  -- what an entry becomes whose object holds something else from now on
  pub change : Content → E → E

abbrev pub seen_in : {E : Type 0} → Store E → Option E → Seen
seen_in store None = Nowhere
seen_in store (Some e) = store.seen e

abbrev pub sight : {E : Type 0} → Store E → List E → Sight
sight store es = record { at = λ n. seen_in store (slice_get es n); size = length es }

abbrev pub changed : {E : Type 0} → Store E → List E → ℕ → Content → Option E → List E
changed store es n c None = es
changed store es n c (Some e) = slice_set es n (store.change c e)

-- the entries after an outcome
abbrev pub entries_after : {E : Type 0} → Store E → List E → Outcome → List E
entries_after store es (Makes c) = es ++ store.enter c ∷ []
entries_after store es (Changes n c) = changed store es n c (slice_get es n)
entries_after store es outcome = es

-- the channels after an outcome
abbrev pub channels_after : Channels → Outcome → Channels
channels_after channels (Passes v after) = after
channels_after channels (Breaks after) = after
channels_after channels outcome = channels

-- the objects of a machine that notes nothing else beside them
abbrev pub plain_seen : {P : Type 0} → Thing P → Seen
plain_seen (Holding o c) = Holds o c
plain_seen (Procedure p) = IsProcedure

abbrev pub plain_change : {P : Type 0} → Content → Thing P → Thing P
plain_change c (Holding o d) = Holding o c
plain_change c (Procedure p) = Procedure p

abbrev pub plain_store : {P : Type 0} → Store (Thing P)
plain_store = record { seen = plain_seen; enter = λ c. Holding ByRun c; change = plain_change }

-- The list of these values that is made where objects have the numbers from n on: what its pairs hold, the
-- first pair first, and its value.

abbrev pub list_value : ℕ → List Value → Value
list_value n [] = Nil
list_value n (v ∷ vs) = Object n

abbrev pub list_contents : ℕ → List Value → List Content
list_contents n [] = []
list_contents n (v ∷ vs) = Pair v (list_value (suc n) vs) ∷ list_contents (suc n) vs

-- whether a procedure of so many parameters, with a rest parameter or without, takes so many operands
abbrev pub takes : (parameters : ℕ) (rest : Bool) (operands : ℕ) → Bool
takes parameters true operands = nat_le parameters operands
takes parameters false operands = nat_eq parameters operands
