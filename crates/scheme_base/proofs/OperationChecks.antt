-- Every operation at known values, with each of its results and each of its errors, worked out by hand from
-- R4RS 6. A definition of another meaning fails at its table; must-fail/ has some.
use Rattle.std.proofs.Common.{◌≡◌, ℕ, ◌+◌, List, [], ◌∷◌, ◌++◌, Some, None, refl}
use Rattle.std.specs.Prelude.{ℤ, pos, negsuc, map}
use Rattle.scheme_base.specs.declared.env.Env.{Env}
use Rattle.scheme_base.specs.declared.op.Op.{Op}
use Rattle.scheme_base.specs.declared.op.Op.TheVariants as op
use Rattle.scheme_base.specs.declared.error.ErrKind.TheVariants.{WrongType, Index, NotProcedure, Overflow, ZeroDivisor, LiteralWritten}
use Rattle.scheme_base.specs.Outside.{ReadByte, ReadEnd, ReadFailed, Wrote, WriteFailed}
use Rattle.scheme_base.specs.Values.{Value, Integer, Character, False, True, Nil, Unspecified, Eof, Undefined, Object, Box, Thing, Holding, Procedure, ByRun, OfLiteral, NameOfLiteral, Content, Pair, String, Vector, Symbol, Blank, chosen, renumber, renumber_content}
use Rattle.scheme_base.specs.Operations.{Channels, no_channels, Outcome, Answers, Makes, Changes, Passes, Applies, Captures, Fails, Breaks, operate, sight, plain_store, entries_after, channels_after, list_value, list_contents, takes}
use Rattle.std.specs.Prelude.{true, false}

abbrev int : ℤ → Value
int z = Integer z

abbrev made : Content → Thing ℕ
made c = Holding ByRun c

abbrev quoted : Content → Thing ℕ
quoted c = Holding OfLiteral c

-- 0 and 1 are equal strings, 3 the list of 7 and the string 0, 4 a procedure, 5 a list that goes round, 13 a
-- list with a last item that is no list; 8 to 11 are literals, and 12 is the name of the literal symbol 11
abbrev things : List (Thing ℕ)
things =
    made (String (97 ∷ []))
    ∷ made (String (97 ∷ []))
    ∷ made (Pair (Object 0) Nil)
    ∷ made (Pair (int (pos 7)) (Object 2))
    ∷ Procedure 0
    ∷ made (Pair (int (pos 1)) (Object 5))
    ∷ made (Vector (Nil ∷ False ∷ []))
    ∷ made (Symbol (Object 0))
    ∷ quoted (Pair (int (pos 1)) Nil)
    ∷ quoted (String (97 ∷ 98 ∷ 99 ∷ []))
    ∷ quoted (Vector (int (pos 1) ∷ []))
    ∷ quoted (Symbol (Object 12))
    ∷ Holding NameOfLiteral (String (97 ∷ []))
    ∷ made (Pair (int (pos 1)) (int (pos 2)))
    ∷ made Blank
    ∷ []

abbrev quiet : Env
quiet = record { input = Some 120 ∷ None ∷ Some 377 ∷ []; failing = []; err_failing = [] }

record Row : Type 0 where
  op : Op
  operands : List Value
  outcome : Outcome

abbrev row : Op → List Value → Outcome → Row
row o vs outcome = record { op = o; operands = vs; outcome = outcome }

abbrev found : List Row → List Outcome
found rows = map (λ r. operate quiet (sight plain_store things) (no_channels quiet) r.op r.operands) rows

abbrev wanted : List Row → List Outcome
wanted rows = map (λ r. r.outcome) rows

-- Equivalence: by value or by identity, never by structure
abbrev equivalence : List Row
equivalence =
    row op.Eqv (int (pos 5) ∷ int (pos 5) ∷ []) (Answers True)
    ∷ row op.Eqv (int (pos 5) ∷ int (pos 6) ∷ []) (Answers False)
    ∷ row op.Eqv (int (negsuc 4) ∷ int (negsuc 4) ∷ []) (Answers True)
    ∷ row op.Eqv (int (pos 5) ∷ int (negsuc 4) ∷ []) (Answers False)
    ∷ row op.Eqv (Character 97 ∷ Character 97 ∷ []) (Answers True)
    ∷ row op.Eqv (Character 97 ∷ Character 98 ∷ []) (Answers False)
    ∷ row op.Eqv (int (pos 97) ∷ Character 97 ∷ []) (Answers False)
    ∷ row op.Eqv (False ∷ False ∷ []) (Answers True)
    ∷ row op.Eqv (True ∷ True ∷ []) (Answers True)
    ∷ row op.Eqv (True ∷ False ∷ []) (Answers False)
    ∷ row op.Eqv (Nil ∷ Nil ∷ []) (Answers True)
    ∷ row op.Eqv (Nil ∷ False ∷ []) (Answers False)
    ∷ row op.Eqv (Unspecified ∷ Unspecified ∷ []) (Answers True)
    ∷ row op.Eqv (Eof ∷ Eof ∷ []) (Answers True)
    ∷ row op.Eqv (Eof ∷ Unspecified ∷ []) (Answers False)
    ∷ row op.Eqv (Undefined ∷ Undefined ∷ []) (Answers True)
    ∷ row op.Eqv (Object 1 ∷ Object 1 ∷ []) (Answers True)
    ∷ row op.Eqv (Object 0 ∷ Object 1 ∷ []) (Answers False)
    ∷ row op.Eqv (Object 4 ∷ Object 4 ∷ []) (Answers True)
    ∷ row op.Eqv (Object 1 ∷ int (pos 1) ∷ []) (Answers False)
    ∷ row op.Eqv (Box 1 ∷ Box 1 ∷ []) (Answers True)
    ∷ row op.Eqv (Box 0 ∷ Box 1 ∷ []) (Answers False)
    ∷ row op.Eqv (Box 1 ∷ Object 1 ∷ []) (Answers False)
    ∷ []

equivalence_holds : found equivalence ≡ wanted equivalence
equivalence_holds = refl

-- Kinds of values: each answers #t of its own, also where it is a literal's, and of no other
abbrev kinds : List Row
kinds =
    row op.IsPair (Object 2 ∷ []) (Answers True)
    ∷ row op.IsPair (Object 8 ∷ []) (Answers True)
    ∷ row op.IsPair (Object 0 ∷ []) (Answers False)
    ∷ row op.IsPair (Object 6 ∷ []) (Answers False)
    ∷ row op.IsPair (Nil ∷ []) (Answers False)
    ∷ row op.IsSymbol (Object 7 ∷ []) (Answers True)
    ∷ row op.IsSymbol (Object 11 ∷ []) (Answers True)
    ∷ row op.IsSymbol (Object 0 ∷ []) (Answers False)
    ∷ row op.IsString (Object 0 ∷ []) (Answers True)
    ∷ row op.IsString (Object 9 ∷ []) (Answers True)
    ∷ row op.IsString (Object 12 ∷ []) (Answers True)
    ∷ row op.IsString (Object 7 ∷ []) (Answers False)
    ∷ row op.IsString (Object 14 ∷ []) (Answers False)
    ∷ row op.IsVector (Object 6 ∷ []) (Answers True)
    ∷ row op.IsVector (Object 10 ∷ []) (Answers True)
    ∷ row op.IsVector (Object 2 ∷ []) (Answers False)
    ∷ row op.IsProcedure (Object 4 ∷ []) (Answers True)
    ∷ row op.IsProcedure (Object 2 ∷ []) (Answers False)
    ∷ row op.IsProcedure (Object 99 ∷ []) (Answers False)
    ∷ row op.IsProcedure (int (pos 4) ∷ []) (Answers False)
    ∷ row op.IsInteger (int (negsuc 0) ∷ []) (Answers True)
    ∷ row op.IsInteger (Character 49 ∷ []) (Answers False)
    ∷ row op.IsInteger (Object 4 ∷ []) (Answers False)
    ∷ row op.IsChar (Character 49 ∷ []) (Answers True)
    ∷ row op.IsChar (int (pos 49) ∷ []) (Answers False)
    ∷ row op.IsBoolean (True ∷ []) (Answers True)
    ∷ row op.IsBoolean (False ∷ []) (Answers True)
    ∷ row op.IsBoolean (Nil ∷ []) (Answers False)
    ∷ row op.IsNull (Nil ∷ []) (Answers True)
    ∷ row op.IsNull (False ∷ []) (Answers False)
    ∷ row op.IsNull (Object 2 ∷ []) (Answers False)
    ∷ row op.IsEof (Eof ∷ []) (Answers True)
    ∷ row op.IsEof (Unspecified ∷ []) (Answers False)
    ∷ []

kinds_hold : found kinds ≡ wanted kinds
kinds_hold = refl

-- Pairs. A literal may not be written to, which is found after the types of all operands.
abbrev pairs : List Row
pairs =
    row op.Cons (Nil ∷ Object 0 ∷ []) (Makes (Pair Nil (Object 0)))
    ∷ row op.Car (Object 3 ∷ []) (Answers (int (pos 7)))
    ∷ row op.Car (Object 8 ∷ []) (Answers (int (pos 1)))
    ∷ row op.Car (Nil ∷ []) (Fails WrongType)
    ∷ row op.Car (Object 0 ∷ []) (Fails WrongType)
    ∷ row op.Car (Object 3 ∷ Object 3 ∷ []) (Fails WrongType)
    ∷ row op.Car [] (Fails WrongType)
    ∷ row op.Cdr (Object 3 ∷ []) (Answers (Object 2))
    ∷ row op.Cdr (Nil ∷ []) (Fails WrongType)
    ∷ row op.SetCar (Object 3 ∷ Eof ∷ []) (Changes 3 (Pair Eof (Object 2)))
    ∷ row op.SetCar (Object 8 ∷ Eof ∷ []) (Fails LiteralWritten)
    ∷ row op.SetCar (Object 9 ∷ Eof ∷ []) (Fails WrongType)
    ∷ row op.SetCar (Nil ∷ Eof ∷ []) (Fails WrongType)
    ∷ row op.SetCdr (Object 3 ∷ Eof ∷ []) (Changes 3 (Pair (int (pos 7)) Eof))
    ∷ row op.SetCdr (Object 8 ∷ Eof ∷ []) (Fails LiteralWritten)
    ∷ row op.SetCdr (Object 4 ∷ Eof ∷ []) (Fails WrongType)
    ∷ []

pairs_hold : found pairs ≡ wanted pairs
pairs_hold = refl

-- Integers, from -2^61 to 2^61 - 1
abbrev integers : List Row
integers =
    row op.Add (int (pos 2305843009213693950) ∷ int (pos 1) ∷ []) (Answers (int (pos 2305843009213693951)))
    ∷ row op.Add (int (pos 2305843009213693951) ∷ int (pos 1) ∷ []) (Fails Overflow)
    ∷ row op.Add (int (pos 1) ∷ True ∷ []) (Fails WrongType)
    ∷ row op.Subtract (int (negsuc 2305843009213693950) ∷ int (pos 1) ∷ []) (Answers (int (negsuc 2305843009213693951)))
    ∷ row op.Subtract (int (negsuc 2305843009213693951) ∷ int (pos 1) ∷ []) (Fails Overflow)
    ∷ row op.Subtract (Character 1 ∷ int (pos 1) ∷ []) (Fails WrongType)
    ∷ row op.Multiply (int (negsuc 2) ∷ int (pos 4) ∷ []) (Answers (int (negsuc 11)))
    ∷ row op.Multiply (int (pos 1152921504606846976) ∷ int (pos 2) ∷ []) (Fails Overflow)
    ∷ row op.Multiply (int (pos 1) ∷ Nil ∷ []) (Fails WrongType)
    ∷ row op.Quotient (int (negsuc 6) ∷ int (pos 2) ∷ []) (Answers (int (negsuc 2)))
    ∷ row op.Quotient (int (negsuc 2305843009213693951) ∷ int (negsuc 0) ∷ []) (Fails Overflow)
    ∷ row op.Quotient (int (pos 7) ∷ int (pos 0) ∷ []) (Fails ZeroDivisor)
    ∷ row op.Quotient (int (pos 7) ∷ Nil ∷ []) (Fails WrongType)
    ∷ row op.Remainder (int (negsuc 6) ∷ int (pos 2) ∷ []) (Answers (int (negsuc 0)))
    ∷ row op.Remainder (int (pos 7) ∷ int (pos 0) ∷ []) (Fails ZeroDivisor)
    ∷ row op.Remainder (Nil ∷ int (pos 0) ∷ []) (Fails WrongType)
    ∷ row op.Modulo (int (negsuc 6) ∷ int (pos 2) ∷ []) (Answers (int (pos 1)))
    ∷ row op.Modulo (int (pos 7) ∷ int (negsuc 1) ∷ []) (Answers (int (negsuc 0)))
    ∷ row op.Modulo (int (negsuc 7) ∷ int (pos 2) ∷ []) (Answers (int (pos 0)))
    ∷ row op.Modulo (int (pos 7) ∷ int (pos 0) ∷ []) (Fails ZeroDivisor)
    ∷ row op.Modulo (int (pos 7) ∷ Object 0 ∷ []) (Fails WrongType)
    ∷ row op.Equals (int (pos 7) ∷ int (pos 7) ∷ []) (Answers True)
    ∷ row op.Equals (int (pos 7) ∷ int (negsuc 6) ∷ []) (Answers False)
    ∷ row op.Equals (Nil ∷ Nil ∷ []) (Fails WrongType)
    ∷ row op.Less (int (negsuc 6) ∷ int (pos 0) ∷ []) (Answers True)
    ∷ row op.Less (int (negsuc 6) ∷ int (negsuc 7) ∷ []) (Answers False)
    ∷ row op.Less (int (pos 0) ∷ int (pos 0) ∷ []) (Answers False)
    ∷ row op.Less (int (pos 0) ∷ Eof ∷ []) (Fails WrongType)
    ∷ []

integers_hold : found integers ≡ wanted integers
integers_hold = refl

-- Characters and symbols
abbrev characters : List Row
characters =
    row op.CharToInteger (Character 200 ∷ []) (Answers (int (pos 200)))
    ∷ row op.CharToInteger (int (pos 200) ∷ []) (Fails WrongType)
    ∷ row op.IntegerToChar (int (pos 255) ∷ []) (Answers (Character 255))
    ∷ row op.IntegerToChar (int (pos 256) ∷ []) (Fails Index)
    ∷ row op.IntegerToChar (int (negsuc 0) ∷ []) (Fails Index)
    ∷ row op.IntegerToChar (Character 65 ∷ []) (Fails WrongType)
    ∷ row op.SymbolName (Object 7 ∷ []) (Answers (Object 0))
    ∷ row op.SymbolName (Object 11 ∷ []) (Answers (Object 12))
    ∷ row op.SymbolName (Object 0 ∷ []) (Fails WrongType)
    ∷ row op.MakeSymbol (Object 0 ∷ []) (Makes (Symbol (Object 0)))
    ∷ row op.MakeSymbol (Object 7 ∷ []) (Fails WrongType)
    ∷ []

characters_hold : found characters ≡ wanted characters
characters_hold = refl

-- Strings. A written literal comes after the types and before the index.
abbrev strings : List Row
strings =
    row op.MakeString (int (pos 2) ∷ Character 98 ∷ []) (Makes (String (98 ∷ 98 ∷ [])))
    ∷ row op.MakeString (int (pos 0) ∷ Character 98 ∷ []) (Makes (String []))
    ∷ row op.MakeString (int (negsuc 0) ∷ Character 98 ∷ []) (Fails Index)
    ∷ row op.MakeString (int (negsuc 0) ∷ Nil ∷ []) (Fails WrongType)
    ∷ row op.StringLength (Object 9 ∷ []) (Answers (int (pos 3)))
    ∷ row op.StringLength (Object 7 ∷ []) (Fails WrongType)
    ∷ row op.StringRef (Object 9 ∷ int (pos 1) ∷ []) (Answers (Character 98))
    ∷ row op.StringRef (Object 9 ∷ int (pos 3) ∷ []) (Fails Index)
    ∷ row op.StringRef (Object 9 ∷ int (negsuc 0) ∷ []) (Fails Index)
    ∷ row op.StringRef (Object 6 ∷ int (pos 0) ∷ []) (Fails WrongType)
    ∷ row op.StringRef (Object 9 ∷ Character 0 ∷ []) (Fails WrongType)
    ∷ row op.StringSet (Object 1 ∷ int (pos 0) ∷ Character 98 ∷ []) (Changes 1 (String (98 ∷ [])))
    ∷ row op.StringSet (Object 1 ∷ int (pos 1) ∷ Character 98 ∷ []) (Fails Index)
    ∷ row op.StringSet (Object 1 ∷ int (negsuc 0) ∷ Character 98 ∷ []) (Fails Index)
    ∷ row op.StringSet (Object 9 ∷ int (pos 0) ∷ Character 98 ∷ []) (Fails LiteralWritten)
    ∷ row op.StringSet (Object 9 ∷ int (pos 9) ∷ Character 98 ∷ []) (Fails LiteralWritten)
    ∷ row op.StringSet (Object 12 ∷ int (pos 0) ∷ Character 98 ∷ []) (Fails LiteralWritten)
    ∷ row op.StringSet (Object 9 ∷ int (pos 9) ∷ Nil ∷ []) (Fails WrongType)
    ∷ row op.StringSet (Object 7 ∷ int (pos 0) ∷ Character 98 ∷ []) (Fails WrongType)
    ∷ []

strings_hold : found strings ≡ wanted strings
strings_hold = refl

-- Vectors
abbrev vectors : List Row
vectors =
    row op.MakeVector (int (pos 2) ∷ Object 0 ∷ []) (Makes (Vector (Object 0 ∷ Object 0 ∷ [])))
    ∷ row op.MakeVector (int (negsuc 0) ∷ Nil ∷ []) (Fails Index)
    ∷ row op.MakeVector (Nil ∷ Nil ∷ []) (Fails WrongType)
    ∷ row op.VectorLength (Object 6 ∷ []) (Answers (int (pos 2)))
    ∷ row op.VectorLength (Object 9 ∷ []) (Fails WrongType)
    ∷ row op.VectorRef (Object 6 ∷ int (pos 1) ∷ []) (Answers False)
    ∷ row op.VectorRef (Object 6 ∷ int (pos 2) ∷ []) (Fails Index)
    ∷ row op.VectorRef (Object 6 ∷ int (negsuc 0) ∷ []) (Fails Index)
    ∷ row op.VectorRef (Object 3 ∷ int (pos 0) ∷ []) (Fails WrongType)
    ∷ row op.VectorSet (Object 6 ∷ int (pos 0) ∷ Eof ∷ []) (Changes 6 (Vector (Eof ∷ False ∷ [])))
    ∷ row op.VectorSet (Object 6 ∷ int (pos 2) ∷ Eof ∷ []) (Fails Index)
    ∷ row op.VectorSet (Object 10 ∷ int (pos 2) ∷ Eof ∷ []) (Fails LiteralWritten)
    ∷ row op.VectorSet (Object 10 ∷ Nil ∷ Eof ∷ []) (Fails WrongType)
    ∷ []

vectors_hold : found vectors ≡ wanted vectors
vectors_hold = refl

-- Calls: of the procedure first, and then of a proper list
abbrev calls : List Row
calls =
    row op.Apply (Object 4 ∷ Object 3 ∷ []) (Applies (Object 4) (int (pos 7) ∷ Object 0 ∷ []))
    ∷ row op.Apply (Object 4 ∷ Nil ∷ []) (Applies (Object 4) [])
    ∷ row op.Apply (Object 4 ∷ Object 5 ∷ []) (Fails WrongType)
    ∷ row op.Apply (Object 4 ∷ Object 13 ∷ []) (Fails WrongType)
    ∷ row op.Apply (Object 4 ∷ Object 6 ∷ []) (Fails WrongType)
    ∷ row op.Apply (Object 3 ∷ Object 5 ∷ []) (Fails NotProcedure)
    ∷ row op.CallCC (Object 4 ∷ []) (Captures (Object 4))
    ∷ row op.CallCC (Object 3 ∷ []) (Fails NotProcedure)
    ∷ row op.WriteChar (int (pos 97) ∷ []) (Fails WrongType)
    ∷ row op.WriteChar (Object 0 ∷ []) (Fails WrongType)
    ∷ []

calls_hold : found calls ≡ wanted calls
calls_hold = refl

-- Characters in and out. A byte that is peeked at stays for the next read; an end of the input does not; an
-- item gives its number modulo 256; a call that fails stops the run.

abbrev next : Env → Op → Channels → Outcome
next env o ch = operate env (sight plain_store things) ch o []

abbrev then : Env → Op → Channels → Channels
then env o ch = channels_after ch (next env o ch)

abbrev peeked : Channels
peeked = then quiet op.PeekChar (no_channels quiet)

abbrev first_read : Channels
first_read = then quiet op.ReadChar peeked

peek : next quiet op.PeekChar (no_channels quiet) ≡ Passes (Character 120) peeked
peek = refl

read_after_peek : next quiet op.ReadChar peeked ≡ Passes (Character 120) first_read
read_after_peek = refl

one_read : first_read.calls.trace ≡ ReadByte 120 ∷ []
one_read = refl

peek_again : then quiet op.PeekChar peeked ≡ peeked
peek_again = refl

read_at_once : next quiet op.ReadChar (no_channels quiet) ≡ Passes (Character 120) first_read
read_at_once = refl

at_end : next quiet op.PeekChar first_read ≡ Passes Eof (then quiet op.PeekChar first_read)
at_end = refl

read_after_end :
    next quiet op.ReadChar (then quiet op.PeekChar first_read)
    ≡ Passes (Character 121) (then quiet op.ReadChar (then quiet op.PeekChar first_read))
read_after_end = refl

all_reads :
    (then quiet op.ReadChar (then quiet op.ReadChar (then quiet op.PeekChar first_read))).calls.trace
    ≡ ReadEnd ∷ ReadByte 121 ∷ ReadEnd ∷ ReadByte 120 ∷ []
all_reads = refl

-- the second call fails, a write, and so the third, a read
abbrev failing : Env
failing = record { input = Some 120 ∷ []; failing = 3 ∷ 2 ∷ []; err_failing = 1 ∷ [] }

abbrev write : Channels → Outcome
write ch = operate failing (sight plain_store things) ch op.WriteChar (Character 97 ∷ [])

abbrev after_writes : Channels
after_writes = channels_after (channels_after (no_channels failing) (write (no_channels failing))) (write (channels_after (no_channels failing) (write (no_channels failing))))

writes : write (no_channels failing)
    ≡ Passes Unspecified (record { calls = record { input = Some 120 ∷ []; trace = Wrote 97 ∷ []; sent = [] }; ahead = None })
writes = refl

write_fails : write (channels_after (no_channels failing) (write (no_channels failing)))
    ≡ Breaks (record { calls = record { input = Some 120 ∷ []; trace = WriteFailed 97 ∷ Wrote 97 ∷ []; sent = [] }; ahead = None })
write_fails = refl

read_fails : next failing op.ReadChar after_writes
    ≡ Breaks (record { calls = record { input = Some 120 ∷ []; trace = ReadFailed ∷ WriteFailed 97 ∷ Wrote 97 ∷ []; sent = [] }; ahead = None })
read_fails = refl

-- Stores

abbrev two : List (Thing ℕ)
two = made (Pair Nil Nil) ∷ Procedure 7 ∷ []

entry_made : entries_after plain_store two (Makes (String [])) ≡ two ++ made (String []) ∷ []
entry_made = refl

entry_changed : entries_after plain_store (quoted Blank ∷ two) (Changes 1 (Pair Eof Nil)) ≡ quoted Blank ∷ made (Pair Eof Nil) ∷ Procedure 7 ∷ []
entry_changed = refl

none_changed : entries_after plain_store two (Answers Nil) ≡ two
none_changed = refl

rest : list_contents 7 (Nil ∷ Eof ∷ []) ≡ Pair Nil (Object 8) ∷ Pair Eof Nil ∷ []
rest = refl

rest_values : list_value 7 (Nil ∷ []) ∷ list_value 7 [] ∷ [] ≡ Object 7 ∷ Nil ∷ []
rest_values = refl

-- a procedure takes as many operands as it has parameters, and with a rest parameter more
counts :
    takes 2 false 2 ∷ takes 2 false 1 ∷ takes 2 false 3 ∷ takes 2 true 1 ∷ takes 2 true 2 ∷ takes 2 true 3 ∷ []
    ≡ true ∷ false ∷ false ∷ false ∷ true ∷ true ∷ []
counts = refl

-- only #f is false
choices :
    map (λ v. chosen v True Nil) (False ∷ True ∷ Nil ∷ int (pos 0) ∷ Unspecified ∷ Object 0 ∷ [])
    ≡ Nil ∷ True ∷ True ∷ True ∷ True ∷ True ∷ []
choices = refl

-- Another numbering changes the numbers of objects, wherever they stand, and nothing else.

abbrev later : ℕ → ℕ
later n = n + 10

renumbered :
    renumber later (Object 3) ∷ renumber later (Box 3) ∷ renumber later (int (pos 3)) ∷ []
    ≡ Object 13 ∷ Box 3 ∷ int (pos 3) ∷ []
renumbered = refl

renumbered_contents :
    map (renumber_content later)
    (Pair (Object 0) (Object 1) ∷ Vector (Nil ∷ Object 2 ∷ []) ∷ Symbol (Object 3) ∷ String (3 ∷ []) ∷ Blank ∷ [])
    ≡ Pair (Object 10) (Object 11) ∷ Vector (Nil ∷ Object 12 ∷ []) ∷ Symbol (Object 13) ∷ String (3 ∷ []) ∷ Blank ∷ []
renumbered_contents = refl
