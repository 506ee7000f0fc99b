-- The names whose calls are known, by number behind the keywords.
use Rattle.std.specs.Prelude.{ℕ, suc, pos, nat_eq, List, [], ◌∷◌, ◌++◌, map, length, Option, Some, None, if◌then◌else◌, codes}
use Rattle.std.specs.Borrow.{Bor}
use Rattle.scheme_base.specs.declared.op.Op.TheVariants as op
use Rattle.scheme_base.specs.Operands.{name_of}
use Rattle.scheme_expand.specs.declared.words.Comparison.TheVariants as how
use Rattle.scheme_expand.specs.declared.words.Known.{Known}
use Rattle.scheme_expand.specs.declared.words.Known.TheVariants as known
use Rattle.scheme_expand.specs.Calls.{operations}
use Rattle.scheme_expand.specs.Waiting.{keyword_table}

-- a name, and what its calls are
abbrev pub Entry : Type 0
Entry = List ℕ × Known

-- what the calls are that an entry of the code's table names
abbrev pub call_kind : Bor (List ℕ) × Known → Known
call_kind entry = entry.1

abbrev pub library_table : List Entry
library_table =
    (codes "eqv?", known.Operation op.Eqv)
    ∷ (codes "eq?", known.Operation op.Eqv)
    ∷ (codes "pair?", known.Operation op.IsPair)
    ∷ (codes "symbol?", known.Operation op.IsSymbol)
    ∷ (codes "string?", known.Operation op.IsString)
    ∷ (codes "vector?", known.Operation op.IsVector)
    ∷ (codes "procedure?", known.Operation op.IsProcedure)
    ∷ (codes "integer?", known.Operation op.IsInteger)
    ∷ (codes "number?", known.Operation op.IsInteger)
    ∷ (codes "rational?", known.Operation op.IsInteger)
    ∷ (codes "real?", known.Operation op.IsInteger)
    ∷ (codes "complex?", known.Operation op.IsInteger)
    ∷ (codes "char?", known.Operation op.IsChar)
    ∷ (codes "boolean?", known.Operation op.IsBoolean)
    ∷ (codes "null?", known.Operation op.IsNull)
    ∷ (codes "eof-object?", known.Operation op.IsEof)
    ∷ (codes "cons", known.Operation op.Cons)
    ∷ (codes "car", known.Operation op.Car)
    ∷ (codes "cdr", known.Operation op.Cdr)
    ∷ (codes "set-car!", known.Operation op.SetCar)
    ∷ (codes "set-cdr!", known.Operation op.SetCdr)
    ∷ (codes "quotient", known.Operation op.Quotient)
    ∷ (codes "remainder", known.Operation op.Remainder)
    ∷ (codes "modulo", known.Operation op.Modulo)
    ∷ (codes "char->integer", known.Operation op.CharToInteger)
    ∷ (codes "integer->char", known.Operation op.IntegerToChar)
    ∷ (codes "symbol->string", known.Operation op.SymbolName)
    ∷ (codes "string-length", known.Operation op.StringLength)
    ∷ (codes "string-ref", known.Operation op.StringRef)
    ∷ (codes "string-set!", known.Operation op.StringSet)
    ∷ (codes "vector-length", known.Operation op.VectorLength)
    ∷ (codes "vector-ref", known.Operation op.VectorRef)
    ∷ (codes "vector-set!", known.Operation op.VectorSet)
    ∷ (codes "read-char", known.Operation op.ReadChar)
    ∷ (codes "peek-char", known.Operation op.PeekChar)
    ∷ (codes "write-char", known.Operation op.WriteChar)
    ∷ (codes "call-with-current-continuation", known.Operation op.CallCC)
    ∷ (codes "apply", known.Operation op.Apply)
    ∷ (codes "not", known.Not)
    ∷ (codes "+", known.Fold op.Add (pos 0))
    ∷ (codes "*", known.Fold op.Multiply (pos 1))
    ∷ (codes "-", known.Subtract)
    ∷ (codes "=", known.Compare how.Equal)
    ∷ (codes "<", known.Compare how.Less)
    ∷ (codes ">", known.Compare how.Greater)
    ∷ (codes "<=", known.Compare how.AtMost)
    ∷ (codes ">=", known.Compare how.AtLeast)
    ∷ (codes "list", known.List)
    ∷ (codes "%symbols", known.Symbols) ∷ []

abbrev pub operation_table : List Entry
operation_table = map (λ o. (name_of o, known.Operation o)) operations

abbrev pub known_table : List Entry
known_table = library_table ++ operation_table

abbrev pub entry_names : List Entry → List (List ℕ)
entry_names entries = map (λ e. e.0) entries

-- what calls of the name of a number are, where the first of these has a number
abbrev pub call_from : (number : ℕ) → List Entry → (word : ℕ) → Option Known
call_from n [] w = None
call_from n (e ∷ entries) w = if nat_eq w n then Some e.1 else call_from (suc n) entries w

abbrev pub call_at : (word : ℕ) → Option Known
call_at w = call_from (length keyword_table) known_table w
