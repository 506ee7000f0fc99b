-- Calls of the library's procedures that become operations at once: integrated calls.
--
-- They are what the procedure does with so many operands. Where that evaluates an operand not once, or not
-- in its turn, the operands are bound to fresh variables first, from left to right.
use Rattle.std.specs.Prelude.{ℕ, ℤ, suc, pos, nat_eq, List, [], ◌∷◌, length, Option, Some, None, Bool, true, false, if◌then◌else◌, codes}
use Rattle.std.specs.Str.{bytes_eq}
use Rattle.scheme_base.specs.declared.pos.Pos.{Pos}
use Rattle.scheme_base.specs.declared.op.Op.{Op}
use Rattle.scheme_base.specs.declared.op.Op.TheVariants as op
use Rattle.scheme_base.specs.Operands.{name_of, operands_of}
use Rattle.scheme_base.specs.Constants.{Constant as constant}
use Rattle.scheme_expand.specs.Grammar.{Reading, form, begun}
use Rattle.draft_form.specs.Drafts.{Name, Draft, Drafts, Fresh, Const, Symbols, Ref, Lambda, If, Call, Prim, none, item}

abbrev pub count : Drafts → ℕ
count none = 0
count (item e es) = suc (count es)

abbrev pub one : Draft → Drafts
one e = item e none

abbrev pub two : Draft → Draft → Drafts
two d e = item d (one e)

abbrev pub truth : Pos → Bool → Draft
truth p b = Const p (constant.Boolean b)

abbrev pub negation : Pos → Draft → Draft
negation p e = If p e (truth p false) (truth p true)

-- fresh variables from a level on, and references to them

abbrev pub fresh : (level : ℕ) → (many : Drafts) → List Name
fresh k none = []
fresh k (item e es) = Fresh k ∷ fresh (suc k) es

abbrev pub references : Pos → (level : ℕ) → (many : Drafts) → List Draft
references p k none = []
references p k (item e es) = Ref p (Fresh k) ∷ references p (suc k) es

-- operations with one operand after another, from the left
abbrev pub folded : Pos → Op → Draft → List Draft → Draft
folded p o e [] = e
folded p o e (t ∷ ts) = folded p o (Prim p o (two e t)) ts

-- `+` and `*`, which give this number without operands
abbrev pub sum : Pos → Op → (nothing : ℤ) → List Draft → Draft
sum p o n [] = Const p (constant.Integer n)
sum p o n (t ∷ []) = Prim p o (two (Const p (constant.Integer n)) t)
sum p o n (t ∷ ts) = folded p o t ts

-- `-` of at least one operand
abbrev pub difference : Pos → Draft → List Draft → Draft
difference p t [] = Prim p op.Subtract (two (Const p (constant.Integer (pos 0))) t)
difference p t ts = folded p op.Subtract t ts

pub data Comparison : Type 0 where
  Equal Less Greater NotGreater NotLess : Comparison

abbrev pub comparison : Pos → Comparison → Draft → Draft → Draft
comparison p Equal d e = Prim p op.Equals (two d e)
comparison p Less d e = Prim p op.Less (two d e)
comparison p Greater d e = Prim p op.Less (two e d)
comparison p NotGreater d e = negation p (Prim p op.Less (two e d))
comparison p NotLess d e = negation p (Prim p op.Less (two d e))

-- each operand compared with the next, until one comparison fails
abbrev pub compared : Pos → Comparison → Draft → Draft → List Draft → Draft
compared p c d e [] = comparison p c d e
compared p c d e (f ∷ fs) = If p (comparison p c d e) (compared p c e f fs) (truth p false)

abbrev pub listed : Pos → List Draft → Draft
listed p [] = Const p constant.Nil
listed p (t ∷ ts) = Prim p op.Cons (two t (listed p ts))

-- what a procedure does with any operands, if it takes so many

pub data Way : Type 0 where
  -- an operation of two operands, of which the number is what it gives without operands
  Sums : Op → (nothing : ℤ) → Way
  Differs : Way
  Compares : Comparison → Way
  Lists : Way

abbrev pub way : Pos → Way → List Draft → Option Draft
way p (Sums o n) ts = Some (sum p o n ts)
way p Differs [] = None
way p Differs (t ∷ ts) = Some (difference p t ts)
way p (Compares c) [] = None
way p (Compares c) (t ∷ []) = None
way p (Compares c) (t ∷ u ∷ ts) = Some (compared p c t u ts)
way p Lists ts = Some (listed p ts)

-- a direct call of a lambda expression whose parameters are the fresh variables
abbrev pub binds : Pos → (level : ℕ) → Drafts → Draft → Draft
binds p k none e = e
binds p k es e = Call p (Lambda p (fresh k es) None e) es

abbrev pub bound_first : Pos → (level : ℕ) → Drafts → Option Draft → Option Draft
bound_first p k es None = None
bound_first p k es (Some e) = Some (binds p k es e)

-- an operation, if these are as many operands as it has
abbrev pub operation : Pos → Op → Drafts → Option Draft
operation p o es = if nat_eq (count es) (length (operands_of o)) then Some (Prim p o es) else None

-- an operation of two operands, or else this
abbrev pub at_once : Pos → Op → Drafts → Option Draft → Option Draft
at_once p o (item d (item e none)) other = Some (Prim p o (two d e))
at_once p o es other = other

abbrev pub negated : Pos → Drafts → Option Draft
negated p (item e none) = Some (negation p e)
negated p es = None

-- the library's procedures that are operations, and those that are made of operations at once
abbrev pub public_calls : Pos → (level : ℕ) → Drafts → List (Reading (Option Draft))
public_calls p k es =
    let done : Op → Option Draft = λ o. operation p o es in
    let first : Way → Option Draft = λ w. bound_first p k es (way p w (references p k es)) in
    form (codes "eqv?") (done op.Eqv) ∷ form (codes "eq?") (done op.Eqv) ∷ form (codes "pair?") (done op.IsPair)
    ∷ form (codes "symbol?") (done op.IsSymbol) ∷ form (codes "string?") (done op.IsString)
    ∷ form (codes "vector?") (done op.IsVector) ∷ form (codes "procedure?") (done op.IsProcedure)
    ∷ form (codes "integer?") (done op.IsInteger) ∷ form (codes "number?") (done op.IsInteger)
    ∷ form (codes "rational?") (done op.IsInteger) ∷ form (codes "real?") (done op.IsInteger)
    ∷ form (codes "complex?") (done op.IsInteger) ∷ form (codes "char?") (done op.IsChar)
    ∷ form (codes "boolean?") (done op.IsBoolean) ∷ form (codes "null?") (done op.IsNull)
    ∷ form (codes "eof-object?") (done op.IsEof) ∷ form (codes "cons") (done op.Cons) ∷ form (codes "car") (done op.Car)
    ∷ form (codes "cdr") (done op.Cdr) ∷ form (codes "set-car!") (done op.SetCar)
    ∷ form (codes "set-cdr!") (done op.SetCdr) ∷ form (codes "quotient") (done op.Quotient)
    ∷ form (codes "remainder") (done op.Remainder) ∷ form (codes "modulo") (done op.Modulo)
    ∷ form (codes "char->integer") (done op.CharToInteger) ∷ form (codes "integer->char") (done op.IntegerToChar)
    ∷ form (codes "symbol->string") (done op.SymbolName) ∷ form (codes "string-length") (done op.StringLength)
    ∷ form (codes "string-ref") (done op.StringRef) ∷ form (codes "string-set!") (done op.StringSet)
    ∷ form (codes "vector-length") (done op.VectorLength) ∷ form (codes "vector-ref") (done op.VectorRef)
    ∷ form (codes "vector-set!") (done op.VectorSet) ∷ form (codes "read-char") (done op.ReadChar)
    ∷ form (codes "peek-char") (done op.PeekChar) ∷ form (codes "write-char") (done op.WriteChar)
    ∷ form (codes "call-with-current-continuation") (done op.CallCC) ∷ form (codes "apply") (done op.Apply)
    ∷ form (codes "not") (negated p es)
    ∷ form (codes "+") (at_once p op.Add es (first (Sums op.Add (pos 0))))
    ∷ form (codes "*") (at_once p op.Multiply es (first (Sums op.Multiply (pos 1))))
    ∷ form (codes "-") (at_once p op.Subtract es (first Differs))
    ∷ form (codes "=") (at_once p op.Equals es (first (Compares Equal)))
    ∷ form (codes "<") (at_once p op.Less es (first (Compares Less)))
    ∷ form (codes ">") (first (Compares Greater)) ∷ form (codes "<=") (first (Compares NotGreater))
    ∷ form (codes ">=") (first (Compares NotLess)) ∷ form (codes "list") (first Lists) ∷ []

abbrev pub operations : List Op
operations =
    op.Eqv ∷ op.IsPair ∷ op.IsSymbol ∷ op.IsString ∷ op.IsVector ∷ op.IsProcedure ∷ op.IsInteger ∷ op.IsChar
    ∷ op.IsBoolean ∷ op.IsNull ∷ op.IsEof ∷ op.Cons ∷ op.Car ∷ op.Cdr ∷ op.SetCar ∷ op.SetCdr ∷ op.Add
    ∷ op.Subtract ∷ op.Multiply ∷ op.Quotient ∷ op.Remainder ∷ op.Modulo ∷ op.Equals ∷ op.Less
    ∷ op.CharToInteger ∷ op.IntegerToChar ∷ op.SymbolName ∷ op.MakeSymbol ∷ op.MakeString ∷ op.MakeVector
    ∷ op.StringLength ∷ op.VectorLength ∷ op.StringRef ∷ op.VectorRef ∷ op.StringSet ∷ op.VectorSet
    ∷ op.ReadChar ∷ op.PeekChar ∷ op.WriteChar ∷ op.Apply ∷ op.CallCC ∷ []

-- the operation of a name, which only the library can call by it
abbrev pub named_operation : Pos → List ℕ → Drafts → List Op → Option Draft
named_operation p x es [] = None
named_operation p x es (o ∷ os) = if bytes_eq x (name_of o) then operation p o es else named_operation p x es os

-- the list of the program's literal symbols, which takes no operand
abbrev pub symbol_call : Pos → Drafts → Option Draft
symbol_call p none = Some (Symbols p)
symbol_call p es = None

abbrev pub library_call : Pos → List ℕ → Drafts → Option Draft
library_call p x es =
    if bytes_eq x (codes "%symbols") then symbol_call p es else named_operation p x es operations

-- What a call of a variable of the library becomes, if not a call: `public` where the program makes it.
abbrev pub integrated : Pos → (level : ℕ) → List ℕ → Drafts → Option Draft
integrated p k x es = begun x (public_calls p k es) (library_call p x es)
