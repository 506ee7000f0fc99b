-- What holds of all expansions, and of the library.
use Rattle.std.specs.Prelude.{◌≡◌, ℕ, ◌<◌, ◌^◌, List, [], ◌∷◌, ◌++◌, length, take, slice_get, IsTrue, Option, Some, None, Bool, true, false, ◌||◌, codes}
use Rattle.std.specs.List.{list_all}
use Rattle.scheme_base.specs.declared.lit.Lit.{Lit}
use Rattle.scheme_base.specs.declared.lit.Lit.TheVariants as lit
use Rattle.scheme_base.specs.declared.op.Op.{Op}
use Rattle.scheme_base.specs.declared.op.Op.TheVariants as op
use Rattle.scheme_base.specs.Constants.{is_byte, are_bytes}
use Rattle.scheme_base.specs.Positions.{IsPosition}
use Rattle.datum_form.specs.Data.{Items}
use Rattle.core_form.specs.declared.program.Node.{Node}
use Rattle.core_form.specs.declared.program.Var.{Var}
use Rattle.core_form.specs.declared.program.Program.{Program}
use Rattle.core_form.specs.Trees.{Trees, Holds}
use Rattle.core_form.specs.Valid.{all_bound}
use Rattle.scheme_expand.specs.Faults.{in_forms}
use Rattle.draft_form.specs.Drafts.{Draft, Define, Lambda, Prim, Part, parts}
use Rattle.scheme_expand.specs.Rewriting.{has_name}
use Rattle.scheme_expand.specs.Programs.{library_of, library_forms, libraries}

-- two cores are one: the same forms and the same literals
pub record AreOne (core other : Program Var) : Type 0 where
  pub literals : core.lits ≡ other.lits
  pub forms : (es fs : Trees Var) → Holds core es → Holds other fs → es ≡ fs

-- forms that bind so few variables that each can have a number of 64 bits
abbrev pub BindFew : Trees Var → Type 0
BindFew forms = length (all_bound forms) < 2 ^ 64

-- The numbers of a core are those of its type

-- the positions of expressions are numbers of 32 bits
abbrev pub ArePlaced : {V : Type 0} → List (Node V) → Type 0
ArePlaced {V} exprs = (id : ℕ) (e : Node V) → slice_get exprs id ≡ Some e → IsPosition e.pos

-- the characters of a literal are bytes
abbrev pub HasBytes : Lit → Type 0
HasBytes (lit.Char byte) = IsTrue (is_byte byte)
HasBytes (lit.Symbol name) = IsTrue (are_bytes name)
HasBytes (lit.Text chars) = IsTrue (are_bytes chars)
HasBytes l = Unit {0}

abbrev pub AreBytes : List Lit → Type 0
AreBytes lits = (i : ℕ) (l : Lit) → slice_get lits i ≡ Some l → HasBytes l

-- a core as each value of its type is
pub record IsTyped (core : Program Var) : Type 0 where
  pub positions : ArePlaced core.exprs
  pub bytes : AreBytes core.lits

-- The library

abbrev pub names_twice : List (List ℕ) → Bool
names_twice [] = false
names_twice (x ∷ xs) = has_name xs x || names_twice xs

abbrev pub parts_of : List Draft → List Part
parts_of [] = []
parts_of (e ∷ es) = parts e ++ parts_of es

-- the operation that a definition gives a name, if its procedure only passes its operands on
abbrev pub operation_of : Draft → Option Op
operation_of (Define p x (Lambda q xs None (Prim r o es))) = Some o
operation_of e = None

abbrev pub operations_of : List Draft → List (Option Op)
operations_of [] = []
operations_of (e ∷ es) = operation_of e ∷ operations_of es

-- the operations of definitions 1 to 37, and their names
abbrev pub first_operations : List Op
first_operations =
    op.Eqv ∷ op.Eqv ∷ op.IsPair ∷ op.IsSymbol ∷ op.IsString ∷ op.IsVector ∷ op.IsProcedure ∷ op.IsInteger
    ∷ op.IsInteger ∷ op.IsInteger ∷ op.IsInteger ∷ op.IsInteger ∷ op.IsChar ∷ op.IsBoolean ∷ op.IsNull ∷ op.IsEof
    ∷ op.Cons ∷ op.Car ∷ op.Cdr ∷ op.SetCar ∷ op.SetCdr ∷ op.Quotient ∷ op.Remainder ∷ op.Modulo
    ∷ op.CharToInteger ∷ op.IntegerToChar ∷ op.SymbolName ∷ op.StringLength ∷ op.StringRef ∷ op.StringSet
    ∷ op.VectorLength ∷ op.VectorRef ∷ op.VectorSet ∷ op.ReadChar ∷ op.PeekChar ∷ op.WriteChar ∷ op.CallCC ∷ []

abbrev pub first_names : List (List ℕ)
first_names =
    codes "eqv?" ∷ codes "eq?" ∷ codes "pair?" ∷ codes "symbol?" ∷ codes "string?" ∷ codes "vector?"
    ∷ codes "procedure?" ∷ codes "integer?" ∷ codes "number?" ∷ codes "rational?" ∷ codes "real?" ∷ codes "complex?"
    ∷ codes "char?" ∷ codes "boolean?" ∷ codes "null?" ∷ codes "eof-object?" ∷ codes "cons" ∷ codes "car"
    ∷ codes "cdr" ∷ codes "set-car!" ∷ codes "set-cdr!" ∷ codes "quotient" ∷ codes "remainder" ∷ codes "modulo"
    ∷ codes "char->integer" ∷ codes "integer->char" ∷ codes "symbol->string" ∷ codes "string-length"
    ∷ codes "string-ref" ∷ codes "string-set!" ∷ codes "vector-length" ∷ codes "vector-ref" ∷ codes "vector-set!"
    ∷ codes "read-char" ∷ codes "peek-char" ∷ codes "write-char" ∷ codes "call-with-current-continuation" ∷ []

abbrev pub somes : List Op → List (Option Op)
somes [] = []
somes (o ∷ os) = Some o ∷ somes os

-- The data of a library's text. No form is broken, no name is defined twice, and each variable is one that is
-- defined: a name that begins with `%` is the name of an operation or of a definition.
pub record IsLibrary (ds : Items) : Type 0 where
  pub unbroken : in_forms (library_forms ds) ≡ []
  pub definitions : length (library_of ds).drafts ≡ 203
  pub names : length (library_of ds).names ≡ 203
  pub distinct : names_twice (library_of ds).names ≡ false
  pub defined : list_all (has_name (library_of ds).names) (libraries (parts_of (library_of ds).drafts)) ≡ true
  pub first : take 37 (library_of ds).names ≡ first_names
  pub operations : operations_of (take 37 (library_of ds).drafts) ≡ somes first_operations
