-- Valid cores and valid renamed cores, part by part.
use Rattle.std.specs.Prelude.{ℕ, ◌≡◌, ◌&&◌, ◌||◌, List, [], ◌∷◌, ◌++◌, length, slice_get, Option, Some, None, Bool, true, false, IsTrue, not, ◌⊎◌, if◌then◌else◌, nat_eq}
use Rattle.std.specs.List.{list_any, IsDistinct}
use Rattle.scheme_base.specs.declared.lit.Lit.{Lit}
use Rattle.scheme_base.specs.declared.lit.Lit.TheVariants as lit
use Rattle.scheme_base.specs.Constants.{Constant, IsConstant}
use Rattle.scheme_base.specs.Literals.{Laid}
use Rattle.scheme_base.specs.Operands.{operands_of}
use Rattle.scheme_base.specs.Positions.{IsPosition}
use Rattle.core_form.specs.declared.program.Var.{Var}
use Rattle.core_form.specs.declared.program.VarRef.{VarRef}
use Rattle.core_form.specs.declared.program.VarRef.TheVariants.{Local, Top}
use Rattle.core_form.specs.declared.program.Program.{Program}
use Rattle.core_form.specs.Trees.{Tree, Const, Ref, Lambda, If, Set, Call, Prim, Seq, Fix, Define, Trees, none, item, count, Holds}
use Rattle.core_form.specs.Variables.{same_var, same_ref}

-- Literals: each constant of the program has its own, in the order of the program's text. So a literal is a
-- part of one other at one place, or an expression names it.

abbrev mutual
  -- the constants of an expression are the literals from i up to j, j excluded
  pub Constants : {V : Type 0} → List Lit → ℕ → Tree V → ℕ → Type 0
  Constants lits i (Const p l) j = (l ≡ i) × (c : Constant) × IsConstant c × Laid lits i c j
  Constants lits i (Ref p x) j = j ≡ i
  Constants lits i (Lambda p xs rest body) j = Constants lits i body j
  Constants lits i (If p test this that) j =
      (m : ℕ) × (n : ℕ) × Constants lits i test m × Constants lits m this n × Constants lits n that j
  Constants lits i (Set p x e) j = Constants lits i e j
  Constants lits i (Call p f es) j = (m : ℕ) × Constants lits i f m × AllConstants lits m es j
  Constants lits i (Prim p o es) j = AllConstants lits i es j
  Constants lits i (Seq p es) j = AllConstants lits i es j
  Constants lits i (Fix p xs ls body) j = (m : ℕ) × AllConstants lits i ls m × Constants lits m body j
  Constants lits i (Define p x e) j = Constants lits i e j

  pub AllConstants : {V : Type 0} → List Lit → ℕ → Trees V → ℕ → Type 0
  AllConstants lits i none j = j ≡ i
  AllConstants lits i (item e es) j = (m : ℕ) × Constants lits i e m × AllConstants lits m es j

-- Variables

abbrev pub and_rest : {V : Type 0} → List V → Option V → List V
and_rest xs None = xs
and_rest xs (Some x) = xs ++ x ∷ []

abbrev pub has : {V : Type 0} → (V → V → Bool) → List V → V → Bool
has same xs x = list_any (same x) xs

abbrev mutual
  -- whether an expression assigns this variable, where none that it binds hides it
  pub assigns : {V : Type 0} → (V → V → Bool) → V → Tree V → Bool
  assigns same x (Const p l) = false
  assigns same x (Ref p y) = false
  assigns same x (Lambda p xs rest body) = not (has same (and_rest xs rest) x) && assigns same x body
  assigns same x (If p test this that) = assigns same x test || assigns same x this || assigns same x that
  assigns same x (Set p y e) = same x y || assigns same x e
  assigns same x (Call p f es) = assigns same x f || one_assigns same x es
  assigns same x (Prim p o es) = one_assigns same x es
  assigns same x (Seq p es) = one_assigns same x es
  assigns same x (Fix p xs ls body) = not (has same xs x) && (one_assigns same x ls || assigns same x body)
  assigns same x (Define p y e) = assigns same x e

  pub one_assigns : {V : Type 0} → (V → V → Bool) → V → Trees V → Bool
  one_assigns same x none = false
  one_assigns same x (item e es) = assigns same x e || one_assigns same x es

-- Expressions

abbrev pub is_undefined : Option Lit → Bool
is_undefined (Some lit.Undefined) = true
is_undefined l = false

abbrev pub is_hole : {V : Type 0} → List Lit → Tree V → Bool
is_hole lits (Const p l) = is_undefined (slice_get lits l)
is_hole lits e = false

abbrev pub IsLambda : {V : Type 0} → Tree V → Type 0
IsLambda (Lambda p xs rest body) = Unit {0}
IsLambda e = ⊥

abbrev pub AreLambdas : {V : Type 0} → Trees V → Type 0
AreLambdas none = Unit {0}
AreLambdas (item e es) = IsLambda e × AreLambdas es

abbrev pub HasItem : {V : Type 0} → Trees V → Type 0
HasItem none = ⊥
HasItem (item e es) = Unit {0}

-- neither these expressions nor the body assign one of the variables
abbrev pub NoneAssigned : {V : Type 0} → (V → V → Bool) → List V → Trees V → Tree V → Type 0
NoneAssigned same [] ls body = Unit {0}
NoneAssigned same (x ∷ xs) ls body =
    (one_assigns same x ls ≡ false) × (assigns same x body ≡ false) × NoneAssigned same xs ls body

abbrev mutual
  -- The undefined value is only an operand of a direct call, for a parameter that the body assigns. A
  -- definition is a form of the program. An operation has its number of operands, and the names that one
  -- lambda expression or one `Fix` binds differ. A sequence has an item. A `Fix` binds as many lambda
  -- expressions as it has variables, and nothing assigns these.
  pub IsFine : {V : Type 0} → List Lit → (V → V → Bool) → Tree V → Type 0
  IsFine lits same (Const p l) = is_undefined (slice_get lits l) ≡ false
  IsFine lits same (Ref p x) = Unit {0}
  IsFine lits same (Lambda p xs rest body) = IsDistinct same (and_rest xs rest) × IsFine lits same body
  IsFine lits same (If p test this that) = IsFine lits same test × IsFine lits same this × IsFine lits same that
  IsFine lits same (Set p x e) = IsFine lits same e
  IsFine lits same (Call p (Lambda q xs None body) es) =
      IsDistinct same xs × IsFine lits same body
      × FineOperands lits same (if nat_eq (length xs) (count es) then xs else []) body es
  IsFine lits same (Call p f es) = IsFine lits same f × AllFine lits same es
  IsFine lits same (Prim p o es) = (count es ≡ length (operands_of o)) × AllFine lits same es
  IsFine lits same (Seq p es) = HasItem es × AllFine lits same es
  IsFine lits same (Fix p xs ls body) =
      IsDistinct same xs × (count ls ≡ length xs) × AreLambdas ls × NoneAssigned same xs ls body
      × AllFine lits same ls × IsFine lits same body
  IsFine lits same (Define p x e) = ⊥

  pub AllFine : {V : Type 0} → List Lit → (V → V → Bool) → Trees V → Type 0
  AllFine lits same none = Unit {0}
  AllFine lits same (item e es) = IsFine lits same e × AllFine lits same es

  pub FineOperands : {V : Type 0} → List Lit → (V → V → Bool) → List V → Tree V → Trees V → Type 0
  FineOperands lits same xs body none = Unit {0}
  FineOperands lits same [] body (item e es) = IsFine lits same e × AllFine lits same es
  FineOperands lits same (x ∷ xs) body (item e es) =
      (IsFine lits same e ⊎ (IsTrue (is_hole lits e) × IsTrue (assigns same x body)))
      × FineOperands lits same xs body es

abbrev pub FineForm : {V : Type 0} → List Lit → (V → V → Bool) → Tree V → Type 0
FineForm lits same (Define p x e) = IsFine lits same e
FineForm lits same e = IsFine lits same e

abbrev pub FineForms : {V : Type 0} → List Lit → (V → V → Bool) → Trees V → Type 0
FineForms lits same none = Unit {0}
FineForms lits same (item e es) = FineForm lits same e × FineForms lits same es

-- Positions

abbrev mutual
  -- the positions of an expression and of its parts are numbers of 32 bits
  pub IsPlaced : {V : Type 0} → Tree V → Type 0
  IsPlaced (Const p l) = IsPosition p
  IsPlaced (Ref p x) = IsPosition p
  IsPlaced (Lambda p xs rest body) = IsPosition p × IsPlaced body
  IsPlaced (If p test this that) = IsPosition p × IsPlaced test × IsPlaced this × IsPlaced that
  IsPlaced (Set p x e) = IsPosition p × IsPlaced e
  IsPlaced (Call p f es) = IsPosition p × IsPlaced f × AllPlaced es
  IsPlaced (Prim p o es) = IsPosition p × AllPlaced es
  IsPlaced (Seq p es) = IsPosition p × AllPlaced es
  IsPlaced (Fix p xs ls body) = IsPosition p × AllPlaced ls × IsPlaced body
  IsPlaced (Define p x e) = IsPosition p × IsPlaced e

  pub AllPlaced : {V : Type 0} → Trees V → Type 0
  AllPlaced none = Unit {0}
  AllPlaced (item e es) = IsPlaced e × AllPlaced es

-- a program whose numbers name what is there, with nothing in itself, whose forms are these
pub record IsValid {V : Type 0} (same : V → V → Bool) (program : Program V) (forms : Trees V) : Type 0 where
  pub holds : Holds program forms
  pub constants : AllConstants program.lits 0 forms (length program.lits)
  pub fine : FineForms program.lits same forms
  pub placed : AllPlaced forms

abbrev pub IsCore : Program Var → Trees Var → Type 0
IsCore core forms = IsValid same_var core forms

-- Renamed cores: each local variable is bound once, and stands in its scope

abbrev mutual
  -- the variables that an expression binds, in order
  pub bound : {V : Type 0} → Tree V → List V
  bound (Const p l) = []
  bound (Ref p x) = []
  bound (Lambda p xs rest body) = and_rest xs rest ++ bound body
  bound (If p test this that) = bound test ++ (bound this ++ bound that)
  bound (Set p x e) = bound e
  bound (Call p f es) = bound f ++ all_bound es
  bound (Prim p o es) = all_bound es
  bound (Seq p es) = all_bound es
  bound (Fix p xs ls body) = xs ++ (all_bound ls ++ bound body)
  bound (Define p x e) = bound e

  pub all_bound : {V : Type 0} → Trees V → List V
  all_bound none = []
  all_bound (item e es) = bound e ++ all_bound es

abbrev pub IsSeen : List VarRef → VarRef → Type 0
IsSeen seen (Local n) = IsTrue (has same_ref seen (Local n))
IsSeen seen (Top x) = Unit {0}

abbrev pub AreLocal : List VarRef → Type 0
AreLocal [] = Unit {0}
AreLocal (Local n ∷ xs) = AreLocal xs
AreLocal (Top x ∷ xs) = ⊥

abbrev pub IsTop : VarRef → Type 0
IsTop (Top x) = Unit {0}
IsTop (Local n) = ⊥

abbrev mutual
  -- where these local variables are seen, each that stands in an expression is in its scope
  pub InScope : List VarRef → Tree VarRef → Type 0
  InScope seen (Const p l) = Unit {0}
  InScope seen (Ref p x) = IsSeen seen x
  InScope seen (Lambda p xs rest body) = AreLocal (and_rest xs rest) × InScope (and_rest xs rest ++ seen) body
  InScope seen (If p test this that) = InScope seen test × InScope seen this × InScope seen that
  InScope seen (Set p x e) = IsSeen seen x × InScope seen e
  InScope seen (Call p f es) = InScope seen f × AllInScope seen es
  InScope seen (Prim p o es) = AllInScope seen es
  InScope seen (Seq p es) = AllInScope seen es
  InScope seen (Fix p xs ls body) = AreLocal xs × AllInScope (xs ++ seen) ls × InScope (xs ++ seen) body
  InScope seen (Define p x e) = IsTop x × InScope seen e

  pub AllInScope : List VarRef → Trees VarRef → Type 0
  AllInScope seen none = Unit {0}
  AllInScope seen (item e es) = InScope seen e × AllInScope seen es

pub record IsRenamed (program : Program VarRef) (forms : Trees VarRef) : Type 0 where
  pub valid : IsValid same_ref program forms
  pub once : IsDistinct same_ref (all_bound forms)
  pub scoped : AllInScope [] forms
