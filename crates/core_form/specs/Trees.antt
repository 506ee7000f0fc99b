-- Expressions as trees, and which tree the number of an expression stands for.
--
-- V is what variables are: names, or names and numbers in a renamed core.
use Rattle.std.specs.Prelude.{ℕ, suc, max, ◌≡◌, List, [], ◌∷◌, Option, Some, slice_get}
use Rattle.scheme_base.specs.declared.pos.Pos.{Pos}
use Rattle.scheme_base.specs.declared.op.Op.{Op}
use Rattle.core_form.specs.declared.program.Node.{Node}
use Rattle.core_form.specs.declared.program.Program.{Program}
use Rattle.core_form.specs.declared.program.What.{What}
use Rattle.core_form.specs.declared.program.What.TheVariants as expr

mutual
  pub data Tree (V : Type 0) : Type 0 where
    Const : Pos → (lit : ℕ) → Tree V
    Ref : Pos → V → Tree V
    Lambda : Pos → (params : List V) → (rest : Option V) → (body : Tree V) → Tree V
    If : Pos → (test yes no : Tree V) → Tree V
    Set : Pos → V → (value : Tree V) → Tree V
    Call : Pos → (operator : Tree V) → (operands : Trees V) → Tree V
    Prim : Pos → Op → (operands : Trees V) → Tree V
    Seq : Pos → (items : Trees V) → Tree V
    Fix : Pos → (vars : List V) → (lambdas : Trees V) → (body : Tree V) → Tree V
    Define : Pos → V → (value : Tree V) → Tree V

  pub data Trees (V : Type 0) : Type 0 where
    none : Trees V
    item : Tree V → Trees V → Trees V

abbrev pub count : {V : Type 0} → Trees V → ℕ
count none = 0
count (item e es) = suc (count es)

abbrev mutual
  -- 1 for an expression without parts, else one more than its deepest part
  pub depth : {V : Type 0} → Tree V → ℕ
  depth (Const p l) = 1
  depth (Ref p x) = 1
  depth (Lambda p xs rest body) = suc (depth body)
  depth (If p test this that) = suc (max (depth test) (max (depth this) (depth that)))
  depth (Set p x e) = suc (depth e)
  depth (Call p f es) = suc (max (depth f) (greatest_depth es))
  depth (Prim p o es) = suc (greatest_depth es)
  depth (Seq p es) = suc (greatest_depth es)
  depth (Fix p xs ls body) = suc (max (greatest_depth ls) (depth body))
  depth (Define p x e) = suc (depth e)

  -- the depth of a program of these forms, and 0 of none
  pub greatest_depth : {V : Type 0} → Trees V → ℕ
  greatest_depth none = 0
  greatest_depth (item e es) = max (depth e) (greatest_depth es)

-- the expression of this number is this
abbrev pub IsNode : {V : Type 0} → List (Node V) → ℕ → What V → Pos → Type 0
IsNode exprs id what p = slice_get exprs id ≡ Some (record { what = what; pos = p })

abbrev mutual
  -- the number stands for the tree. So it names an expression, and nothing in it contains itself.
  pub Stands : {V : Type 0} → List (Node V) → ℕ → Tree V → Type 0
  Stands exprs id (Const p lit) = IsNode exprs id (expr.Const lit) p
  Stands exprs id (Ref p x) = IsNode exprs id (expr.Ref x) p
  Stands exprs id (Lambda p xs rest e) =
      (body : ℕ) × IsNode exprs id (expr.Lambda xs rest body) p × Stands exprs body e
  Stands exprs id (If p t y n) =
      (test : ℕ) × (yes : ℕ) × (no : ℕ) × IsNode exprs id (expr.If test yes no) p × Stands exprs test t
      × Stands exprs yes y × Stands exprs no n
  Stands exprs id (Set p x e) = (value : ℕ) × IsNode exprs id (expr.Set x value) p × Stands exprs value e
  Stands exprs id (Call p f es) =
      (operator : ℕ) × (operands : List ℕ) × IsNode exprs id (expr.Call operator operands) p
      × Stands exprs operator f × StandAll exprs operands es
  Stands exprs id (Prim p o es) =
      (operands : List ℕ) × IsNode exprs id (expr.Prim o operands) p × StandAll exprs operands es
  Stands exprs id (Seq p es) = (items : List ℕ) × IsNode exprs id (expr.Seq items) p × StandAll exprs items es
  Stands exprs id (Fix p xs ls e) =
      (lambdas : List ℕ) × (body : ℕ) × IsNode exprs id (expr.Fix xs lambdas body) p × StandAll exprs lambdas ls
      × Stands exprs body e
  Stands exprs id (Define p x e) = (value : ℕ) × IsNode exprs id (expr.Define x value) p × Stands exprs value e

  pub StandAll : {V : Type 0} → List (Node V) → List ℕ → Trees V → Type 0
  StandAll exprs ids none = ids ≡ []
  StandAll exprs ids (item e es) =
      (first : ℕ) × (others : List ℕ) × (ids ≡ first ∷ others) × Stands exprs first e × StandAll exprs others es

-- the forms of a program are these
abbrev pub Holds : {V : Type 0} → Program V → Trees V → Type 0
Holds program forms = StandAll program.exprs program.forms forms
