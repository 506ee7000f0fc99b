-- Renamed expressions, with the calls told apart whose operator is bound in place, and the operands of these
-- calls that are no value yet.
use Rattle.std.specs.Prelude.{ℕ, suc, nat_eq, List, [], ◌∷◌, length, map, slice_get, Option, None, Some, Bool, true, false, ◌&&◌, if◌then◌else◌}
use Rattle.scheme_base.specs.declared.pos.Pos.{Pos}
use Rattle.scheme_base.specs.declared.op.Op.{Op}
use Rattle.scheme_base.specs.declared.lit.Lit.{Lit}
use Rattle.core_form.specs.declared.program.Var.{Var}
use Rattle.core_form.specs.declared.program.VarRef.{VarRef}
use Rattle.core_form.specs.declared.program.VarRef.TheVariants as ref
use Rattle.core_form.specs.Trees.{Tree, Trees, count}
use Rattle.core_form.specs.Trees as tree
use Rattle.core_form.specs.Valid.{is_hole}

mutual
  pub data Expr : Type 0 where
    -- the operand of a direct call that is the undefined value
    Hole : Expr
    Const : Pos → (lit : ℕ) → Expr
    Local : Pos → (x : ℕ) → Expr
    Top : Pos → Var → Expr
    Lambda : Pos → (params : List ℕ) → (rest : Option ℕ) → (body : Expr) → Expr
    If : Pos → (test this that : Expr) → Expr
    SetLocal : Pos → (x : ℕ) → (value : Expr) → Expr
    SetTop : Pos → Var → (value : Expr) → Expr
    Call : Pos → (operator : Expr) → (operands : Exprs) → Expr
    -- a call of a lambda expression that has no rest parameter, with its number of operands
    Direct : Pos → (params : List ℕ) → (body : Expr) → (operands : Exprs) → Expr
    Prim : Pos → Op → (operands : Exprs) → Expr
    Seq : Pos → (items : Exprs) → Expr
    Fix : Pos → (vars : List ℕ) → (lambdas : Exprs) → (body : Expr) → Expr
    Define : Pos → Var → (value : Expr) → Expr

  pub data Exprs : Type 0 where
    none : Exprs
    item : Expr → Exprs → Exprs

-- the number of a local variable
abbrev pub number : VarRef → ℕ
number (ref.Local n) = n
number (ref.Top x) = 0

abbrev pub numbers : List VarRef → List ℕ
numbers xs = map number xs

abbrev pub option_number : Option VarRef → Option ℕ
option_number None = None
option_number (Some x) = Some (number x)

-- the name of a top-level variable
abbrev pub top_name : VarRef → Var
top_name (ref.Local n) = record { name = []; lib = false }
top_name (ref.Top x) = x

abbrev pub reference : Pos → VarRef → Expr
reference p (ref.Local n) = Local p n
reference p (ref.Top x) = Top p x

abbrev pub assignment : Pos → VarRef → Expr → Expr
assignment p (ref.Local n) e = SetLocal p n e
assignment p (ref.Top x) e = SetTop p x e

-- whether so many operands call this operator directly
abbrev pub is_direct : Tree VarRef → (many : ℕ) → Bool
is_direct (tree.Lambda q xs None body) many = nat_eq (length xs) many
is_direct f many = false

abbrev pub direct_params : Tree VarRef → List ℕ
direct_params (tree.Lambda q xs r body) = numbers xs
direct_params f = []

abbrev mutual
  pub told : List Lit → Tree VarRef → Expr
  told lits (tree.Const p l) = Const p l
  told lits (tree.Ref p x) = reference p x
  told lits (tree.Lambda p xs r body) = Lambda p (numbers xs) (option_number r) (told lits body)
  told lits (tree.If p test this that) = If p (told lits test) (told lits this) (told lits that)
  told lits (tree.Set p x e) = assignment p x (told lits e)
  told lits (tree.Call p f es) =
      if is_direct f (count es) then Direct p (direct_params f) (told_body lits f) (told_operands lits es)
      else Call p (told lits f) (all_told lits es)
  told lits (tree.Prim p o es) = Prim p o (all_told lits es)
  told lits (tree.Seq p es) = Seq p (all_told lits es)
  told lits (tree.Fix p xs ls body) = Fix p (numbers xs) (all_told lits ls) (told lits body)
  told lits (tree.Define p x e) = Define p (top_name x) (told lits e)

  -- the body of the operator of a direct call
  pub told_body : List Lit → Tree VarRef → Expr
  told_body lits (tree.Lambda p xs r body) = told lits body
  told_body lits f = Hole

  pub all_told : List Lit → Trees VarRef → Exprs
  all_told lits tree.none = none
  all_told lits (tree.item e es) = item (told lits e) (all_told lits es)

  -- the operands of a direct call
  pub told_operands : List Lit → Trees VarRef → Exprs
  told_operands lits tree.none = none
  told_operands lits (tree.item e es) = item (if is_hole lits e then Hole else told lits e) (told_operands lits es)

-- an operand of a direct call
abbrev pub told_operand : List Lit → Tree VarRef → Expr
told_operand lits e = if is_hole lits e then Hole else told lits e
