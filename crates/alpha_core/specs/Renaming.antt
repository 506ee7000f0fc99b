-- The renamed core: each local variable has a number of its own, in preorder where it is bound.
--
-- A variable that is not bound where it stands is a top-level one and keeps its name. Nothing else changes.
use Rattle.std.specs.Prelude.{ℕ, suc, ◌+◌, List, [], ◌∷◌, length, Option, Some, None}
use Rattle.std.specs.Map.{lookup}
use Rattle.core_form.specs.declared.program.Var.{Var}
use Rattle.core_form.specs.declared.program.VarRef.{VarRef}
use Rattle.core_form.specs.declared.program.VarRef.TheVariants.{Local, Top}
use Rattle.core_form.specs.Trees.{Tree, Const, Ref, Lambda, If, Set, Call, Prim, Seq, Fix, Define, Trees, none, item}
use Rattle.core_form.specs.Source.{Scope, scope_with}
use Rattle.core_form.specs.Variables.{same_var}

-- Numbers

abbrev pub past_rest : ℕ → Option Var → ℕ
past_rest n None = n
past_rest n (Some x) = suc n

abbrev mutual
  -- the number after those of the variables that an expression binds, where these begin with n
  pub past : ℕ → Tree Var → ℕ
  past n (Const p lit) = n
  past n (Ref p x) = n
  past n (Lambda p xs rest body) = past (past_rest (n + length xs) rest) body
  past n (If p test this that) = past (past (past n test) this) that
  past n (Set p x e) = past n e
  past n (Call p f es) = past_all (past n f) es
  past n (Prim p o es) = past_all n es
  past n (Seq p es) = past_all n es
  past n (Fix p xs ls body) = past (past_all (n + length xs) ls) body
  past n (Define p x e) = past n e

  pub past_all : ℕ → Trees Var → ℕ
  past_all n none = n
  past_all n (item e es) = past_all (past n e) es

-- Variables

-- a variable at a binding, by its number
abbrev pub locals : ℕ → List Var → List VarRef
locals n [] = []
locals n (x ∷ xs) = Local n ∷ locals (suc n) xs

abbrev pub local_rest : ℕ → Option Var → Option VarRef
local_rest n None = None
local_rest n (Some x) = Some (Local n)

-- a scope inside of that of a rest parameter
abbrev pub with_rest : Option Var → ℕ → Scope Var → Scope Var
with_rest None n ρ = ρ
with_rest (Some x) n ρ = (x, n) ∷ ρ

abbrev pub found : Option ℕ → Var → VarRef
found None x = Top x
found (Some n) x = Local n

-- a variable where it is referred to
abbrev pub refer : Scope Var → Var → VarRef
refer ρ x = found (lookup (same_var x) ρ) x

-- Expressions

abbrev mutual
  -- an expression in this scope, whose variables have the numbers from n on
  pub renamed : Scope Var → ℕ → Tree Var → Tree VarRef
  renamed ρ n (Const p lit) = Const p lit
  renamed ρ n (Ref p x) = Ref p (refer ρ x)
  renamed ρ n (Lambda p xs rest body) =
      let m = n + length xs in
      Lambda p (locals n xs) (local_rest m rest) (renamed (with_rest rest m (scope_with xs n ρ)) (past_rest m rest) body)
  renamed ρ n (If p test this that) =
      let m = past n test in
      If p (renamed ρ n test) (renamed ρ m this) (renamed ρ (past m this) that)
  renamed ρ n (Set p x e) = Set p (refer ρ x) (renamed ρ n e)
  renamed ρ n (Call p f es) = Call p (renamed ρ n f) (all_renamed ρ (past n f) es)
  renamed ρ n (Prim p o es) = Prim p o (all_renamed ρ n es)
  renamed ρ n (Seq p es) = Seq p (all_renamed ρ n es)
  renamed ρ n (Fix p xs ls body) =
      let m = n + length xs in
      let inner = scope_with xs n ρ in
      Fix p (locals n xs) (all_renamed inner m ls) (renamed inner (past_all m ls) body)
  renamed ρ n (Define p x e) = Define p (Top x) (renamed ρ n e)

  pub all_renamed : Scope Var → ℕ → Trees Var → Trees VarRef
  all_renamed ρ n none = none
  all_renamed ρ n (item e es) = item (renamed ρ n e) (all_renamed ρ (past n e) es)
