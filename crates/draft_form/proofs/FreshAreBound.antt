-- A core binds as many variables as its draft binds fresh ones, or more.
use Rattle.std.proofs.Common.{ℕ, ◌+◌, ◌≤◌, List, [], ◌∷◌, ◌++◌, length, Option, Some, None, length-append, le_trans, arith}
use Rattle.scheme_base.specs.Constants.{Constant}
use Rattle.core_form.specs.declared.program.Var.{Var}
use Rattle.core_form.specs.Valid.{and_rest, bound, all_bound}
use Rattle.draft_form.specs.Drafts.{Name, Draft, Drafts, Local, Fresh, Top, Library, Const, Symbols, Ref, Lambda, If, Set, Call, Prim, Seq, Fix, Define, none, item}
use Rattle.draft_form.specs.Numbers.{Given, At, all_named, maybe_named, fresh_in, bound_fresh, all_bound_fresh, numbered, all_numbered}

fresh_names : (g : Given) (xs : List Name) → fresh_in xs ≤ length (all_named g xs)
fresh_names g [] = omega arith
fresh_names g (Local k x ∷ xs) = let h = fresh_names g xs in omega (arith, h)
fresh_names g (Fresh k ∷ xs) = let h = fresh_names g xs in omega (arith, h)
fresh_names g (Top x ∷ xs) = let h = fresh_names g xs in omega (arith, h)
fresh_names g (Library x ∷ xs) = let h = fresh_names g xs in omega (arith, h)

with_rest : (vs : List Var) (r : Option Var) → length vs ≤ length (and_rest vs r)
with_rest vs None = omega arith
with_rest vs (Some x) = let h = length-append vs (x ∷ []) in omega (arith, h)

joined : (m n : ℕ) (xs ys : List Var) → m ≤ length xs → n ≤ length ys → m + n ≤ length (xs ++ ys)
joined m n xs ys h k = let l = length-append xs ys in omega (arith, h, k, l)

mutual
  few : (symbols : Constant) (e : Draft) (g : Given) (at : At) → bound_fresh e ≤ length (bound (numbered symbols g at e))
  few symbols (Const p c) g at = omega arith
  few symbols (Symbols p) g at = omega arith
  few symbols (Ref p x) g at = omega arith
  few symbols (Lambda p xs r e) g at =
      joined (fresh_in xs) (bound_fresh e) _ _ (le_trans (fresh_names _ xs) (with_rest (all_named _ xs) (maybe_named _ r))) (few symbols e _ _)
  few symbols (If p test this that) g at =
      joined (bound_fresh test) (bound_fresh this + bound_fresh that) _ _ (few symbols test _ _)
      (joined (bound_fresh this) (bound_fresh that) _ _ (few symbols this _ _) (few symbols that _ _))
  few symbols (Set p x e) g at = few symbols e _ _
  few symbols (Call p e es) g at =
      joined (bound_fresh e) (all_bound_fresh es) _ _ (few symbols e _ _) (all_few symbols es _ _)
  few symbols (Prim p o es) g at = all_few symbols es _ _
  few symbols (Seq p es) g at = all_few symbols es _ _
  few symbols (Fix p xs es e) g at =
      joined (fresh_in xs) (all_bound_fresh es + bound_fresh e) _ _ (fresh_names _ xs)
      (joined (all_bound_fresh es) (bound_fresh e) _ _ (all_few symbols es _ _) (few symbols e _ _))
  few symbols (Define p x e) g at = few symbols e _ _

  pub all_few : (symbols : Constant) (es : Drafts) (g : Given) (at : At)
      → all_bound_fresh es ≤ length (all_bound (all_numbered symbols g at es))
  all_few symbols none g at = omega arith
  all_few symbols (item e es) g at =
      joined (bound_fresh e) (all_bound_fresh es) _ _ (few symbols e _ _) (all_few symbols es _ _)
