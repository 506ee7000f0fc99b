-- Each local variable of a renamed core stands in its scope.
--
-- `in_scope`: where the numbers of a scope are seen.
use Rattle.std.proofs.Common.{◌≡◌, ℕ, suc, ◌+◌, Bool, true, false, ◌||◌, List, [], ◌∷◌, ◌++◌, length, Option, Some, None, refl, sym, ap, ap₂, subst, ◌∙◌, append_assoc, eq-eqb}
use Rattle.std.specs.List.{list_any}
use Rattle.std.specs.Map.{lookup}
use Rattle.std.specs.Prelude.{IsTrue, if◌then◌else◌}
use Rattle.core_form.specs.declared.program.Var.{Var}
use Rattle.core_form.specs.declared.program.VarRef.{VarRef}
use Rattle.core_form.specs.declared.program.VarRef.TheVariants.{Local, Top}
use Rattle.core_form.specs.Source.{Scope, scope_with}
use Rattle.core_form.specs.Trees.{Tree, Const, Ref, Lambda, If, Set, Call, Prim, Seq, Fix, Define, Trees, none, item}
use Rattle.core_form.specs.Valid.{and_rest, has, AllInScope, AreLocal, InScope, IsSeen}
use Rattle.core_form.specs.Variables.{same_ref, same_var}
use Rattle.alpha_core.specs.Renaming.{past_rest, past, past_all, locals, local_rest, found, refer, with_rest, renamed, all_renamed}
use Rattle.alpha_core.proofs.BoundOnce.{body_is, locals_rest}

-- the numbers of a scope are among these
abbrev pub AreSeen : Scope Var → List VarRef → Type 0
AreSeen ρ seen = (y : Var) (k : ℕ) → lookup (same_var y) ρ ≡ Some k → has same_ref seen (Local k) ≡ true

or_right_true : (a b : Bool) → b ≡ true → (a || b) ≡ true
or_right_true true b h = refl
or_right_true false b h = h

-- a variable that stands among others stands before them as well
moved_front : (t : VarRef → Bool) (xs ys : List VarRef) (v : VarRef) → list_any t (xs ++ v ∷ ys) ≡ true
    → list_any t (v ∷ (xs ++ ys)) ≡ true
moved_front t [] ys v h = h
moved_front t (x ∷ xs) ys v h = by_test (t x) (t v) (list_any t (xs ++ ys)) (list_any t (xs ++ v ∷ ys)) (moved_front t xs ys v) h
  where
    by_test : (a b c d : Bool) → (d ≡ true → (b || c) ≡ true) → (a || d) ≡ true → (b || (a || c)) ≡ true
    by_test true true c d f i = refl
    by_test true false c d f i = refl
    by_test false b c d f i = f i

one_seen : (ρ : Scope Var) (seen : List VarRef) (x : Var) (n : ℕ) → AreSeen ρ seen → AreSeen ((x, n) ∷ ρ) (Local n ∷ seen)
one_seen ρ seen x n h y k e = by_test (same_var y x) refl
  where
    by_test : (b : Bool) → same_var y x ≡ b → has same_ref (Local n ∷ seen) (Local k) ≡ true
    by_test true i =
        let at : Some n ≡ Some k = sym (ap (λ c. if c then Some n else lookup (same_var y) ρ) i) ∙ e in
        let same : k ≡ n = cc in
        ap (λ b. b || has same_ref seen (Local k)) (eq-eqb k n same)
    by_test false i =
        or_right_true (same_ref (Local k) (Local n)) (has same_ref seen (Local k))
        (h y k (sym (ap (λ c. if c then Some n else lookup (same_var y) ρ) i) ∙ e))

-- the same where these are bound
pub all_seen : (xs : List Var) (n : ℕ) (ρ : Scope Var) (seen : List VarRef) → AreSeen ρ seen
    → AreSeen (scope_with xs n ρ) (locals n xs ++ seen)
all_seen [] n ρ seen h = h
all_seen (x ∷ xs) n ρ seen h = λ y k e.
    moved_front (same_ref (Local k)) (locals (suc n) xs) seen (Local n)
    (all_seen xs (suc n) ((x, n) ∷ ρ) (Local n ∷ seen) (one_seen ρ seen x n h) y k e)

pub are_local : (n : ℕ) (xs : List Var) → AreLocal (locals n xs)
are_local n [] = tt
are_local n (x ∷ xs) = are_local (suc n) xs

is_seen : (ρ : Scope Var) (seen : List VarRef) (y : Var) → AreSeen ρ seen → IsSeen seen (refer ρ y)
is_seen ρ seen y h = by_place (lookup (same_var y) ρ) refl
  where
    by_place : (o : Option ℕ) → lookup (same_var y) ρ ≡ o → IsSeen seen (found o y)
    by_place None e = tt
    by_place (Some k) e = h y k e

mutual
  pub in_scope : (ρ : Scope Var) (n : ℕ) (seen : List VarRef) (e : Tree Var) → AreSeen ρ seen → InScope seen (renamed ρ n e)
  in_scope ρ n seen (Const p l) h = tt
  in_scope ρ n seen (Ref p x) h = is_seen ρ seen x h
  in_scope ρ n seen (Lambda p xs r body) h =
      let all : List Var = and_rest xs r in
      let own : List VarRef = and_rest (locals n xs) (local_rest (n + length xs) r) in
      let inner : Tree VarRef = renamed (with_rest r (n + length xs) (scope_with xs n ρ)) (past_rest (n + length xs) r) body in
      let P : List VarRef → Type 0 = λ l. AreLocal l × InScope (l ++ seen) inner in
      let Q : Tree VarRef → Type 0 = λ t. InScope (locals n all ++ seen) t in
      subst P (sym (locals_rest n xs r)) (
        are_local n all,
        subst Q (sym (body_is ρ n xs r body))
            (in_scope (scope_with all n ρ) (n + length all) (locals n all ++ seen) body (all_seen all n ρ seen h)),
      )
  in_scope ρ n seen (If p test this that) h =
      (in_scope ρ n seen test h, in_scope ρ (past n test) seen this h, in_scope ρ (past (past n test) this) seen that h)
  in_scope ρ n seen (Set p x e) h = (is_seen ρ seen x h, in_scope ρ n seen e h)
  in_scope ρ n seen (Call p f es) h = (in_scope ρ n seen f h, all_in_scope ρ (past n f) seen es h)
  in_scope ρ n seen (Prim p o es) h = all_in_scope ρ n seen es h
  in_scope ρ n seen (Seq p es) h = all_in_scope ρ n seen es h
  in_scope ρ n seen (Fix p xs ls body) h =
      let m : ℕ = n + length xs in
      let inner : Scope Var = scope_with xs n ρ in
      let within = all_seen xs n ρ seen h in (
        are_local n xs,
        all_in_scope inner m (locals n xs ++ seen) ls within,
        in_scope inner (past_all m ls) (locals n xs ++ seen) body within,
      )
  in_scope ρ n seen (Define p x e) h = (tt, in_scope ρ n seen e h)

  pub all_in_scope : (ρ : Scope Var) (n : ℕ) (seen : List VarRef) (es : Trees Var) → AreSeen ρ seen
      → AllInScope seen (all_renamed ρ n es)
  all_in_scope ρ n seen none h = tt
  all_in_scope ρ n seen (item e es) h = (in_scope ρ n seen e h, all_in_scope ρ (past n e) seen es h)
