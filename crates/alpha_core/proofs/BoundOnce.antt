-- What a renamed core binds: numbers one after another, each once.
--
-- `past_bound`: how many variables an expression binds. `bound_span`: which they are in the renamed one.
-- `span_distinct`: they are all different.
use Rattle.std.proofs.Common.{◌≡◌, ℕ, zero, suc, ◌+◌, ◌<◌, Bool, true, false, List, [], ◌∷◌, ◌++◌, length, Option, Some, None, refl, sym, ap, ap₂, subst, ◌∙◌, append-nil, arith, ne_eqb, length-append}
use Rattle.std.specs.Prelude.{nat_eq}
use Rattle.std.specs.List.{AllByRecursion, IsDistinct}
use Rattle.core_form.specs.declared.program.Var.{Var}
use Rattle.core_form.specs.declared.program.VarRef.{VarRef}
use Rattle.core_form.specs.declared.program.VarRef.TheVariants.{Local}
use Rattle.core_form.specs.Source.{Scope, scope_with}
use Rattle.core_form.specs.Trees.{Tree, Const, Ref, Lambda, If, Set, Call, Prim, Seq, Fix, Define, Trees, none, item}
use Rattle.core_form.specs.Valid.{and_rest, bound, all_bound}
use Rattle.core_form.specs.Variables.{same_ref}
use Rattle.alpha_core.specs.Renaming.{past_rest, past, past_all, locals, local_rest, with_rest, renamed, all_renamed}

-- so many numbers from one on
abbrev pub span : (first many : ℕ) → List VarRef
span n zero = []
span n (suc m) = Local n ∷ span (suc n) m

pub span_both : (n a b : ℕ) → span n a ++ span (n + a) b ≡ span n (a + b)
span_both n zero b = let same : n + 0 ≡ n = omega arith in let none : b ≡ 0 + b = omega arith in ap₂ span same none
span_both n (suc a) b =
    let next : n + suc a ≡ suc n + a = omega arith in
    let all : suc (a + b) ≡ suc a + b = omega arith in
    ap (λ l. Local n ∷ l) (ap (λ k. span (suc n) a ++ span k b) next ∙ span_both (suc n) a b) ∙ ap (span n) all

-- A binder's variables and its rest parameter are one list

pub count_rest : (xs : List Var) (r : Option Var) (n : ℕ) → past_rest (n + length xs) r ≡ n + length (and_rest xs r)
count_rest xs None n = refl
count_rest xs (Some x) n = omega (arith, length-append xs (x ∷ []))

pub locals_both : (n : ℕ) (xs ys : List Var) → locals n (xs ++ ys) ≡ locals n xs ++ locals (n + length xs) ys
locals_both n [] ys = let same : n ≡ n + 0 = omega arith in ap (λ k. locals k ys) same
locals_both n (x ∷ xs) ys =
    let next : suc n + length xs ≡ n + length (x ∷ xs) = omega arith in
    ap (λ l. Local n ∷ l) (locals_both (suc n) xs ys ∙ ap (λ k. locals (suc n) xs ++ locals k ys) next)

pub locals_rest : (n : ℕ) (xs : List Var) (r : Option Var)
    → and_rest (locals n xs) (local_rest (n + length xs) r) ≡ locals n (and_rest xs r)
locals_rest n xs None = refl
locals_rest n xs (Some x) = sym (locals_both n xs (x ∷ []))

scope_both : (xs ys : List Var) (n : ℕ) (ρ : Scope Var)
    → scope_with ys (n + length xs) (scope_with xs n ρ) ≡ scope_with (xs ++ ys) n ρ
scope_both [] ys n ρ = let same : n + 0 ≡ n = omega arith in ap (λ k. scope_with ys k ρ) same
scope_both (x ∷ xs) ys n ρ =
    let next : n + length (x ∷ xs) ≡ suc n + length xs = omega arith in
    ap (λ k. scope_with ys k (scope_with xs (suc n) ((x, n) ∷ ρ))) next ∙ scope_both xs ys (suc n) ((x, n) ∷ ρ)

pub scope_rest : (xs : List Var) (r : Option Var) (n : ℕ) (ρ : Scope Var)
    → with_rest r (n + length xs) (scope_with xs n ρ) ≡ scope_with (and_rest xs r) n ρ
scope_rest xs None n ρ = refl
scope_rest xs (Some x) n ρ = scope_both xs (x ∷ []) n ρ

-- a body as it is renamed inside of a binder
pub body_is : (ρ : Scope Var) (n : ℕ) (xs : List Var) (r : Option Var) (body : Tree Var)
    → renamed (with_rest r (n + length xs) (scope_with xs n ρ)) (past_rest (n + length xs) r) body
    ≡ renamed (scope_with (and_rest xs r) n ρ) (n + length (and_rest xs r)) body
body_is ρ n xs r body = ap₂ (λ s k. renamed s k body) (scope_rest xs r n ρ) (count_rest xs r n)

pub locals_span : (n : ℕ) (xs : List Var) → locals n xs ≡ span n (length xs)
locals_span n [] = refl
locals_span n (x ∷ xs) = ap (λ l. Local n ∷ l) (locals_span (suc n) xs)

-- How many there are

mutual
  pub past_bound : (n : ℕ) (e : Tree Var) → past n e ≡ n + length (bound e)
  past_bound n (Const p l) = omega arith
  past_bound n (Ref p x) = omega arith
  past_bound n (Lambda p xs r body) =
      omega (arith, past_bound (past_rest (n + length xs) r) body, count_rest xs r n, length-append (and_rest xs r) (bound body))
  past_bound n (If p test this that) =
      omega (arith, past_bound n test, past_bound (past n test) this, past_bound (past (past n test) this) that, length-append (bound test) (bound this ++ bound that), length-append (bound this) (bound that))
  past_bound n (Set p x e) = past_bound n e
  past_bound n (Call p f es) = omega (arith, past_bound n f, all_past_bound (past n f) es, length-append (bound f) (all_bound es))
  past_bound n (Prim p o es) = all_past_bound n es
  past_bound n (Seq p es) = all_past_bound n es
  past_bound n (Fix p xs ls body) =
      omega (arith, all_past_bound (n + length xs) ls, past_bound (past_all (n + length xs) ls) body, length-append xs (all_bound ls ++ bound body), length-append (all_bound ls) (bound body))
  past_bound n (Define p x e) = past_bound n e

  pub all_past_bound : (n : ℕ) (es : Trees Var) → past_all n es ≡ n + length (all_bound es)
  all_past_bound n none = omega arith
  all_past_bound n (item e es) = omega (arith, past_bound n e, all_past_bound (past n e) es, length-append (bound e) (all_bound es))

-- Which they are

-- two parts, one after the other
two_spans : (n m a b k : ℕ) (xs ys : List VarRef) → xs ≡ span n a → ys ≡ span m b → m ≡ n + a → k ≡ a + b → xs ++ ys ≡ span n k
two_spans n m a b k xs ys p q h i =
    ap₂ (λ l r. l ++ r) p (q ∙ ap (λ j. span j b) h) ∙ (span_both n a b ∙ ap (span n) (sym i))

mutual
  pub bound_span : (ρ : Scope Var) (n : ℕ) (e : Tree Var) → bound (renamed ρ n e) ≡ span n (length (bound e))
  bound_span ρ n (Const p l) = refl
  bound_span ρ n (Ref p x) = refl
  bound_span ρ n (Lambda p xs r body) =
      let all : List Var = and_rest xs r in
      two_spans n (n + length all) (length all) (length (bound body)) (length (all ++ bound body))
      (and_rest (locals n xs) (local_rest (n + length xs) r))
      (bound (renamed (with_rest r (n + length xs) (scope_with xs n ρ)) (past_rest (n + length xs) r) body))
      (locals_rest n xs r ∙ locals_span n all)
      (ap bound (body_is ρ n xs r body) ∙ bound_span (scope_with all n ρ) (n + length all) body) refl
      (length-append all (bound body))
  bound_span ρ n (If p test this that) =
      let m : ℕ = past n test in
      two_spans n m (length (bound test)) (length (bound this ++ bound that)) (length (bound test ++ (bound this ++ bound that)))
      (bound (renamed ρ n test)) (bound (renamed ρ m this) ++ bound (renamed ρ (past m this) that)) (bound_span ρ n test)
      (two_spans m (past m this) (length (bound this)) (length (bound that)) (length (bound this ++ bound that))
      (bound (renamed ρ m this)) (bound (renamed ρ (past m this) that)) (bound_span ρ m this) (bound_span ρ (past m this) that)
      (past_bound m this) (length-append (bound this) (bound that)))
      (past_bound n test) (length-append (bound test) (bound this ++ bound that))
  bound_span ρ n (Set p x e) = bound_span ρ n e
  bound_span ρ n (Call p f es) =
      two_spans n (past n f) (length (bound f)) (length (all_bound es)) (length (bound f ++ all_bound es))
      (bound (renamed ρ n f)) (all_bound (all_renamed ρ (past n f) es)) (bound_span ρ n f) (all_bound_span ρ (past n f) es)
      (past_bound n f) (length-append (bound f) (all_bound es))
  bound_span ρ n (Prim p o es) = all_bound_span ρ n es
  bound_span ρ n (Seq p es) = all_bound_span ρ n es
  bound_span ρ n (Fix p xs ls body) =
      let m : ℕ = n + length xs in
      let inner : Scope Var = scope_with xs n ρ in
      two_spans n m (length xs) (length (all_bound ls ++ bound body)) (length (xs ++ (all_bound ls ++ bound body))) (locals n xs)
      (all_bound (all_renamed inner m ls) ++ bound (renamed inner (past_all m ls) body)) (locals_span n xs)
      (two_spans m (past_all m ls) (length (all_bound ls)) (length (bound body)) (length (all_bound ls ++ bound body))
      (all_bound (all_renamed inner m ls)) (bound (renamed inner (past_all m ls) body)) (all_bound_span inner m ls)
      (bound_span inner (past_all m ls) body) (all_past_bound m ls) (length-append (all_bound ls) (bound body)))
      refl (length-append xs (all_bound ls ++ bound body))
  bound_span ρ n (Define p x e) = bound_span ρ n e

  pub all_bound_span : (ρ : Scope Var) (n : ℕ) (es : Trees Var) → all_bound (all_renamed ρ n es) ≡ span n (length (all_bound es))
  all_bound_span ρ n none = refl
  all_bound_span ρ n (item e es) =
      two_spans n (past n e) (length (bound e)) (length (all_bound es)) (length (bound e ++ all_bound es))
      (bound (renamed ρ n e)) (all_bound (all_renamed ρ (past n e) es)) (bound_span ρ n e) (all_bound_span ρ (past n e) es)
      (past_bound n e) (length-append (bound e) (all_bound es))

-- All are different

later_numbers : (k n m : ℕ) → k < n → AllByRecursion (λ y. same_ref (Local k) y ≡ false) (span n m)
later_numbers k n zero h = tt
later_numbers k n (suc m) h =
    (ne_eqb k n (λ e. let less : k < n = h in absurd (omega (arith, e, less))), later_numbers k (suc n) m (omega (arith, h)))

pub span_distinct : (n m : ℕ) → IsDistinct same_ref (span n m)
unfolding IsDistinct
span_distinct n zero = tt
span_distinct n (suc m) = (later_numbers n (suc n) m (omega arith), span_distinct (suc n) m)
