-- The names that one lambda expression or one `Fix` of a core binds differ.
use Rattle.std.proofs.Common.{◌≡◌, ℕ, zero, suc, ◌+◌, ◌<◌, ◌≤◌, ◌^◌, List, [], ◌∷◌, ◌++◌, length, Option, Bool, true, false, inl, inr, refl, sym, ap, ap₂, subst, ◌∙◌, bytes_eq, arith, decimal, eq-eqb}
use Rattle.std.specs.Prelude.{nat_eq, if◌then◌else◌, codes}
use Rattle.std.specs.List.{IsDistinct, AllByRecursion}
use Rattle.std.proofs.Math.Bool.{and-true}
use Rattle.std.proofs.lemmas.Fmt.{decimal_injective}
use Rattle.core_form.specs.declared.program.Var.{Var}
use Rattle.core_form.specs.Valid.{and_rest}
use Rattle.core_form.specs.Variables.{same_var}
use Rattle.draft_form.specs.Drafts.{Name}
use Rattle.draft_form.specs.Numbers.{Given, give, give_all, var, all_named, maybe_named, fresh_in}
use Rattle.scheme_expand.specs.Rewriting.{variables, unnamed}
use Rattle.scheme_expand.proofs.GoodDrafts.{AreSources, AreBound}
use Rattle.scheme_expand.proofs.Assigning.{named_rest}
use Rattle.scheme_expand.proofs.Scoping.{apart, same_bytes}

abbrev pub vars : List (List ℕ) → List Var
vars [] = []
vars (x ∷ xs) = var x ∷ vars xs

-- Names of the program

pub words_named : (g : Given) (k : ℕ) (ns : List (List ℕ)) → AreSources ns → all_named g (variables k ns) ≡ vars ns
words_named g k [] h = refl
words_named g k ([] ∷ ns) h = absurd (apart (sym h.0))
words_named g k ((b ∷ x) ∷ ns) h = ap (λ vs. var (b ∷ x) ∷ vs) (words_named g (suc k) ns h.1)

words_differ : (x : List ℕ) (ns : List (List ℕ)) → AllByRecursion (λ y. bytes_eq x y ≡ false) ns
    → AllByRecursion (λ y. same_var (var x) y ≡ false) (vars ns)
words_differ x [] h = tt
words_differ x (y ∷ ys) h = (and-true _ ∙ h.0, words_differ x ys h.1)

words_distinct : (ns : List (List ℕ)) → IsDistinct bytes_eq ns → IsDistinct same_var (vars ns)
unfolding IsDistinct
words_distinct [] h = tt
words_distinct (x ∷ xs) h = (words_differ x xs h.0, words_distinct xs h.1)

-- Fresh variables

-- the fresh variables from number n on
abbrev dots : (n many : ℕ) → List Var
dots n zero = []
dots n (suc m) = var (codes "." ++ decimal n) ∷ dots (suc n) m

given_same : (g : Given) (n k m j : ℕ) → j < k → give_all g n (variables k (unnamed m)) j ≡ g j
given_same g n k zero j h = refl
given_same g n k (suc m) j h =
    given_same (give g k (suc n)) (suc n) (suc k) m j (omega arith)
    ∙ ap (λ b. if b then suc n else g j) (other j k h)
  where
    other : (j k : ℕ) → j < k → nat_eq j k ≡ false
    other j k h = grind arith

fresh_named : (g : Given) (n k m : ℕ)
    → all_named (give_all g n (variables k (unnamed m))) (variables k (unnamed m)) ≡ dots (suc n) m
fresh_named g n k zero = refl
fresh_named g n k (suc m) =
    ap₂ (λ i vs. var (codes "." ++ decimal i) ∷ vs)
    (given_same (give g k (suc n)) (suc n) (suc k) m k (omega arith)
    ∙ ap (λ b. if b then suc n else g k) (eq-eqb k k refl))
    (fresh_named (give g k (suc n)) (suc n) (suc k) m)

fresh_in_unnamed : (k m : ℕ) → fresh_in (variables k (unnamed m)) ≡ m
fresh_in_unnamed k zero = refl
fresh_in_unnamed k (suc m) = ap suc (fresh_in_unnamed (suc k) m)

dot_differs : (i j : ℕ) → i < j → j < 2 ^ 64 → same_var (var (codes "." ++ decimal i)) (var (codes "." ++ decimal j)) ≡ false
dot_differs i j lt small = and-true _ ∙ decided (bytes_eq (decimal i) (decimal j)) refl
  where
    decided : (b : Bool) → bytes_eq (decimal i) (decimal j) ≡ b → bytes_eq (decimal i) (decimal j) ≡ false
    decided false e = e
    decided true e =
        absurd (not_less i j lt (decimal_injective i j (omega arith) small (same_bytes (decimal i) (decimal j) e)))
      where
        not_less : (i j : ℕ) → i < j → i ≡ j → ⊥
        not_less i j lt e = grind arith

dots_differ : (i n m : ℕ) → i < n → n + m ≤ 2 ^ 64
    → AllByRecursion (λ y. same_var (var (codes "." ++ decimal i)) y ≡ false) (dots n m)
dots_differ i n zero lt small = tt
dots_differ i n (suc m) lt small = (dot_differs i n lt (omega arith), dots_differ i (suc n) m (omega arith) (omega arith))

dots_distinct : (n m : ℕ) → n + m ≤ 2 ^ 64 → IsDistinct same_var (dots n m)
unfolding IsDistinct
dots_distinct n zero small = tt
dots_distinct n (suc m) small =
    (dots_differ n (suc n) m (omega arith) (omega arith), dots_distinct (suc n) m (omega arith))

-- What is bound together

pub bound_distinct : (g : Given) (n k : ℕ) (xs : List Name) (r : Option Name) (ns : List (List ℕ)) → AreBound xs r k ns
    → n + fresh_in xs < 2 ^ 64
    → IsDistinct same_var (and_rest (all_named (give_all g n xs) xs) (maybe_named (give_all g n xs) r))
bound_distinct g n k xs r ns (inl words) small =
    subst (λ vs. IsDistinct same_var vs)
    (sym
    (named_rest (give_all g n xs) xs r
    ∙ (ap (all_named (give_all g n xs)) words.are ∙ words_named (give_all g n xs) k ns words.sources)))
    (words_distinct ns words.distinct)
bound_distinct g n k xs r ns (inr fresh) small =
    let are : xs ≡ variables k (unnamed (length ns)) = fresh.are ∙ ap (variables k) fresh.fresh in
    subst (λ q. IsDistinct same_var (and_rest (all_named (give_all g n xs) xs) (maybe_named (give_all g n xs) q))) (sym fresh.no_rest)
    (subst (λ ys. IsDistinct same_var (all_named (give_all g n ys) ys)) (sym are)
    (subst (λ vs. IsDistinct same_var vs) (sym (fresh_named g n k (length ns)))
    (dots_distinct (suc n) (length ns)
    (bound n (fresh_in xs) (length ns) (ap fresh_in are ∙ fresh_in_unnamed k (length ns)) small))))
  where
    bound : (n m l : ℕ) → m ≡ l → n + m < 2 ^ 64 → suc n + l ≤ 2 ^ 64
    bound n m l e lt = grind arith
