-- Those numbers of a set that are below a bound are a set.
use Rattle.std.proofs.Common.{◌≡◌, ℕ, Bool, true, false, List, [], ◌∷◌, cond, refl, arith}
use Rattle.std.specs.Prelude.{nat_lt}
use Rattle.std.specs.List.{list_all}
use Rattle.std.proofs.lemmas.Bool.{lt-ltb, ltb-true}
use Rattle.least_set.specs.Least.{IsSet, rises}
use Rattle.least_set.proofs.Has.{and_cases, both}
use Rattle.named_form.specs.ValidPlan.{is_set}
use Rattle.named_form.specs.ValidPlan as plan
use Rattle.callcc_conv.proofs.Listing.{below}

drop_second : (x y : ℕ) (ys : List ℕ) → rises (x ∷ y ∷ ys) ≡ true → rises (x ∷ ys) ≡ true
drop_second x y [] h = refl
drop_second x y (z ∷ zs) h =
    let first = and_cases (nat_lt x y) (rises (y ∷ z ∷ zs)) h in
    let second = and_cases (nat_lt y z) (rises (z ∷ zs)) first.1 in
    let low = ltb-true x y first.0 in
    let high = ltb-true y z second.0 in
    both (nat_lt x z) (rises (z ∷ zs)) (lt-ltb x z (omega (arith, low, high))) second.1

drop_first : (x : ℕ) (xs : List ℕ) → rises (x ∷ xs) ≡ true → rises xs ≡ true
drop_first x [] h = refl
drop_first x (y ∷ ys) h = (and_cases (nat_lt x y) (rises (y ∷ ys)) h).1

risen_after : (n x : ℕ) (xs : List ℕ) → rises (x ∷ xs) ≡ true → plan.rises (x ∷ below n xs) ≡ true
risen_after n x [] h = refl
risen_after n x (y ∷ ys) h =
    by_test (nat_lt y n) (and_cases (nat_lt x y) (rises (y ∷ ys)) h).0 (risen_after n y ys (drop_first x (y ∷ ys) h))
    (risen_after n x ys (drop_second x y ys h))
  where
    by_test : (b : Bool) → nat_lt x y ≡ true → plan.rises (y ∷ below n ys) ≡ true → plan.rises (x ∷ below n ys) ≡ true
        → plan.rises (x ∷ cond b (y ∷ below n ys) (below n ys)) ≡ true
    by_test true less with_y past = both (nat_lt x y) (plan.rises (y ∷ below n ys)) less with_y
    by_test false less with_y past = past

risen : (n : ℕ) (xs : List ℕ) → rises xs ≡ true → plan.rises (below n xs) ≡ true
risen n [] h = refl
risen n (x ∷ xs) h = by_test (nat_lt x n) (risen_after n x xs h) (risen n xs (drop_first x xs h))
  where
    by_test : (b : Bool) → plan.rises (x ∷ below n xs) ≡ true → plan.rises (below n xs) ≡ true
        → plan.rises (cond b (x ∷ below n xs) (below n xs)) ≡ true
    by_test true with_x past = with_x
    by_test false with_x past = past

pub all_are_below : (n : ℕ) (xs : List ℕ) → list_all (λ x. nat_lt x n) (below n xs) ≡ true
all_are_below n [] = refl
all_are_below n (x ∷ xs) = by_test (nat_lt x n) refl (all_are_below n xs)
  where
    by_test : (b : Bool) → nat_lt x n ≡ b → list_all (λ y. nat_lt y n) (below n xs) ≡ true
        → list_all (λ y. nat_lt y n) (cond b (x ∷ below n xs) (below n xs)) ≡ true
    by_test true e past = both (nat_lt x n) (list_all (λ y. nat_lt y n) (below n xs)) e past
    by_test false e past = past

pub set_below : (n many : ℕ) (found : List ℕ) → IsSet many found → is_set n (below n found) ≡ true
set_below n many found h =
    both (plan.rises (below n found)) (list_all (λ x. nat_lt x n) (below n found)) (risen n found h.in_order) (all_are_below n found)
