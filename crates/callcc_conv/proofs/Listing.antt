-- What the steps of a program give, place by place.
use Rattle.std.proofs.Common.{◌≡◌, ℕ, zero, suc, ◌+◌, ◌<◌, ◌⊎◌, inl, inr, Bool, true, false, List, [], ◌∷◌, cond, Some, refl, sym, ◌∙◌, subst, arith, eqb-true, eq-eqb}
use Rattle.std.specs.Prelude.{nat_eq, nat_lt, slice_get, if◌then◌else◌}
use Rattle.std.specs.List.{filter, list_all}
use Rattle.std.proofs.lemmas.Bool.{lt-ltb, ltb-true}
use Rattle.std.proofs.lemmas.List.Folds.{list_all-append}
use Rattle.least_set.specs.Least.{has}
use Rattle.least_set.proofs.Has.{and_cases, both, or_cases, or_left, or_right}
use Rattle.plan_facts.specs.declared.place.Place.{Place}
use Rattle.callcc_conv.specs.Graph.{each_from}

at_each : {X : Type 0} (g : ℕ → Place → List X) (t : X → Bool) (at : ℕ) (places : List Place) (i : ℕ) (p : Place)
    → list_all t (each_from g at places) ≡ true → slice_get places i ≡ Some p → list_all t (g (at + i) p) ≡ true
at_each g t at [] i p h there = absurd (cc)
at_each g t at (x ∷ xs) zero p h there =
    let parts = and_cases (list_all t (g at x)) (list_all t (each_from g (at + 1) xs)) (sym (list_all-append t (g at x) (each_from g (at + 1) xs)) ∙ h) in
    let same : x ≡ p = cc in
    let e : at ≡ at + 0 = omega arith in
    subst (λ n. list_all t (g n p) ≡ true) e (subst (λ y. list_all t (g at y) ≡ true) same parts.0)
at_each g t at (x ∷ xs) (suc i) p h there =
    let parts = and_cases (list_all t (g at x)) (list_all t (each_from g (at + 1) xs)) (sym (list_all-append t (g at x) (each_from g (at + 1) xs)) ∙ h) in
    let e : at + 1 + i ≡ at + suc i = omega arith in
    subst (λ n. list_all t (g n p) ≡ true) e (at_each g t (at + 1) xs i p parts.1 there)

each_at : {X : Type 0} (g : ℕ → Place → List X) (t : X → Bool) (at : ℕ) (places : List Place)
    → ((i : ℕ) (p : Place) → slice_get places i ≡ Some p → list_all t (g (at + i) p) ≡ true) → list_all t (each_from g at places) ≡ true
each_at g t at [] h = refl
each_at g t at (x ∷ xs) h =
    let e : at + 0 ≡ at = omega arith in
    list_all-append t (g at x) (each_from g (at + 1) xs)
    ∙ both (list_all t (g at x)) (list_all t (each_from g (at + 1) xs)) (subst (λ n. list_all t (g n x) ≡ true) e (h 0 x refl))
    (each_at g t (at + 1) xs
    (λ i p there. let n : at + suc i ≡ at + 1 + i = omega arith in subst (λ m. list_all t (g m p) ≡ true) n (h (suc i) p there)))

pub at_place : {X : Type 0} (g : ℕ → Place → List X) (t : X → Bool) (places : List Place) (i : ℕ) (p : Place)
    → list_all t (each_from g 0 places) ≡ true → slice_get places i ≡ Some p → list_all t (g i p) ≡ true
at_place g t places i p h there =
    let e : 0 + i ≡ i = omega arith in subst (λ n. list_all t (g n p) ≡ true) e (at_each g t 0 places i p h there)

pub all_places : {X : Type 0} (g : ℕ → Place → List X) (t : X → Bool) (places : List Place)
    → ((i : ℕ) (p : Place) → slice_get places i ≡ Some p → list_all t (g i p) ≡ true) → list_all t (each_from g 0 places) ≡ true
all_places g t places h =
    each_at g t 0 places (λ i p there. let e : i ≡ 0 + i = omega arith in subst (λ n. list_all t (g n p) ≡ true) e (h i p there))

pub one_place : (t : Place → Bool) (places : List Place) (i : ℕ) (p : Place) → list_all t places ≡ true → slice_get places i ≡ Some p → t p ≡ true
one_place t [] i p h there = absurd (cc)
one_place t (x ∷ xs) zero p h there = let same : x ≡ p = cc in subst (λ y. t y ≡ true) same (and_cases (t x) (list_all t xs) h).0
one_place t (x ∷ xs) (suc i) p h there = one_place t xs i p (and_cases (t x) (list_all t xs) h).1 there

-- what stands under a test
pub when : {X : Type 0} (t : X → Bool) (b : Bool) (xs : List X) → (b ≡ true → list_all t xs ≡ true) → list_all t (if b then xs else []) ≡ true
when t true xs h = h refl
when t false xs h = refl

pub opened : {X : Type 0} (t : X → Bool) (b : Bool) (xs : List X) → b ≡ true → list_all t (if b then xs else []) ≡ true → list_all t xs ≡ true
opened t true xs e h = h
opened t false xs e h = absurd (cc)

-- the numbers of a list that are below a bound
past_head : (b : Bool) (y x : ℕ) (zs : List ℕ) → has zs x ≡ true → has (cond b (y ∷ zs) zs) x ≡ true
past_head true y x zs h = or_right (nat_eq x y) (has zs x) h
past_head false y x zs h = h

at_head : (b : Bool) (y x : ℕ) (zs : List ℕ) → b ≡ true → x ≡ y → has (cond b (y ∷ zs) zs) x ≡ true
at_head true y x zs h e = or_left (nat_eq x y) (has zs x) (eq-eqb x y e)
at_head false y x zs h e = absurd (cc)

from_head : (b : Bool) (y x : ℕ) (zs : List ℕ) → has (cond b (y ∷ zs) zs) x ≡ true → ((b ≡ true) × (x ≡ y)) ⊎ (has zs x ≡ true)
from_head true y x zs h = elim (or_cases (nat_eq x y) (has zs x) h) [
  | inl e ↦ inl (refl, eqb-true x y e)
  | inr past ↦ inr past
]
from_head false y x zs h = inr h

abbrev pub below : ℕ → List ℕ → List ℕ
below many xs = filter (λ x. nat_lt x many) xs

pub in_below : (many : ℕ) (xs : List ℕ) (x : ℕ) → has xs x ≡ true → x < many → has (below many xs) x ≡ true
in_below many [] x h less = h
in_below many (y ∷ ys) x h less =
    elim (or_cases (nat_eq x y) (has ys x) h) [
      | inl e ↦
          let same = eqb-true x y e in
          at_head (nat_lt y many) y x (below many ys) (lt-ltb y many (subst (λ z. z < many) same less)) same
      | inr past ↦ past_head (nat_lt y many) y x (below many ys) (in_below many ys x past less)
    ]

pub of_below : (many : ℕ) (xs : List ℕ) (x : ℕ) → has (below many xs) x ≡ true → (has xs x ≡ true) × (x < many)
of_below many [] x h = absurd (cc)
of_below many (y ∷ ys) x h =
    elim (from_head (nat_lt y many) y x (below many ys) h) [
      | inl first ↦
          (or_left (nat_eq x y) (has ys x) (eq-eqb x y first.1), subst (λ z. z < many) (sym first.1) (ltb-true y many first.0))
      | inr past ↦ let rest = of_below many ys x past in (or_right (nat_eq x y) (has ys x) rest.0, rest.1)
    ]
