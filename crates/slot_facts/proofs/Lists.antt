-- What lists of lists have.
use Rattle.std.proofs.Common.{◌≡◌, ℕ, ◌<◌, inl, inr, Bool, true, false, List, [], ◌∷◌, ◌++◌, Option, Some, None, length, get_or, refl, sym, ap, ◌∙◌, subst, eqb-true, eq-eqb}
use Rattle.std.specs.Prelude.{nat_eq}
use Rattle.std.specs.List.{flat_map, list_all}
use Rattle.std.proofs.lemmas.List.Folds.{list_all-append, list_any-append}
use Rattle.std.proofs.lemmas.Bool.{cases_lt}
use Rattle.std.proofs.lemmas.List.{get_or_past}
use Rattle.std.proofs.lemmas.Option.{get_or_from_slice_get, slice_get_read}
use Rattle.least_set.specs.Least.{has}
use Rattle.least_set.proofs.Has.{and_cases, both, or_cases, or_left, or_right}
use Rattle.least_set.specs.Search.{listed}
use Rattle.named_form.specs.Code.{option_list}

pub of_flat : {X : Type 0} (g : ℕ → List X) (t : X → Bool) (xs : List ℕ) (y : ℕ)
    → list_all t (flat_map g xs) ≡ true → has xs y ≡ true → list_all t (g y) ≡ true
of_flat g t [] y h there = absurd (cc)
of_flat g t (x ∷ xs) y h there =
    let parts = and_cases (list_all t (g x)) (list_all t (flat_map g xs)) (sym (list_all-append t (g x) (flat_map g xs)) ∙ h) in
    elim (or_cases (nat_eq y x) (has xs y) there) [
      | inl e ↦ subst (λ z. list_all t (g z) ≡ true) (sym (eqb-true y x e)) parts.0
      | inr past ↦ of_flat g t xs y parts.1 past
    ]

pub all_flat : {X : Type 0} (g : ℕ → List X) (t : X → Bool) (xs : List ℕ) → ((y : ℕ) → has xs y ≡ true → list_all t (g y) ≡ true)
    → list_all t (flat_map g xs) ≡ true
all_flat g t [] h = refl
all_flat g t (x ∷ xs) h =
    list_all-append t (g x) (flat_map g xs)
    ∙ both (list_all t (g x)) (list_all t (flat_map g xs)) (h x (or_left (nat_eq x x) (has xs x) (eq-eqb x x refl)))
    (all_flat g t xs (λ y there. h y (or_right (nat_eq y x) (has xs y) there)))

pub both_lists : {X : Type 0} (t : X → Bool) (xs ys : List X) → list_all t xs ≡ true → list_all t ys ≡ true → list_all t (xs ++ ys) ≡ true
both_lists t xs ys h i = list_all-append t xs ys ∙ both (list_all t xs) (list_all t ys) h i

pub of_both_lists : {X : Type 0} (t : X → Bool) (xs ys : List X) → list_all t (xs ++ ys) ≡ true → (list_all t xs ≡ true) × (list_all t ys ≡ true)
of_both_lists t xs ys h = and_cases (list_all t xs) (list_all t ys) (sym (list_all-append t xs ys) ∙ h)

-- the list of a number of these has something
pub record Brings (g : ℕ → List ℕ) (qs : List ℕ) (x : ℕ) : Type 0 where
  pub one : ℕ
  pub among : has qs one ≡ true
  pub has_it : has (g one) x ≡ true

pub brings : (g : ℕ → List ℕ) (qs : List ℕ) (x : ℕ) → has (flat_map g qs) x ≡ true → Brings g qs x
brings g [] x h = absurd (cc)
brings g (q ∷ qs) x h =
    elim (or_cases (has (g q) x) (has (flat_map g qs) x) (sym (list_any-append (nat_eq x) (g q) (flat_map g qs)) ∙ h)) [
      | inl e ↦ record { one = q; among = or_left (nat_eq q q) (has qs q) (eq-eqb q q refl); has_it = e }
      | inr past ↦
          let rest = brings g qs x past in
          record { one = rest.one; among = or_right (nat_eq rest.one q) (has qs rest.one) rest.among; has_it = rest.has_it }
    ]

pub brought : (g : ℕ → List ℕ) (qs : List ℕ) (q x : ℕ) → has qs q ≡ true → has (g q) x ≡ true → has (flat_map g qs) x ≡ true
brought g [] q x h i = absurd (cc)
brought g (r ∷ qs) q x h i =
    list_any-append (nat_eq x) (g r) (flat_map g qs)
    ∙ elim (or_cases (nat_eq q r) (has qs q) h) [
      | inl e ↦ or_left (has (g r) x) (has (flat_map g qs) x) (subst (λ z. has (g z) x ≡ true) (eqb-true q r e) i)
      | inr past ↦ or_right (has (g r) x) (has (flat_map g qs) x) (brought g qs q x past i)
    ]

pub listed_within : (lists : List (List ℕ)) (q x : ℕ) → has (listed lists q) x ≡ true → q < length lists
listed_within lists q x h = elim (cases_lt q (length lists)) [
  | inl less ↦ less
  | inr past ↦ absurd (let none = ap (λ xs. has xs x) (get_or_past lists q [] past) in cc)
]

pub of_option : (o : Option ℕ) (q : ℕ) → has (option_list o) q ≡ true → o ≡ Some q
of_option None q h = absurd (cc)
of_option (Some r) q h = elim (or_cases (nat_eq q r) false h) [
  | inl e ↦ ap (λ s. Some s) (sym (eqb-true q r e))
  | inr e ↦ absurd (cc)
]

-- a list that was read where it stands
pub read_list : (lists : List (List ℕ)) (i : ℕ) (was : List ℕ) → i < length lists → was ≡ get_or lists i was → was ≡ listed lists i
read_list lists i was within reads = sym (get_or_from_slice_get lists i was [] (slice_get_read lists (length lists) i was refl within reads))
