-- What a list has.
use Rattle.std.proofs.Common.{◌≡◌, ℕ, suc, ◌+◌, ◌<◌, ◌⊎◌, inl, inr, Bool, true, false, List, [], ◌∷◌, ◌++◌, length, get_or, take, refl, sym, ap, ◌∙◌, subst, arith, eqb-true, eq-eqb}
use Rattle.std.specs.Prelude.{nat_eq, nat_lt, ◌||◌, ◌&&◌}
use Rattle.std.specs.List.{list_all}
use Rattle.std.proofs.lemmas.Bool.{ltb-true}
use Rattle.std.proofs.lemmas.List.Folds.{list_any-append, list_any_more, list_any_at}
use Rattle.least_set.specs.Least.{has, all_below}

pub or_false : (a : Bool) → (a || false) ≡ a
or_false true = refl
or_false false = refl

pub or_true : (a : Bool) → (a || true) ≡ true
or_true true = refl
or_true false = refl

pub or_assoc : (a b c : Bool) → ((a || b) || c) ≡ (a || (b || c))
or_assoc true b c = refl
or_assoc false b c = refl

pub or_cases : (a b : Bool) → (a || b) ≡ true → (a ≡ true) ⊎ (b ≡ true)
or_cases true b h = inl refl
or_cases false b h = inr h

pub or_left : (a b : Bool) → a ≡ true → (a || b) ≡ true
or_left true b h = refl
or_left false b h = absurd (cc)

pub or_right : (a b : Bool) → b ≡ true → (a || b) ≡ true
or_right true b h = refl
or_right false b h = h

pub and_cases : (a b : Bool) → (a && b) ≡ true → (a ≡ true) × (b ≡ true)
and_cases true b h = (refl, h)
and_cases false b h = absurd (cc)

pub both : (a b : Bool) → a ≡ true → b ≡ true → (a && b) ≡ true
both true b h k = k
both false b h k = absurd (cc)

pub has_end : (xs : List ℕ) (x y : ℕ) → has (xs ++ x ∷ []) y ≡ (has xs y || nat_eq y x)
has_end xs x y = list_any-append (nat_eq y) xs (x ∷ []) ∙ ap (λ b. has xs y || b) (or_false (nat_eq y x))

pub has_more : (xs : List ℕ) (i y : ℕ) → i < length xs → has (take (i + 1) xs) y ≡ (has (take i xs) y || nat_eq y (get_or xs i 0))
has_more xs i y h = list_any_more (nat_eq y) xs i 0 h

pub has_at : (xs : List ℕ) (i x : ℕ) → i < length xs → get_or xs i 0 ≡ x → has xs x ≡ true
has_at xs i x h e = list_any_at (nat_eq x) xs i 0 h (eq-eqb x (get_or xs i 0) (sym e))

-- the place of what a list has
pub record Place (xs : List ℕ) (x : ℕ) : Type 0 where
  pub at : ℕ
  pub within : at < length xs
  pub is : get_or xs at 0 ≡ x

pub place_of : (xs : List ℕ) (x : ℕ) → has xs x ≡ true → Place xs x
place_of [] x h = absurd (cc)
place_of (y ∷ ys) x h = by_head (nat_eq x y) refl (place_of ys x)
  where
    by_head : (b : Bool) → nat_eq x y ≡ b → (has ys x ≡ true → Place ys x) → Place (y ∷ ys) x
    by_head true e rest = record { at = 0; within = omega arith; is = sym (eqb-true x y e) }
    by_head false e rest =
        let p = rest (sym (ap (λ b. b || has ys x) e) ∙ h) in
        record { at = suc p.at; within = omega (arith, p.within); is = p.is }

pub below_at : (many : ℕ) (xs : List ℕ) (x : ℕ) → all_below many xs ≡ true → has xs x ≡ true → x < many
below_at many [] x h k = absurd (cc)
below_at many (y ∷ ys) x h k =
    let parts = and_cases (nat_lt y many) (all_below many ys) h in
    elim (or_cases (nat_eq x y) (has ys x) k) [
      | inl e ↦ let same = eqb-true x y e in let less = ltb-true y many parts.0 in omega (arith, same, less)
      | inr past ↦ below_at many ys x parts.1 past
    ]

pub all_of : (t : ℕ → Bool) (xs : List ℕ) → ((x : ℕ) → has xs x ≡ true → t x ≡ true) → list_all t xs ≡ true
all_of t [] h = refl
all_of t (x ∷ xs) h =
    both (t x) (list_all t xs) (h x (or_left (nat_eq x x) (has xs x) (eq-eqb x x refl)))
    (all_of t xs (λ y there. h y (or_right (nat_eq y x) (has xs y) there)))

pub one_of : (t : ℕ → Bool) (xs : List ℕ) (x : ℕ) → list_all t xs ≡ true → has xs x ≡ true → t x ≡ true
one_of t [] x h k = absurd (cc)
one_of t (y ∷ ys) x h k =
    let parts = and_cases (t y) (list_all t ys) h in
    elim (or_cases (nat_eq x y) (has ys x) k) [
      | inl e ↦ subst (λ z. t z ≡ true) (sym (eqb-true x y e)) parts.0
      | inr past ↦ one_of t ys x parts.1 past
    ]
