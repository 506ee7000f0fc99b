-- What passes a test in a list, and where it comes from.
use Rattle.std.proofs.Common.{◌≡◌, ℕ, zero, suc, ◌+◌, inl, inr, Bool, true, false, List, [], ◌∷◌, Some, refl, sym, ap, ◌∙◌, subst, arith, eqb-true, eq-eqb}
use Rattle.std.specs.Prelude.{nat_eq, ◌||◌, slice_get, if◌then◌else◌}
use Rattle.std.specs.List.{flat_map, list_any}
use Rattle.std.proofs.lemmas.List.Folds.{list_any-append}
use Rattle.flow_constraints.specs.declared.flow.Entry.{Entry}
use Rattle.least_set.specs.Least.{has}
use Rattle.least_set.proofs.Has.{or_cases, or_left, or_right}
use Rattle.escape_facts.specs.Owners.{each_entry}

-- an item that passes a test
pub record Item {X : Type 0} (t : X → Bool) (xs : List X) : Type 0 where
  pub at : ℕ
  pub item : X
  pub there : slice_get xs at ≡ Some item
  pub passes : t item ≡ true

later : {X : Type 0} {t : X → Bool} {xs : List X} (x : X) → Item t xs → Item t (x ∷ xs)
later x p = record { at = suc p.at; item = p.item; there = p.there; passes = p.passes }

pub item_of : {X : Type 0} (t : X → Bool) (xs : List X) → list_any t xs ≡ true → Item t xs
item_of t [] h = absurd (cc)
item_of t (x ∷ xs) h = by_head (t x) refl (λ past. later x (item_of t xs past))
  where
    by_head : (b : Bool) → t x ≡ b → (list_any t xs ≡ true → Item t (x ∷ xs)) → Item t (x ∷ xs)
    by_head true e past = record { at = 0; item = x; there = refl; passes = e }
    by_head false e past = past (sym (ap (λ b. b || list_any t xs) e) ∙ h)

pub any_item : {X : Type 0} (t : X → Bool) (xs : List X) (at : ℕ) (item : X) → slice_get xs at ≡ Some item → t item ≡ true
    → list_any t xs ≡ true
any_item t [] at item there h = absurd (cc)
any_item t (x ∷ xs) zero item there h =
    let same : x ≡ item = cc in
    or_left (t x) (list_any t xs) (subst (λ y. t y ≡ true) (sym same) h)
any_item t (x ∷ xs) (suc at) item there h = or_right (t x) (list_any t xs) (any_item t xs at item there h)

pub any_flat : {X Y : Type 0} (t : Y → Bool) (g : X → List Y) (xs : List X)
    → list_any t (flat_map g xs) ≡ list_any (λ x. list_any t (g x)) xs
any_flat t g [] = refl
any_flat t g (x ∷ xs) =
    list_any-append t (g x) (flat_map g xs) ∙ ap (λ b. list_any t (g x) || b) (any_flat t g xs)

-- a number that a list has and that passes a test
pub record Number (t : ℕ → Bool) (xs : List ℕ) : Type 0 where
  pub number : ℕ
  pub there : has xs number ≡ true
  pub passes : t number ≡ true

pub number_of : (t : ℕ → Bool) (xs : List ℕ) → list_any t xs ≡ true → Number t xs
number_of t xs h =
    let i = item_of t xs h in
    record {
      number = i.item;
      there = any_item (nat_eq i.item) xs i.at i.item i.there (eq-eqb i.item i.item refl);
      passes = i.passes;
    }

pub any_number : (t : ℕ → Bool) (xs : List ℕ) (x : ℕ) → has xs x ≡ true → t x ≡ true → list_any t xs ≡ true
any_number t xs x h k =
    let i = item_of (nat_eq x) xs h in
    any_item t xs i.at i.item i.there (subst (λ y. t y ≡ true) (eqb-true x i.item i.passes) k)

-- the same of what procedures give

pub record Given {X : Type 0} (t : X → Bool) (g : ℕ → Entry → List X) (proc : ℕ) (entries : List Entry) : Type 0 where
  pub at : ℕ
  pub entry : Entry
  pub there : slice_get entries at ≡ Some entry
  pub passes : list_any t (g (proc + at) entry) ≡ true

further : {X : Type 0} {t : X → Bool} {g : ℕ → Entry → List X} {q : ℕ} {es : List Entry} (e : Entry) → Given t g (q + 1) es
    → Given t g q (e ∷ es)
further {X} {t} {g} {q} e p =
    let same : q + 1 + p.at ≡ q + suc p.at = omega arith in
    record { at = suc p.at; entry = p.entry; there = p.there; passes = subst (λ n. list_any t (g n p.entry) ≡ true) same p.passes }

pub given_of : {X : Type 0} (t : X → Bool) (g : ℕ → Entry → List X) (q : ℕ) (es : List Entry) → list_any t (each_entry g q es) ≡ true
    → Given t g q es
given_of t g q [] h = absurd (cc)
given_of t g q (e ∷ es) h =
    elim (or_cases (list_any t (g q e)) (list_any t (each_entry g (q + 1) es)) (sym (list_any-append t (g q e) (each_entry g (q + 1) es)) ∙ h)) [
      | inl here ↦
          let same : q ≡ q + 0 = omega arith in
          record { at = 0; entry = e; there = refl; passes = subst (λ n. list_any t (g n e) ≡ true) same here }
      | inr past ↦ further e (given_of t g (q + 1) es past)
    ]

pub any_given : {X : Type 0} (t : X → Bool) (g : ℕ → Entry → List X) (q : ℕ) (es : List Entry) (at : ℕ) (e : Entry)
    → slice_get es at ≡ Some e → list_any t (g (q + at) e) ≡ true → list_any t (each_entry g q es) ≡ true
any_given t g q [] at e there h = absurd (cc)
any_given t g q (x ∷ xs) zero e there h =
    let same : x ≡ e = cc in
    let first : q + 0 ≡ q = omega arith in
    list_any-append t (g q x) (each_entry g (q + 1) xs)
    ∙ or_left (list_any t (g q x)) (list_any t (each_entry g (q + 1) xs))
    (subst (λ n. list_any t (g n x) ≡ true) first (subst (λ y. list_any t (g (q + 0) y) ≡ true) (sym same) h))
any_given t g q (x ∷ xs) (suc at) e there h =
    let next : q + suc at ≡ q + 1 + at = omega arith in
    list_any-append t (g q x) (each_entry g (q + 1) xs)
    ∙ or_right (list_any t (g q x)) (list_any t (each_entry g (q + 1) xs))
    (any_given t g (q + 1) xs at e there (subst (λ n. list_any t (g n e) ≡ true) next h))

-- what stands under a test

pub when_any : {X : Type 0} (t : X → Bool) (b : Bool) (xs : List X) → b ≡ true → list_any t xs ≡ true → list_any t (if b then xs else []) ≡ true
when_any t true xs e h = h
when_any t false xs e h = absurd (cc)

pub any_when : {X : Type 0} (t : X → Bool) (b : Bool) (xs : List X) → list_any t (if b then xs else []) ≡ true
    → (b ≡ true) × (list_any t xs ≡ true)
any_when t true xs h = (refl, h)
any_when t false xs h = absurd (cc)
