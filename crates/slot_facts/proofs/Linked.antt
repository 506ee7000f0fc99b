-- What numbers are linked to by links that items give.
use Rattle.std.proofs.Common.{◌≡◌, ℕ, zero, suc, inl, inr, Bool, true, false, List, [], ◌∷◌, ◌++◌, Some, refl, sym, ap, ◌∙◌, subst, eqb-true, eq-eqb}
use Rattle.std.specs.Prelude.{nat_eq, ◌||◌, map, slice_get, if◌then◌else◌}
use Rattle.std.specs.List.{flat_map}
use Rattle.std.proofs.lemmas.List.Folds.{list_any-append}
use Rattle.least_set.specs.declared.links.Link.{Link}
use Rattle.least_set.specs.Least.{has}
use Rattle.least_set.specs.Search.{targets}
use Rattle.least_set.proofs.Has.{or_cases, or_left, or_right}
use Rattle.slot_facts.specs.Needs.{link}

pub targets_join : (xs ys : List Link) (k : ℕ) → targets (xs ++ ys) k ≡ targets xs k ++ targets ys k
targets_join [] ys k = refl
targets_join (x ∷ xs) ys k = by_test (nat_eq k x.from) (targets_join xs ys k)
  where
    by_test : (b : Bool) → targets (xs ++ ys) k ≡ targets xs k ++ targets ys k
        → (if b then x.to ∷ targets (xs ++ ys) k else targets (xs ++ ys) k)
        ≡ (if b then x.to ∷ targets xs k else targets xs k) ++ targets ys k
    by_test true h = ap (λ zs. x.to ∷ zs) h
    by_test false h = h

pub has_join : (xs ys : List Link) (k x : ℕ) → has (targets (xs ++ ys) k) x ≡ (has (targets xs k) x || has (targets ys k) x)
has_join xs ys k x = ap (λ zs. has zs x) (targets_join xs ys k) ∙ list_any-append (nat_eq x) (targets xs k) (targets ys k)

of_own : (a k x : ℕ) (ys : List ℕ) → has (targets (map (link a) ys) k) x ≡ true → (a ≡ k) × (has ys x ≡ true)
of_own a k x [] h = absurd (cc)
of_own a k x (y ∷ ys) h = by_test (nat_eq k a) refl h (of_own a k x ys)
  where
    by_test : (b : Bool) → nat_eq k a ≡ b → has (if b then y ∷ targets (map (link a) ys) k else targets (map (link a) ys) k) x ≡ true
        → (has (targets (map (link a) ys) k) x ≡ true → (a ≡ k) × (has ys x ≡ true)) → (a ≡ k) × (has (y ∷ ys) x ≡ true)
    by_test true e h rec = (
      sym (eqb-true k a e),
      elim (or_cases (nat_eq x y) (has (targets (map (link a) ys) k) x) h) [
        | inl at ↦ or_left (nat_eq x y) (has ys x) at
        | inr past ↦ or_right (nat_eq x y) (has ys x) (rec past).1
      ],
    )
    by_test false e h rec = let rest = rec h in (rest.0, or_right (nat_eq x y) (has ys x) rest.1)

to_own : (a k x : ℕ) (ys : List ℕ) → a ≡ k → has ys x ≡ true → has (targets (map (link a) ys) k) x ≡ true
to_own a k x [] same h = absurd (cc)
to_own a k x (y ∷ ys) same h =
    let here : nat_eq k a ≡ true = eq-eqb k a (sym same) in
    let rest = targets (map (link a) ys) k in
    ap (λ b. has (if b then y ∷ rest else rest) x) here
    ∙ elim (or_cases (nat_eq x y) (has ys x) h) [
      | inl at ↦ or_left (nat_eq x y) (has rest x) at
      | inr past ↦ or_right (nat_eq x y) (has rest x) (to_own a k x ys same past)
    ]

-- the links of an item: from its own number to all that it names, if it is reached
abbrev pub links_by : {A : Type 0} → (reached : A → Bool) → (owner : A → ℕ) → (names : A → List ℕ) → A → List Link
links_by reached owner names a = if reached a then map (link (owner a)) (names a) else []

-- an item that links a number to another
pub record Linking {A : Type 0} (reached : A → Bool) (owner : A → ℕ) (names : A → List ℕ) (items : List A) (k x : ℕ) : Type 0 where
  pub at : ℕ
  pub item : A
  pub there : slice_get items at ≡ Some item
  pub is_reached : reached item ≡ true
  pub owned : owner item ≡ k
  pub named : has (names item) x ≡ true

later : {A : Type 0} (reached : A → Bool) (owner : A → ℕ) (names : A → List ℕ) (a : A) (items : List A) (k x : ℕ)
    → Linking reached owner names items k x → Linking reached owner names (a ∷ items) k x
later reached owner names a items k x l =
    record { at = suc l.at; item = l.item; there = l.there; is_reached = l.is_reached; owned = l.owned; named = l.named }

pub linking : {A : Type 0} (reached : A → Bool) (owner : A → ℕ) (names : A → List ℕ) (items : List A) (k x : ℕ)
    → has (targets (flat_map (links_by reached owner names) items) k) x ≡ true → Linking reached owner names items k x
linking reached owner names [] k x h = absurd (cc)
linking reached owner names (a ∷ items) k x h =
    let rest = flat_map (links_by reached owner names) items in
    elim (or_cases (has (targets (links_by reached owner names a) k) x) (has (targets rest k) x)
    (sym (has_join (links_by reached owner names a) rest k x) ∙ h)) [
      | inl first ↦ by_test (reached a) refl first
      | inr past ↦ later reached owner names a items k x (linking reached owner names items k x past)
    ]
  where
    by_test : (b : Bool) → reached a ≡ b → has (targets (if b then map (link (owner a)) (names a) else []) k) x ≡ true
        → Linking reached owner names (a ∷ items) k x
    by_test true e first =
        let own = of_own (owner a) k x (names a) first in
        record { at = 0; item = a; there = refl; is_reached = e; owned = own.0; named = own.1 }
    by_test false e first = absurd (cc)

pub linked : {A : Type 0} (reached : A → Bool) (owner : A → ℕ) (names : A → List ℕ) (items : List A) (k x i : ℕ) (item : A)
    → slice_get items i ≡ Some item → reached item ≡ true → owner item ≡ k → has (names item) x ≡ true
    → has (targets (flat_map (links_by reached owner names) items) k) x ≡ true
linked reached owner names [] k x i item there is_reached owned named = absurd (cc)
linked reached owner names (a ∷ items) k x zero item there is_reached owned named =
    let rest = flat_map (links_by reached owner names) items in
    let same : a ≡ item = cc in
    let first : has (targets (links_by reached owner names item) k) x ≡ true =
    ap (λ b. has (targets (if b then map (link (owner item)) (names item) else []) k) x) is_reached ∙ to_own (owner item) k x (names item) owned named in
    has_join (links_by reached owner names a) rest k x
    ∙ or_left (has (targets (links_by reached owner names a) k) x) (has (targets rest k) x)
    (subst (λ b. has (targets (links_by reached owner names b) k) x ≡ true) (sym same) first)
linked reached owner names (a ∷ items) k x (suc i) item there is_reached owned named =
    let rest = flat_map (links_by reached owner names) items in
    has_join (links_by reached owner names a) rest k x
    ∙ or_right (has (targets (links_by reached owner names a) k) x) (has (targets rest k) x)
    (linked reached owner names items k x i item there is_reached owned named)
