-- Which variables a list has, and which are free in a procedure.
use Rattle.std.proofs.Common.{◌≡◌, ℕ, suc, Bool, true, false, List, [], ◌∷◌, ◌++◌, cond, Some, None, refl, sym, ap, ◌∙◌, ne_eqb, eq-eqb, eqb-true}
use Rattle.std.specs.Prelude.{nat_eq, ◌||◌, ◌&&◌, not, slice_get}
use Rattle.std.specs.List.{filter, flat_map, list_any}
use Rattle.std.proofs.lemmas.List.Folds.{list_any-append}
use Rattle.named_form.specs.Code.{Code, Ends, Then, Act, If, Written, has, once, reads, reads_in, arms_read, closes, closes_in, arms_close, needs, bound_in, written_at, free_in}
use Rattle.named_form.specs.Needs.{needs_in, arms_need}

pub has_append : (xs ys : List ℕ) (y : ℕ) → has (xs ++ ys) y ≡ has xs y || has ys y
has_append xs ys y = list_any-append (nat_eq y) xs ys

pub has_filter : (p : ℕ → Bool) (xs : List ℕ) (y : ℕ) → has (filter p xs) y ≡ p y && has xs y
has_filter p [] y = never (p y)
  where
    never : (t : Bool) → false ≡ t && false
    never true = refl
    never false = refl
has_filter p (x ∷ xs) y = here (nat_eq y x) refl (p x) refl (has_filter p xs y)
  where
    here : (t : Bool) → nat_eq y x ≡ t → (b : Bool) → p x ≡ b → has (filter p xs) y ≡ p y && has xs y
        → has (cond b (x ∷ filter p xs) (filter p xs)) y ≡ p y && (nat_eq y x || has xs y)
    here true e true k h =
        let same : y ≡ x = eqb-true y x e in
        let passes : p y ≡ true = ap p same ∙ k in
        ap (λ t. t || has (filter p xs) y) e
        ∙ sym (ap (λ b. b && (nat_eq y x || has xs y)) passes ∙ ap (λ t. t || has xs y) e)
    here true e false k h =
        let same : y ≡ x = eqb-true y x e in
        let fails : p y ≡ false = ap p same ∙ k in
        h ∙ (ap (λ b. b && has xs y) fails ∙ sym (ap (λ b. b && (nat_eq y x || has xs y)) fails))
    here false e true k h =
        ap (λ t. t || has (filter p xs) y) e ∙ (h ∙ sym (ap (λ t. p y && (t || has xs y)) e))
    here false e false k h = h ∙ sym (ap (λ t. p y && (t || has xs y)) e)

pub has_once : (xs : List ℕ) (y : ℕ) → has (once xs) y ≡ has xs y
has_once [] y = refl
has_once (x ∷ xs) y = here (nat_eq y x) refl (has_once xs y) (has_filter (λ z. not (nat_eq x z)) (once xs) y)
  where
    here : (t : Bool) → nat_eq y x ≡ t → has (once xs) y ≡ has xs y
        → has (filter (λ z. not (nat_eq x z)) (once xs)) y ≡ not (nat_eq x y) && has (once xs) y
        → nat_eq y x || has (filter (λ z. not (nat_eq x z)) (once xs)) y ≡ nat_eq y x || has xs y
    here true e h k =
        ap (λ t. t || has (filter (λ z. not (nat_eq x z)) (once xs)) y) e ∙ sym (ap (λ t. t || has xs y) e)
    here false e h k =
        let other : nat_eq x y ≡ false = ne_eqb x y (λ same. differ same) in
        ap (λ t. nat_eq y x || t) (k ∙ (ap (λ t. not t && has (once xs) y) other ∙ h))
      where
        differ : x ≡ y → ⊥
        differ same = absurd (let k = eq-eqb y x (sym same) in cc)

pub has_flat : (f : ℕ → List ℕ) (xs : List ℕ) (y : ℕ) → has (flat_map f xs) y ≡ list_any (λ x. has (f x) y) xs
has_flat f [] y = refl
has_flat f (x ∷ xs) y = has_append (f x) (flat_map f xs) y ∙ ap (λ t. has (f x) y || t) (has_flat f xs y)

-- What a block needs is what it reads, and what is free in the procedures of which it makes closures.

abbrev pub any_free : (free : ℕ → List ℕ) → List ℕ → (var : ℕ) → Bool
any_free free qs y = list_any (λ q. has (free q) y) qs

any_append : (free : ℕ → List ℕ) (xs ys : List ℕ) (y : ℕ)
    → any_free free (xs ++ ys) y ≡ any_free free xs y || any_free free ys y
any_append free xs ys y = list_any-append (λ q. has (free q) y) xs ys

shuffle : (a b c d e f : Bool) → (a || b) || ((c || d) || (e || f)) ≡ (a || (c || e)) || (b || (d || f))
shuffle true b c d e f = refl
shuffle false true true d e f = refl
shuffle false true false d true f = refl
shuffle false true false d false f = refl
shuffle false false true d e f = refl
shuffle false false false true true f = refl
shuffle false false false true false f = refl
shuffle false false false false true f = refl
shuffle false false false false false f = refl

exchange : (a b c d : Bool) → (a || b) || (c || d) ≡ (a || c) || (b || d)
exchange true b c d = refl
exchange false true true d = refl
exchange false true false d = refl
exchange false false true d = refl
exchange false false false d = refl

mutual
  pub has_needs : {L : Type 0} → (free : ℕ → List ℕ) (c : Code L) (y : ℕ)
      → has (needs_in free c) y ≡ has (reads_in c) y || any_free free (closes_in c) y
  has_needs free (Ends None) y = refl
  has_needs free (Ends (Some x)) y = sym (or_false (nat_eq y x || false))
    where
      or_false : (t : Bool) → t || false ≡ t
      or_false true = refl
      or_false false = refl
  has_needs free (Then l vars act rest) y =
      let one = has_append (reads act) (flat_map free (closes act)) y ∙ ap (λ t. has (reads act) y || t) (has_flat free (closes act) y) in
      let two = arms_have free act y in
      let three = has_needs free rest y in
      let whole = has_append (needs free act) (arms_need free act ++ needs_in free rest) y
      ∙ ap (λ t. has (needs free act) y || t) (has_append (arms_need free act) (needs_in free rest) y) in
      let read = has_append (reads act) (arms_read act ++ reads_in rest) y
      ∙ ap (λ t. has (reads act) y || t) (has_append (arms_read act) (reads_in rest) y) in
      let closed = any_append free (closes act) (arms_close act ++ closes_in rest) y
      ∙ ap (λ t. any_free free (closes act) y || t) (any_append free (arms_close act) (closes_in rest) y) in
      let same = shuffle (has (reads act) y) (any_free free (closes act) y) (has (arms_read act) y) (any_free free (arms_close act) y) (has (reads_in rest) y) (any_free free (closes_in rest) y) in
      cc

  arms_have : {L : Type 0} → (free : ℕ → List ℕ) (act : Act L) (y : ℕ)
      → has (arms_need free act) y ≡ has (arms_read act) y || any_free free (arms_close act) y
  arms_have free (If test this that) y =
      let one = has_needs free this y in
      let two = has_needs free that y in
      let whole = has_append (needs_in free this) (needs_in free that) y in
      let read = has_append (reads_in this) (reads_in that) y in
      let closed = any_append free (closes_in this) (closes_in that) y in
      let same = exchange (has (reads_in this) y) (any_free free (closes_in this) y) (has (reads_in that) y) (any_free free (closes_in that) y) in
      cc
  arms_have free act y = refl

-- a variable is free in a procedure that reads it, or that makes a closure in which it is free, and does not bind it
pub has_free : (n : ℕ) (ps : List Written) (q y : ℕ) (p : Written) → slice_get ps q ≡ Some p
    → has (free_in (suc n) ps q) y
    ≡ not (has (bound_in p) y) && (has (reads_in p.body) y || any_free (free_in n ps) (closes_in p.body) y)
has_free n ps q y p e =
    ap (λ o. has (filter (λ x. not (has (bound_in (written_at o)) x)) (once (reads_in (written_at o).body ++ flat_map (free_in n ps) (closes_in (written_at o).body)))) y) e
    ∙ (has_filter (λ x. not (has (bound_in p) x)) (once (reads_in p.body ++ flat_map (free_in n ps) (closes_in p.body))) y
    ∙ ap (λ t. not (has (bound_in p) y) && t)
    (has_once (reads_in p.body ++ flat_map (free_in n ps) (closes_in p.body)) y
    ∙ (has_append (reads_in p.body) (flat_map (free_in n ps) (closes_in p.body)) y
    ∙ ap (λ t. has (reads_in p.body) y || t) (has_flat (free_in n ps) (closes_in p.body) y))))
