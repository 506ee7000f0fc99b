-- Lists of numbers in order: such a list is known by what it has.
use Rattle.std.proofs.Common.{◌≡◌, ℕ, zero, suc, ◌+◌, ◌<◌, ◌≤◌, Bool, true, false, List, [], ◌∷◌, ◌++◌, cond, refl, sym, ap, subst, ◌∙◌, arith, append-nil, eqb-true, ne_eqb}
use Rattle.std.specs.Prelude.{nat_eq, nat_lt, ◌||◌, ◌==◌}
use Rattle.std.specs.List.{AllByRecursion, filter, dedup, dedup_from}
use Rattle.std.specs.List.Sorted.{IsPermutation, IsSorted, IsStrictlySortedBy}
use Rattle.std.specs.Ordering.{nat_cmp}
use Rattle.std.proofs.Common.{Less, Equal, Greater}
use Rattle.std.proofs.lemmas.List.Elements.{filter-append}
use Rattle.std.proofs.lemmas.List.Kept.{IsStrictlyIncreasing-filter}
use Rattle.std.proofs.lemmas.List.Sorted.{list_any-IsPermutation}
use Rattle.std.proofs.lemmas.Map.Keys.{IsStrictlyIncreasing-dedup, sorted_from_strictly_increasing}
use Rattle.std.proofs.lemmas.Bool.{eqb-false, ltb-true, ltb-false}
use Rattle.named_form.specs.Code.{has}
use Rattle.named_form.specs.Needs.{among}
use Rattle.named_form.specs.Valid.{numbers_from}

-- each number is above those before it, and none is below lo
abbrev pub Rises : (lo : ℕ) → List ℕ → Type 0
Rises lo [] = Unit {0}
Rises lo (x ∷ xs) = (lo ≤ x) × Rises (suc x) xs

pub not_before : (lo x : ℕ) (xs : List ℕ) → Rises lo xs → x < lo → has xs x ≡ false
not_before lo x [] h lt = refl
not_before lo x (y ∷ ys) h lt =
    let here : nat_eq x y ≡ false = ne_eqb x y (λ e. omega (arith, e)) in
    let past = not_before (suc y) x ys h.1 (omega arith) in
    cc

-- Filters of consecutive numbers

pub filter_same : (f g : ℕ → Bool) (lo n : ℕ) → ((y : ℕ) → lo ≤ y → y < lo + n → f y ≡ g y)
    → filter f (numbers_from lo n) ≡ filter g (numbers_from lo n)
filter_same f g lo zero h = refl
filter_same f g lo (suc n) h =
    let here = h lo (omega arith) (omega arith) in
    let past = filter_same f g (suc lo) n (λ y ge lt. h y (omega arith) (omega arith)) in
    cc

pub filter_none : (f : ℕ → Bool) (lo n : ℕ) → ((y : ℕ) → lo ≤ y → y < lo + n → f y ≡ false)
    → filter f (numbers_from lo n) ≡ []
filter_none f lo zero h = refl
filter_none f lo (suc n) h =
    let here = h lo (omega arith) (omega arith) in
    let past = filter_none f (suc lo) n (λ y ge lt. h y (omega arith) (omega arith)) in
    ap (λ b. cond b (lo ∷ filter f (numbers_from (suc lo) n)) (filter f (numbers_from (suc lo) n))) here ∙ past

pub numbers_append : (lo a b : ℕ) → numbers_from lo (a + b) ≡ numbers_from lo a ++ numbers_from (lo + a) b
numbers_append lo zero b =
    let n : 0 + b ≡ b = omega arith in
    let m : lo + 0 ≡ lo = omega arith in
    ap (λ k. numbers_from lo k) n ∙ sym (ap (λ k. numbers_from k b) m)
numbers_append lo (suc a) b =
    let n : suc a + b ≡ suc (a + b) = omega arith in
    let m : suc lo + a ≡ lo + suc a = omega arith in
    ap (λ k. numbers_from lo k) n
    ∙ ap (λ xs. lo ∷ xs) (numbers_append (suc lo) a b ∙ ap (λ k. numbers_from (suc lo) a ++ numbers_from k b) m)

-- a filter that passes nothing from a number on
pub filter_below : (f : ℕ → Bool) (a b : ℕ) → ((y : ℕ) → a ≤ y → f y ≡ false)
    → filter f (numbers_from 0 (a + b)) ≡ filter f (numbers_from 0 a)
filter_below f a b h =
    ap (filter f) (numbers_append 0 a b)
    ∙ (filter-append f (numbers_from 0 a) (numbers_from (0 + a) b)
    ∙ (ap (λ xs. filter f (numbers_from 0 a) ++ xs) (filter_none f (0 + a) b (λ y ge lt. h y (omega arith)))
    ∙ append-nil (filter f (numbers_from 0 a))))

-- A rising list is all that it has, in order.

between : (lo x : ℕ) → (lo ≡ x → ⊥) → lo ≤ x → lo < x
between lo x other h = omega arith

has_none : (n lo : ℕ) → filter (has []) (numbers_from lo n) ≡ []
has_none n lo = filter_none (has []) lo n (λ y ge lt. refl)

has_head : (x : ℕ) (xs : List ℕ) (n : ℕ)
    → filter (has (x ∷ xs)) (numbers_from (suc x) n) ≡ filter (has xs) (numbers_from (suc x) n)
has_head x xs n =
    filter_same (has (x ∷ xs)) (has xs) (suc x) n
    (λ y ge lt. let other : nat_eq y x ≡ false = ne_eqb y x (λ e. omega (arith, e)) in ap (λ b. b || has xs y) other)

below_next : (lo n : ℕ) (xs : List ℕ) → AllByRecursion (λ y. y < lo + suc n) xs
    → AllByRecursion (λ y. y < suc lo + n) xs
below_next lo n xs b = let e : lo + suc n ≡ suc lo + n = omega arith in subst (λ m. AllByRecursion (λ y. y < m) xs) e b

from_head : (lo n x : ℕ) (xs : List ℕ) → Rises lo (x ∷ xs) → AllByRecursion (λ y. y < lo + suc n) (x ∷ xs)
    → ((ys : List ℕ) → Rises (suc lo) ys → AllByRecursion (λ y. y < suc lo + n) ys → filter (has ys) (numbers_from (suc lo) n) ≡ ys)
    → (t : Bool) → nat_eq lo x ≡ t → filter (has (x ∷ xs)) (numbers_from lo (suc n)) ≡ x ∷ xs
from_head lo n x xs h b rec true e =
    let same : lo ≡ x = eqb-true lo x e in
    let rises = subst (λ y. Rises (suc y) xs) (sym same) h.1 in
    let rest = rec xs rises (below_next lo n xs b.1) in
    let head = subst (λ y. filter (has (y ∷ xs)) (numbers_from (suc lo) n) ≡ filter (has xs) (numbers_from (suc lo) n)) same (has_head lo xs n) in
    let F : List ℕ = filter (has (x ∷ xs)) (numbers_from (suc lo) n) in
    ap (λ t. cond (t || has xs lo) (lo ∷ F) F) e ∙ (ap (λ ys. lo ∷ ys) (head ∙ rest) ∙ ap (λ y. y ∷ xs) same)
from_head lo n x xs h b rec false e =
    let above : lo < x = between lo x (eqb-false lo x e) h.0 in
    let rest = rec (x ∷ xs) (above, h.1) (below_next lo n (x ∷ xs) b) in
    let missing : has xs lo ≡ false = not_before (suc x) lo xs h.1 (omega arith) in
    let F : List ℕ = filter (has (x ∷ xs)) (numbers_from (suc lo) n) in
    ap (λ t. cond (t || has xs lo) (lo ∷ F) F) e ∙ (ap (λ t. cond t (lo ∷ F) F) missing ∙ rest)

pub only : (n lo : ℕ) (xs : List ℕ) → Rises lo xs → AllByRecursion (λ x. x < lo + n) xs
    → filter (has xs) (numbers_from lo n) ≡ xs
only zero lo [] h b = refl
only zero lo (x ∷ xs) h b = absurd (omega (arith, h.0, b.0))
only (suc n) lo [] h b = has_none (suc n) lo
only (suc n) lo (x ∷ xs) h b =
    from_head lo n x xs h b (λ ys r k. only n (suc lo) ys r k) (nat_eq lo x) refl

-- After a sort and a `dedup`

less_by : (x y : ℕ) (t : Bool) → nat_lt x y ≡ t → cond t Less (cond (x == y) Equal Greater) ≡ Less → x < y
less_by x y true e h = ltb-true x y e
less_by x y false e h = absurd (neither (x == y) h)
  where
    neither : (t : Bool) → cond t Equal Greater ≡ Less → ⊥
    neither true h = cc
    neither false h = cc

less_means : (x y : ℕ) → nat_cmp x y ≡ Less → x < y
less_means x y h = less_by x y (nat_lt x y) refl h

all_less : (x : ℕ) (ys : List ℕ) → AllByRecursion (λ y. nat_cmp x y ≡ Less) ys → AllByRecursion (λ y. suc x ≤ y) ys
all_less x [] h = tt
all_less x (y ∷ ys) h = (less_means x y h.0, all_less x ys h.1)

rises_of : (lo : ℕ) (xs : List ℕ) → AllByRecursion (λ y. lo ≤ y) xs → IsStrictlySortedBy nat_cmp xs → Rises lo xs
unfolding IsStrictlySortedBy
rises_of lo [] h s = tt
rises_of lo (x ∷ xs) h s = (h.0, rises_of (suc x) xs (all_less x xs s.0) s.1)

all_zero : (xs : List ℕ) → AllByRecursion (λ y. 0 ≤ y) xs
all_zero [] = tt
all_zero (x ∷ xs) = (omega arith, all_zero xs)

all_below : (n : ℕ) (xs : List ℕ) → AllByRecursion (λ y. y < 0 + n) (filter (λ x. nat_lt x n) xs)
all_below n [] = tt
all_below n (x ∷ xs) = here (nat_lt x n) refl (all_below n xs)
  where
    here : (t : Bool) → nat_lt x n ≡ t → AllByRecursion (λ y. y < 0 + n) (filter (λ x. nat_lt x n) xs)
        → AllByRecursion (λ y. y < 0 + n) (cond t (x ∷ filter (λ x. nat_lt x n) xs) (filter (λ x. nat_lt x n) xs))
    here true e h = (let lt = ltb-true x n e in omega (arith, lt), h)
    here false e h = h

swapped : (a b c : Bool) → a || (b || c) ≡ b || (a || c)
swapped true true c = refl
swapped true false c = refl
swapped false b c = refl

twice : (a b : Bool) → a || (a || b) ≡ a || b
twice true b = refl
twice false b = refl

has_dedup_from : (k : ℕ) (xs : List ℕ) (y : ℕ) → has (dedup_from nat_eq k xs) y ≡ has (k ∷ xs) y
has_dedup_from k [] y = refl
has_dedup_from k (x ∷ xs) y = here (nat_eq x k) refl (has_dedup_from k xs y) (has_dedup_from x xs y)
  where
    here : (t : Bool) → nat_eq x k ≡ t → has (dedup_from nat_eq k xs) y ≡ has (k ∷ xs) y
        → has (dedup_from nat_eq x xs) y ≡ has (x ∷ xs) y
        → has (cond t (dedup_from nat_eq k xs) (k ∷ dedup_from nat_eq x xs)) y ≡ has (k ∷ x ∷ xs) y
    here true e one other =
        let same : x ≡ k = eqb-true x k e in
        one
        ∙ (sym (twice (nat_eq y k) (has xs y))
        ∙ ap (λ z. nat_eq y k || (nat_eq y z || has xs y)) (sym same))
    here false e one other = ap (λ b. nat_eq y k || b) other

has_dedup : (xs : List ℕ) (y : ℕ) → has (dedup nat_eq xs) y ≡ has xs y
has_dedup [] y = refl
has_dedup (x ∷ xs) y = has_dedup_from x xs y

has_below : (n : ℕ) (xs : List ℕ) (y : ℕ) → y < n → has (filter (λ x. nat_lt x n) xs) y ≡ has xs y
has_below n [] y lt = refl
has_below n (x ∷ xs) y lt = here (nat_lt x n) refl (has_below n xs y lt)
  where
    here : (t : Bool) → nat_lt x n ≡ t → has (filter (λ x. nat_lt x n) xs) y ≡ has xs y
        → has (cond t (x ∷ filter (λ x. nat_lt x n) xs) (filter (λ x. nat_lt x n) xs)) y ≡ has (x ∷ xs) y
    here true e h = ap (λ b. nat_eq y x || b) h
    here false e h =
        let past = ltb-false x n e in
        let other : nat_eq y x ≡ false = ne_eqb y x (λ e. omega (arith, e, past)) in
        h ∙ sym (ap (λ b. b || has xs y) other)

-- what a sort, a `dedup` and a filter leave of a list is what it has below a number, in order
pub among_is : (n : ℕ) (wanted sorted : List ℕ) → IsPermutation wanted sorted → IsSorted nat_cmp sorted
    → filter (λ x. nat_lt x n) (dedup nat_eq sorted) ≡ among n wanted
among_is n wanted sorted same order =
    let ys : List ℕ = filter (λ x. nat_lt x n) (dedup nat_eq sorted) in
    let increasing = IsStrictlyIncreasing-filter (λ x. nat_lt x n) (dedup nat_eq sorted) (IsStrictlyIncreasing-dedup sorted order) in
    let rises = rises_of 0 ys (all_zero ys) (sorted_from_strictly_increasing ys increasing) in
    sym (only n 0 ys rises (all_below n (dedup nat_eq sorted)))
    ∙ filter_same (has ys) (has wanted) 0 n
    (λ y ge lt.
    has_below n (dedup nat_eq sorted) y (omega arith)
    ∙ (has_dedup sorted y ∙ sym (list_any-IsPermutation (nat_eq y) wanted sorted same)))
