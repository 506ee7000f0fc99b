-- The list of operands that a value names: its items are found exactly where its pairs come to an end,
-- since a list that has more pairs than there are objects goes round.
use Rattle.std.proofs.Common.{◌≡◌, ℕ, zero, suc, ◌<◌, ◌≤◌, Bool, true, false, List, [], ◌∷◌, length, Option, Some, None, refl, sym, ap, subst, ◌∙◌, arith, ⊎_elim, eqb}
use Rattle.std.specs.Prelude.{◌||◌, ◌↔◌}
use Rattle.std.specs.Option.{option_map}
use Rattle.std.specs.List.{IsDistinct, list_any, AllByRecursion}
use Rattle.std.proofs.lemmas.Bool.{cases_lt}
use Rattle.std.proofs.lemmas.Option.{none-some, same_Some}
use Rattle.std.proofs.lemmas.Map.Steps.{length-le_from_distinct_below}
use Rattle.scheme_base.specs.Values.{Value, Object}
use Rattle.scheme_base.specs.Operations.{Sight, held, Link, Ended, Further, Broken, link_of, link_at, linked, listed, items_at, number_of}
use Rattle.scheme_base.specs.Laws.{IsList, Ends}

-- Items that are found are the list's

found_link : (s : Sight) (v : Value) (l : Link) (rest : Value → Option (List Value)) (vs : List Value) → link_at s v ≡ l
    → ((d : Value) (ws : List Value) → rest d ≡ Some ws → IsList s d ws) → linked l rest ≡ Some vs → IsList s v vs
found_link s v Ended rest vs e later h = subst (IsList s v) (same_Some [] vs h) e
found_link s v (Further a d) rest vs e later h = further (rest d) refl h where
  further : (o : Option (List Value)) → rest d ≡ o → option_map (λ ws. a ∷ ws) o ≡ Some vs → IsList s v vs
  further None k g = absurd (none-some vs g)
  further (Some ws) k g = subst (IsList s v) (same_Some (a ∷ ws) vs g) (d, e, later d ws k)
found_link s v Broken rest vs e later h = absurd (none-some vs h)

found : (n : ℕ) (s : Sight) (v : Value) (vs : List Value) → listed n s v ≡ Some vs → IsList s v vs
found zero s v vs h = found_link s v (link_at s v) (λ d. None) vs refl (λ d ws k. absurd (none-some ws k)) h
found (suc n) s v vs h = found_link s v (link_at s v) (listed n s) vs refl (λ d ws k. found n s d ws k) h

-- The items of a list are found where it has as few pairs

finds : (n : ℕ) (s : Sight) (v : Value) (vs : List Value) → IsList s v vs → length vs ≤ n → listed n s v ≡ Some vs
finds zero s v [] h few = ap (λ l. linked l (λ d. None)) h
finds (suc n) s v [] h few = ap (λ l. linked l (λ d. listed n s d)) h
finds zero s v (a ∷ vs) h few = absurd (omega (arith, few))
finds (suc n) s v (a ∷ vs) h few =
    ap (λ l. linked l (λ d. listed n s d)) h.1
    ∙ ap (option_map (λ ws. a ∷ ws)) (finds n s h.0 vs h.2 (omega (arith, few)))

-- A list has no more pairs than there are objects

ended_further : (a d : Value) → Ended ≡ Further a d → ⊥
ended_further a d e = cc

broken_further : (a d : Value) → Broken ≡ Further a d → ⊥
broken_further a d e = cc

same_cdr : (a b d e : Value) → Further a d ≡ Further b e → d ≡ e
same_cdr a b d e h = cc

same_length : (s : Sight) (v : Value) (vs ws : List Value) → IsList s v vs → IsList s v ws → length vs ≡ length ws
same_length s v [] [] h k = refl
same_length s v [] (b ∷ ws) h k = absurd (ended_further b k.0 (sym h ∙ k.1))
same_length s v (a ∷ vs) [] h k = absurd (ended_further a h.0 (sym k ∙ h.1))
same_length s v (a ∷ vs) (b ∷ ws) h k =
    let on : h.0 ≡ k.0 = same_cdr a b h.0 k.0 (sym h.1 ∙ k.1) in
    ap suc (same_length s h.0 vs ws h.2 (subst (λ d. IsList s d ws) (sym on) k.2))

is_object : (s : Sight) (v a d : Value) → link_at s v ≡ Further a d → v ≡ Object (number_of v)
is_object s (Object n) a d h = refl
is_object s v a d h = cc

is_within : (s : Sight) → Ends s → (n : ℕ) (a d : Value) → link_at s (Object n) ≡ Further a d → n < s.size
is_within s ends n a d h =
    ⊎_elim (λ (below : n < s.size). below)
    (λ (past : s.size ≤ n).
    absurd (broken_further a d (sym (ap (λ seen. link_of (held seen)) (ends n past)) ∙ h)))
    (cases_lt n s.size)

-- the numbers of a list's pairs
pairs : (s : Sight) (v : Value) (vs : List Value) → IsList s v vs → List ℕ
pairs s v [] h = []
pairs s v (a ∷ vs) h = number_of v ∷ pairs s h.0 vs h.2

length-pairs : (s : Sight) (v : Value) (vs : List Value) (h : IsList s v vs) → length (pairs s v vs h) ≡ length vs
unfolding pairs
length-pairs s v [] h = refl
length-pairs s v (a ∷ vs) h = ap suc (length-pairs s h.0 vs h.2)

-- a pair of a longer list is none of this list's
apart : (s : Sight) (v : Value) (vs : List Value) (h : IsList s v vs) (q : ℕ) (ws : List Value) → IsList s (Object q) ws
    → length vs < length ws → AllByRecursion (λ y. eqb q y ≡ false) (pairs s v vs h)
unfolding pairs
apart s v [] h q ws k longer = tt
apart s v (a ∷ vs) h q ws k longer =
    (differ (eqb q (number_of v)) refl, apart s h.0 vs h.2 q ws k (omega (arith, longer)))
  where
    differ : (b : Bool) → eqb q (number_of v) ≡ b → b ≡ false
    differ false e = refl
    differ true e =
        let same : q ≡ number_of v = grind (arith, e) in
        let one : v ≡ Object q = is_object s v a h.0 h.1 ∙ ap Object (sym same) in
        let long : length (a ∷ vs) ≡ length ws = same_length s (Object q) (a ∷ vs) ws (subst (λ u. IsList s u (a ∷ vs)) one h) k in
        absurd (omega (arith, longer, long))

distinct : (s : Sight) (v : Value) (vs : List Value) (h : IsList s v vs) → IsDistinct eqb (pairs s v vs h)
unfolding pairs IsDistinct
distinct s v [] h = tt
distinct s v (a ∷ vs) h = (
  apart s h.0 vs h.2 (number_of v) (a ∷ vs) (subst (λ u. IsList s u (a ∷ vs)) (is_object s v a h.0 h.1) h) (omega arith),
  distinct s h.0 vs h.2,
)

below : (s : Sight) → Ends s → (v : Value) (vs : List Value) (h : IsList s v vs) (q : ℕ)
    → list_any (eqb q) (pairs s v vs h) ≡ true → q < s.size
unfolding pairs
below s ends v [] h q e = cc
below s ends v (a ∷ vs) h q e = here (eqb q (number_of v)) refl (below s ends h.0 vs h.2 q) e where
  here : (b : Bool) → eqb q (number_of v) ≡ b
      → (list_any (eqb q) (pairs s h.0 vs h.2) ≡ true → q < s.size)
      → (b || list_any (eqb q) (pairs s h.0 vs h.2)) ≡ true → q < s.size
  here true same later k =
      let one : q ≡ number_of v = grind (arith, same) in
      is_within s ends q a h.0
      (subst (λ u. link_at s u ≡ Further a h.0) (is_object s v a h.0 h.1 ∙ ap Object (sym one)) h.1)
  here false same later k = later k

few_pairs : (s : Sight) → Ends s → (v : Value) (vs : List Value) → IsList s v vs → length vs ≤ s.size
few_pairs s ends v vs h =
    subst (λ n. n ≤ s.size) (length-pairs s v vs h)
    (length-le_from_distinct_below (pairs s v vs h) s.size (distinct s v vs h) (below s ends v vs h))

pub items_are_list : (s : Sight) (v : Value) (vs : List Value) → Ends s → (items_at s v ≡ Some vs) ↔ IsList s v vs
items_are_list s v vs ends =
    (λ h. found s.size s v vs h, λ h. finds s.size s v vs h (few_pairs s ends v vs h))
