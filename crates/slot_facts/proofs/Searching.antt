-- What a search answers in a list whose numbers do not fall.
use Rattle.std.proofs.Common.{◌≡◌, ℕ, ◌<◌, ◌≤◌, inl, inr, Bool, true, false, List, ◌++◌, length, drop, get_or, refl, sym, ap, ◌∙◌, arith, append-nil}
use Rattle.std.specs.Prelude.{Result, Ok, Err}
use Rattle.std.specs.Result.{is_ok}
use Rattle.std.specs.List.{filter}
use Rattle.std.specs.List.Sorted.{IsBinarySearchResult, IsNonDecreasingBy, IsPermutation}
use Rattle.std.specs.Ordering.{nat_cmp}
use Rattle.std.proofs.lemmas.Bool.{cases_lt}
use Rattle.std.proofs.lemmas.List.{drop_all}
use Rattle.std.proofs.lemmas.List.Elements.{filter_agree}
use Rattle.std.proofs.lemmas.List.Sorted.{list_any-IsPermutation, searched}
use Rattle.std.specs.Prelude.{nat_eq}
use Rattle.least_set.specs.Least.{has}
use Rattle.least_set.proofs.Has.{has_at, place_of}

pub found_is : (xs : List ℕ) (x : ℕ) (r : Result ℕ ℕ) → IsNonDecreasingBy (λ y. y) xs → IsBinarySearchResult (λ y. nat_cmp y x) xs r
    → is_ok r ≡ has xs x
found_is xs x (Ok i) order h =
    let at = searched xs x (Ok i) h (λ j k low high. order j k 0 low high) in
    sym (has_at xs i x at.0 at.1)
found_is xs x (Err i) order h =
    let past = searched xs x (Err i) h (λ j k low high. order j k 0 low high) in
    by_test (has xs x) refl past.1 past.2
  where
    by_test : (b : Bool) → has xs x ≡ b → ((k : ℕ) → k < i → get_or xs k 0 < x) → ((k : ℕ) → i ≤ k → k < length xs → x < get_or xs k 0) → false ≡ b
    by_test false e low high = refl
    by_test true e low high =
        let p = place_of xs x e in
        let is = p.is in
        absurd
        (elim (cases_lt p.at i) [
          | inl less ↦ let below = low p.at less in omega (arith, is, below)
          | inr more ↦ let above = high p.at more p.within in omega (arith, is, above)
        ])

-- all numbers have been looked for in what is sorted
pub all_common : (vars found sorted wanted : List ℕ) (i : ℕ) → length vars ≤ i → IsPermutation wanted sorted
    → found ++ filter (has sorted) (drop i vars) ≡ filter (has sorted) vars → found ≡ filter (has wanted) vars
all_common vars found sorted wanted i done moved was =
    sym (append-nil found)
    ∙ (ap (λ xs. found ++ filter (has sorted) xs) (sym (drop_all i vars done))
    ∙ (was
    ∙ filter_agree (has sorted) (has wanted) (λ x. sym (list_any-IsPermutation (nat_eq x) wanted sorted moved)) vars))
