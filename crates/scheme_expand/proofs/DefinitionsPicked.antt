-- The definitions that are picked by increasing numbers are those that are chosen.
use Rattle.std.proofs.Common.{◌≡◌, ℕ, ◌+◌, ◌<◌, ◌≤◌, List, [], ◌∷◌, ◌++◌, length, take, get_or, refl, sym, ap, subst}
use Rattle.std.specs.Prelude.{slice_get, Some}
use Rattle.std.proofs.lemmas.List.{take_more}
use Rattle.draft_form.proofs.LiteralsAdded.{taken_all}
use Rattle.scheme_expand.specs.Assembled.{ArePicked}

pub picked_behind : (k : ℕ) (all numbers forms : List ℕ) (n form : ℕ) → ArePicked k all numbers forms → ArePicked k all (n ∷ []) (form ∷ [])
    → ArePicked k all (numbers ++ n ∷ []) (forms ++ form ∷ [])
picked_behind k all [] forms n form h one =
    let P : List ℕ → Type 0 = λ fs. ArePicked k all (n ∷ []) (fs ++ form ∷ []) in subst P (sym h) one
picked_behind k all (m ∷ numbers) forms n form h one = (
  h.0,
  h.1,
  h.2 ++ form ∷ [],
  h.3,
  h.4,
  ap (λ fs. fs ++ form ∷ []) h.5,
  picked_behind k all numbers h.2 n form h.6 one,
)

pub picked_more : (k : ℕ) (all numbers forms later : List ℕ) (i form : ℕ) → i < length numbers → ArePicked k all (take i numbers) forms
    → ArePicked k all (get_or numbers i 0 ∷ []) (form ∷ []) → later ≡ forms ++ form ∷ [] → ArePicked k all (take (i + 1) numbers) later
picked_more k all numbers forms later i form within h one pushed =
    let P : List ℕ → Type 0 = λ ns. ArePicked k all ns later in
    let Q : List ℕ → Type 0 = λ fs. ArePicked k all (take i numbers ++ get_or numbers i 0 ∷ []) fs in
    subst P (sym (take_more numbers i 0 within))
    (subst Q (sym pushed) (picked_behind k all (take i numbers) forms (get_or numbers i 0) form h one))

pub all_picked : (k : ℕ) (all numbers forms : List ℕ) (i : ℕ) → length numbers ≤ i → ArePicked k all (take i numbers) forms
    → ArePicked k all numbers forms
all_picked k all numbers forms i past h =
    let P : List ℕ → Type 0 = λ ns. ArePicked k all ns forms in subst P (taken_all numbers i past) h

pub one_picked : (all : List ℕ) (number index form : ℕ) → number ≡ 1 + index → slice_get all index ≡ Some form
    → ArePicked 1 all (number ∷ []) (form ∷ [])
one_picked all number index form e got = (index, form, [], e, got, refl, refl)
