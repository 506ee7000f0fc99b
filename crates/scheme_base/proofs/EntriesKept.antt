-- What a store keeps after an operation.
use Rattle.std.proofs.Common.{◌≡◌, ℕ, zero, suc, ◌+◌, ◌<◌, List, [], ◌∷◌, ◌++◌, length, Option, Some, None, refl, ap, arith, length-append, length-set}
use Rattle.std.specs.Prelude.{slice_get, slice_set}
use Rattle.scheme_base.specs.Values.{Value, Content}
use Rattle.scheme_base.specs.Operations.{Outcome, Makes, Changes, Store, changed, list_contents}
use Rattle.scheme_base.specs.Laws.{KeepsEntries}

-- what is there stays when more comes
pub got_before : {A : Type 0} (xs more : List A) (n : ℕ) → n < length xs → slice_get (xs ++ more) n ≡ slice_get xs n
got_before [] more n within = absurd (omega (arith, within))
got_before (x ∷ xs) more zero within = refl
got_before (x ∷ xs) more (suc n) within = got_before xs more n (omega (arith, within))

-- what is set elsewhere is as before
pub got_beside : {A : Type 0} (xs : List A) (m n : ℕ) (x : A) → (m ≡ n → ⊥) → slice_get (slice_set xs m x) n ≡ slice_get xs n
got_beside [] m n x apart = refl
got_beside (y ∷ xs) zero zero x apart = absurd (apart refl)
got_beside (y ∷ xs) zero (suc n) x apart = refl
got_beside (y ∷ xs) (suc m) zero x apart = refl
got_beside (y ∷ xs) (suc m) (suc n) x apart = got_beside xs m n x (λ e. apart (ap suc e))

length_changed : {E : Type 0} (store : Store E) (es : List E) (m : ℕ) (c : Content) (o : Option E)
    → length (changed store es m c o) ≡ length es
length_changed store es m c None = refl
length_changed store es m c (Some e) = length-set es m (store.change c e)

changed_beside : {E : Type 0} (store : Store E) (es : List E) (m : ℕ) (c : Content) (o : Option E) (n : ℕ) → (m ≡ n → ⊥)
    → slice_get (changed store es m c o) n ≡ slice_get es n
changed_beside store es m c None n apart = refl
changed_beside store es m c (Some e) n apart = got_beside es m n (store.change c e) apart

pub keeps_entries : {E : Type 0} (store : Store E) (es : List E) (outcome : Outcome) → KeepsEntries store es outcome
keeps_entries store es (Makes c) =
    let long : length (es ++ store.enter c ∷ []) ≡ length es + 1 = length-append es (store.enter c ∷ []) in
    record {
      longer = omega (arith, long);
      by_one = omega (arith, long);
      others = λ n within spared. got_before es (store.enter c ∷ []) n within;
    }
keeps_entries store es (Changes m c) =
    let long = length_changed store es m c (slice_get es m) in
    record {
      longer = omega (arith, long);
      by_one = omega (arith, long);
      others = λ n within spared. changed_beside store es m c (slice_get es m) n spared;
    }
keeps_entries store es outcome =
    record { longer = omega arith; by_one = omega arith; others = λ n within spared. refl }

pub length-list_contents : (n : ℕ) (vs : List Value) → length (list_contents n vs) ≡ length vs
length-list_contents n [] = refl
length-list_contents n (v ∷ vs) = ap suc (length-list_contents (suc n) vs)
