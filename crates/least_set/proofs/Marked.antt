-- The places that are marked, in order.
use Rattle.std.proofs.Common.{◌≡◌, ℕ, suc, ◌+◌, ◌-◌, ◌<◌, ◌≤◌, inl, inr, Bool, true, false, List, [], ◌∷◌, length, get_or, refl, sym, ap, ◌∙◌, arith, eq-eqb, ne_eqb}
use Rattle.std.specs.Prelude.{nat_lt, ◌||◌}
use Rattle.std.proofs.lemmas.Bool.{cases_eq, lt-ltb}
use Rattle.least_set.specs.Least.{IsSet, all_below, has, rises}
use Rattle.least_set.specs.Search.{trues}
use Rattle.least_set.proofs.Has.{both}

low : (from : ℕ) (bs : List Bool) (y : ℕ) → y < from → has (trues from bs) y ≡ false
low from [] y h = refl
low from (true ∷ bs) y h =
    ap (λ b. b || has (trues (suc from) bs) y) (ne_eqb y from (λ e. omega (arith, e))) ∙ low (suc from) bs y (omega arith)
low from (false ∷ bs) y h = low (suc from) bs y (omega arith)

has_trues : (from : ℕ) (bs : List Bool) (y : ℕ) → from ≤ y → has (trues from bs) y ≡ get_or bs (y - from) false
has_trues from [] y h = refl
has_trues from (b ∷ bs) y h =
    elim (cases_eq y from) [
      | inl e ↦
          let z : y - from ≡ 0 = omega (arith, e) in
          first b e ∙ sym (ap (λ k. get_or (b ∷ bs) k false) z)
      | inr n ↦
          let z : y - from ≡ suc (y - suc from) = omega (arith, n) in
          past b n ∙ (has_trues (suc from) bs y (omega (arith, n)) ∙ sym (ap (λ k. get_or (b ∷ bs) k false) z))
    ]
  where
    first : (b : Bool) → y ≡ from → has (trues from (b ∷ bs)) y ≡ b
    first true e = ap (λ t. t || has (trues (suc from) bs) y) (eq-eqb y from e)
    first false e = low (suc from) bs y (omega (arith, e))

    past : (b : Bool) → (y ≡ from → ⊥) → has (trues from (b ∷ bs)) y ≡ has (trues (suc from) bs) y
    past true n = ap (λ t. t || has (trues (suc from) bs) y) (ne_eqb y from n)
    past false n = refl

pub has_marked : (marks : List Bool) (y : ℕ) → has (trues 0 marks) y ≡ get_or marks y false
has_marked marks y = let z : y - 0 ≡ y = omega arith in has_trues 0 marks y (omega arith) ∙ ap (λ k. get_or marks k false) z

rise_after : (x from : ℕ) (bs : List Bool) → x < from → rises (x ∷ trues from bs) ≡ true
rise_after x from [] h = refl
rise_after x from (true ∷ bs) h =
    both (nat_lt x from) (rises (from ∷ trues (suc from) bs)) (lt-ltb x from h) (rise_after from (suc from) bs (omega arith))
rise_after x from (false ∷ bs) h = rise_after x (suc from) bs (omega arith)

rise : (from : ℕ) (bs : List Bool) → rises (trues from bs) ≡ true
rise from [] = refl
rise from (true ∷ bs) = rise_after from (suc from) bs (omega arith)
rise from (false ∷ bs) = rise (suc from) bs

stay_below : (many from : ℕ) (bs : List Bool) → from + length bs ≤ many → all_below many (trues from bs) ≡ true
stay_below many from [] h = refl
stay_below many from (true ∷ bs) h =
    both (nat_lt from many) (all_below many (trues (suc from) bs)) (lt-ltb from many (omega arith)) (stay_below many (suc from) bs (omega arith))
stay_below many from (false ∷ bs) h = stay_below many (suc from) bs (omega arith)

pub is_set : (many : ℕ) (marks : List Bool) → length marks ≤ many → IsSet many (trues 0 marks)
is_set many marks h = record { in_order = rise 0 marks; below = stay_below many 0 marks (omega arith) }
