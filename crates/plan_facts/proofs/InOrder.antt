-- The numbers below a bound that pass a test, one after another.
use Rattle.std.proofs.Common.{◌≡◌, ℕ, suc, ◌+◌, ◌-◌, ◌<◌, Bool, true, false, List, [], ◌∷◌, ◌++◌, sym, ap, ◌∙◌, arith, append_assoc}
use Rattle.std.specs.Prelude.{if◌then◌else◌}
use Rattle.std.specs.List.{filter}
use Rattle.named_form.specs.Valid.{numbers_from}

next_one : (P : ℕ → Bool) (at many : ℕ) → (b : Bool)
    → (if b then at ∷ filter P (numbers_from (suc at) many) else filter P (numbers_from (suc at) many))
    ≡ (if b then at ∷ [] else []) ++ filter P (numbers_from (at + 1) many)
next_one P at many true = let e : suc at ≡ at + 1 = omega arith in ap (λ n. at ∷ filter P (numbers_from n many)) e
next_one P at many false = let e : suc at ≡ at + 1 = omega arith in ap (λ n. filter P (numbers_from n many)) e

pub one_on : (P : ℕ → Bool) (at most : ℕ) (old new whole : List ℕ) → at < most → new ≡ old ++ (if P at then at ∷ [] else [])
    → old ++ filter P (numbers_from at (most - at)) ≡ whole → new ++ filter P (numbers_from (at + 1) (most - (at + 1))) ≡ whole
one_on P at most old new whole below puts was =
    let left : most - at ≡ suc (most - (at + 1)) = omega arith in
    let rest = filter P (numbers_from (at + 1) (most - (at + 1))) in
    ap (λ xs. xs ++ rest) puts
    ∙ (append_assoc old (if P at then at ∷ [] else []) rest
    ∙ (ap (λ xs. old ++ xs) (sym (next_one P at (most - (at + 1)) (P at)))
    ∙ (ap (λ n. old ++ filter P (numbers_from at n)) (sym left) ∙ was)))
