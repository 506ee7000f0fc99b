-- What is told of numbers one after another.
use Rattle.std.proofs.Common.{◌≡◌, ℕ, zero, suc, ◌+◌, ◌-◌, ◌<◌, List, [], ◌∷◌, ◌++◌, length, Some, map, refl, sym, ap, ◌∙◌, subst, arith, append_assoc}
use Rattle.std.specs.Prelude.{slice_get}
use Rattle.std.specs.List.{flat_map}
use Rattle.std.proofs.lemmas.List.{length-map}
use Rattle.named_form.specs.Valid.{numbers_from}
use Rattle.named_form.proofs.Kept.{length_numbers}

pub one_more : {X : Type 0} (g : ℕ → X) (at most : ℕ) (old new whole : List X) → at < most → new ≡ old ++ g at ∷ []
    → old ++ map g (numbers_from at (most - at)) ≡ whole → new ++ map g (numbers_from (at + 1) (most - (at + 1))) ≡ whole
one_more g at most old new whole below puts was =
    let left : most - at ≡ suc (most - (at + 1)) = omega arith in
    let next : suc at ≡ at + 1 = omega arith in
    let rest = map g (numbers_from (at + 1) (most - (at + 1))) in
    ap (λ xs. xs ++ rest) puts
    ∙ (append_assoc old (g at ∷ []) rest
    ∙ (ap (λ n. old ++ g at ∷ map g (numbers_from n (most - (at + 1)))) (sym next)
    ∙ (ap (λ n. old ++ map g (numbers_from at n)) (sym left) ∙ was)))

pub told_at : {X : Type 0} (g : ℕ → X) (from many x : ℕ) → x < many → slice_get (map g (numbers_from from many)) x ≡ Some (g (from + x))
told_at g from zero x below = absurd (omega (arith, below))
told_at g from (suc many) zero below = let same : from ≡ from + 0 = omega arith in ap (λ n. Some (g n)) same
told_at g from (suc many) (suc x) below =
    let next : suc from + x ≡ from + suc x = omega arith in
    told_at g (suc from) many x (omega (arith, below)) ∙ ap (λ n. Some (g n)) next

pub told_many : {X : Type 0} (g : ℕ → X) (many : ℕ) → length (map g (numbers_from 0 many)) ≡ many
told_many g many = length-map (numbers_from 0 many) g ∙ length_numbers 0 many

-- the same where a number gives a list
pub one_listed : {X : Type 0} (g : ℕ → List X) (at most : ℕ) (old new whole : List X) → at < most → new ≡ old ++ g at
    → old ++ flat_map g (numbers_from at (most - at)) ≡ whole → new ++ flat_map g (numbers_from (at + 1) (most - (at + 1))) ≡ whole
one_listed g at most old new whole below puts was =
    let left : most - at ≡ suc (most - (at + 1)) = omega arith in
    let next : suc at ≡ at + 1 = omega arith in
    let rest = flat_map g (numbers_from (at + 1) (most - (at + 1))) in
    ap (λ xs. xs ++ rest) puts
    ∙ (append_assoc old (g at) rest
    ∙ (ap (λ n. old ++ (g at ++ flat_map g (numbers_from n (most - (at + 1))))) (sym next)
    ∙ (ap (λ n. old ++ flat_map g (numbers_from at n)) (sym left) ∙ was)))
