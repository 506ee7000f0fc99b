-- Operands are looked at from left to right.
use Rattle.std.proofs.Common.{◌≡◌, ℕ, zero, suc, ◌+◌, ◌<◌, ◌≤◌, false, List, [], ◌∷◌, length, drop, get_or, map, refl, ap, ◌∙◌, arith}
use Rattle.std.specs.Prelude.{◌||◌}
use Rattle.std.proofs.lemmas.List.{drop_all}
use Rattle.flow_constraints.specs.declared.flow.Flow.{Flow}
use Rattle.flow_form.specs.declared.rows.Rows.{Rows}
use Rattle.scheme_base.specs.Operands as operand
use Rattle.plan_facts.specs.Represented.{any_refused, is_refused}
use Rattle.repr_choice.specs.declared.wanted.Wanted.{Wanted}
use Rattle.repr_choice.specs.Wanted.{kind_of}

looked_at : (f : Flow) (rows : Rows) (ws : List Wanted) (xs : List ℕ) (i : ℕ) (d : Wanted) → i < length ws → i < length xs
    → any_refused f rows (map kind_of (drop i ws)) (drop i xs)
    ≡ is_refused f rows (kind_of (get_or ws i d)) (get_or xs i 0) || any_refused f rows (map kind_of (drop (suc i) ws)) (drop (suc i) xs)
looked_at f rows [] xs i d h k = absurd (omega (arith, h))
looked_at f rows (w ∷ ws) [] i d h k = absurd (omega (arith, k))
looked_at f rows (w ∷ ws) (x ∷ xs) zero d h k = refl
looked_at f rows (w ∷ ws) (x ∷ xs) (suc i) d h k = looked_at f rows ws xs i d (omega (arith, h)) (omega (arith, k))

pub one_looked_at : (f : Flow) (rows : Rows) (ws : List Wanted) (xs : List ℕ) (i : ℕ) (d : Wanted) → i < length ws → i < length xs
    → any_refused f rows (map kind_of (drop i ws)) (drop i xs)
    ≡ is_refused f rows (kind_of (get_or ws i d)) (get_or xs i 0) || any_refused f rows (map kind_of (drop (i + 1) ws)) (drop (i + 1) xs)
one_looked_at f rows ws xs i d h k =
    let next : suc i ≡ i + 1 = omega arith in
    looked_at f rows ws xs i d h k
    ∙ ap (λ n. is_refused f rows (kind_of (get_or ws i d)) (get_or xs i 0) || any_refused f rows (map kind_of (drop n ws)) (drop n xs)) next

no_operands : (f : Flow) (rows : Rows) (ws : List operand.Kind) → any_refused f rows ws [] ≡ false
no_operands f rows [] = refl
no_operands f rows (w ∷ ws) = refl

pub past_operands : (f : Flow) (rows : Rows) (ws : List operand.Kind) (xs : List ℕ) (i : ℕ) → length xs ≤ i
    → any_refused f rows ws (drop i xs) ≡ false
past_operands f rows ws xs i h = ap (any_refused f rows ws) (drop_all i xs h) ∙ no_operands f rows ws

pub past_wanted : (f : Flow) (rows : Rows) (ws : List Wanted) (xs : List ℕ) (i : ℕ) → length ws ≤ i
    → any_refused f rows (map kind_of (drop i ws)) xs ≡ false
past_wanted f rows ws xs i h = ap (λ vs. any_refused f rows (map kind_of vs) xs) (drop_all i ws h)
