-- Digits whose value is held back at a bound show the same number, or that there is none in range.
use Rattle.std.proofs.Common.{◌≡◌, ℕ, zero, suc, ◌+◌, ◌*◌, ◌<◌, ◌≤◌, Bool, true, false, List, [], ◌∷◌, Some, None, refl, sym, ap, ◌∙◌, arith, cond, ◌⊎◌, inl, inr}
use Rattle.std.specs.Prelude.{nat_lt}
use Rattle.std.specs.Option.{option_map}
use Rattle.datum_form.specs.Words.{digit, digits_after}
use Rattle.datum_reader.specs.Numbers.{bounded}

at_least : (n k : ℕ) → n ≤ n * suc k
at_least n zero = omega arith
at_least n (suc k) = omega (arith, at_least n k)

not_less : (n radix : ℕ) → 0 < radix → n ≤ n * radix
not_less n zero h = absurd (omega arith)
not_less n (suc k) h = at_least n k

same_or_beyond : (n m : ℕ) → bounded n ≡ bounded m → (n ≡ m) ⊎ (2305843009213693953 ≤ n) × (2305843009213693953 ≤ m)
same_or_beyond n m h = grind arith

beyond : (n : ℕ) → 2305843009213693953 ≤ n → bounded n ≡ 2305843009213693953
beyond n h = grind arith

-- one digit more
with_digit : (radix n m d : ℕ) → 0 < radix → bounded n ≡ bounded m → bounded (n * radix + d) ≡ bounded (m * radix + d)
with_digit radix n m d some h =
    elim (same_or_beyond n m h) [
      | inl e ↦ ap (λ k. bounded (k * radix + d)) e
      | inr far ↦
          beyond (n * radix + d) (omega (arith, not_less n radix some, far.0))
          ∙ sym (beyond (m * radix + d) (omega (arith, not_less m radix some, far.1)))
    ]

digits_bounded : (radix n m : ℕ) (bytes : List ℕ) → 0 < radix → bounded n ≡ bounded m
    → option_map bounded (digits_after radix n bytes) ≡ option_map bounded (digits_after radix m bytes)
digits_bounded radix n m [] some h = ap (λ k. Some k) h
digits_bounded radix n m (b ∷ bytes) some h =
    at (nat_lt (digit b) radix)
    (digits_bounded radix (n * radix + digit b) (m * radix + digit b) bytes some (with_digit radix n m (digit b) some h))
  where
    at : (more : Bool)
        → option_map bounded (digits_after radix (n * radix + digit b) bytes)
        ≡ option_map bounded (digits_after radix (m * radix + digit b) bytes)
        → option_map bounded (cond more (digits_after radix (n * radix + digit b) bytes) None)
        ≡ option_map bounded (cond more (digits_after radix (m * radix + digit b) bytes) None)
    at true same = same
    at false same = refl

test_less : (d radix : ℕ) → d < radix → nat_lt d radix ≡ true
test_less d radix h = grind arith

bounded_twice : (n : ℕ) → bounded (bounded n) ≡ bounded n
bounded_twice n = grind arith

pub one_digit : (radix value next b : ℕ) (others rest : List ℕ) → rest ≡ b ∷ others → 0 < radix → digit b < radix
    → next ≡ bounded (value * radix + digit b)
    → option_map bounded (digits_after radix next others) ≡ option_map bounded (digits_after radix value rest)
one_digit radix value next b others rest whole some less is =
    let sum : ℕ = value * radix + digit b in
    digits_bounded radix next sum others some (ap bounded is ∙ bounded_twice sum)
    ∙ (ap (λ more. option_map bounded (cond more (digits_after radix sum others) None))
    (sym (test_less (digit b) radix less))
    ∙ ap (λ text. option_map bounded (digits_after radix value text)) (sym whole))
