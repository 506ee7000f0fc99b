-- What the bits of one word say: a union of words, a word within another, and the lowest bit.
use Rattle.std.proofs.Common.{ℕ, ◌≡◌, ◌+◌, ◌-◌, ◌/◌, ◌%◌, ◌^◌, ◌<◌, ◌≤◌, ◌⊎◌, ◌↔◌, inl, inr, sym, ◌∙◌, ap, arith, subst, min, max}
use Rattle.std.specs.Int.{bit_at, bit_not, w64, trailing_zeros}
use Rattle.std.specs.Int.Bits.{bit_and, bit_or}
use Rattle.std.proofs.lemmas.Bool.{cases_eq, cases_lt}
use Rattle.std.proofs.lemmas.Nat.{shr-shr, and_le_l, shr_le}
use Rattle.std.proofs.lemmas.Nat.Bits.{bit_at-lt, bit_at-zero, bit_at_and, bit_at_or, bit_at_above, bit_at_not, bit_at-trailing_zeros}
use Rattle.bit_rows.specs.Members.{IsLowestBit}

-- a bit of a union is one of either word
pub bit_of_or : (a b bit : ℕ) → (bit_at (bit_or a b) bit ≡ 1) ↔ ((bit_at a bit ≡ 1) ⊎ (bit_at b bit ≡ 1))
bit_of_or a b bit =
    let e : bit_at (bit_or a b) bit ≡ max (bit_at a bit) (bit_at b bit) = bit_at_or a b bit in
    let la : bit_at a bit < 2 = bit_at-lt a bit in
    let lb : bit_at b bit < 2 = bit_at-lt b bit in (
      (λ h. elim (cases_eq (bit_at a bit) 1) [ inl x ↦ inl x | inr x ↦ inr (omega arith) ]),
      (λ h. elim h [ inl x ↦ omega arith | inr y ↦ omega arith ]),
    )

-- a word without a bit outside another is within it
pub part_from_zero :
    (a b : ℕ) → b < 2 ^ 64 → bit_and a (bit_not w64 b) ≡ 0
    → (bit : ℕ) → bit < 64 → bit_at a bit ≡ 1 → bit_at b bit ≡ 1
part_from_zero a b fits h bit below set =
    let e : bit_at (bit_and a (bit_not w64 b)) bit ≡ min (bit_at a bit) (bit_at (bit_not w64 b) bit) = bit_at_and a (bit_not w64 b) bit in
    let z : bit_at (bit_and a (bit_not w64 b)) bit ≡ 0 = ap (λ n. bit_at n bit) h ∙ bit_at-zero bit in
    let n : bit_at (bit_not w64 b) bit ≡ 1 - bit_at b bit = bit_at_not w64 b bit fits below in
    let lb : bit_at b bit < 2 = bit_at-lt b bit in
    omega arith

-- a word that is within another has no bit outside it
pub zero_from_part :
    (a b : ℕ) → a < 2 ^ 64 → b < 2 ^ 64 → ((bit : ℕ) → bit < 64 → bit_at a bit ≡ 1 → bit_at b bit ≡ 1)
    → bit_and a (bit_not w64 b) ≡ 0
zero_from_part a b fits_a fits_b part =
    elim (cases_lt 0 (bit_and a (bit_not w64 b))) [
      | inr h ↦ omega arith
      | inl h ↦
          let le : bit_and a (bit_not w64 b) ≤ a = and_le_l a (bit_not w64 b) in
          let t = bit_at-trailing_zeros w64 (bit_and a (bit_not w64 b)) h (omega arith) in
          let bit : ℕ = trailing_zeros w64 (bit_and a (bit_not w64 b)) in
          let e : bit_at (bit_and a (bit_not w64 b)) bit ≡ min (bit_at a bit) (bit_at (bit_not w64 b) bit) = bit_at_and a (bit_not w64 b) bit in
          let s : bit_at (bit_and a (bit_not w64 b)) bit ≡ 1 = t.1 in
          let n : bit_at (bit_not w64 b) bit ≡ 1 - bit_at b bit = bit_at_not w64 b bit fits_b t.0 in
          let la : bit_at a bit < 2 = bit_at-lt a bit in
          let sa : bit_at a bit ≡ 1 = omega arith in
          let sb : bit_at b bit ≡ 1 = part bit t.0 sa in
          omega arith
    ]

-- a bit of a word that is shifted to the right
pub bit_of_shifted : (word from k : ℕ) → bit_at (word / 2 ^ from) k ≡ bit_at word (from + k)
bit_of_shifted word from k = ap (λ n. n % 2) (shr-shr word from k)

pub none_from_zero :
    (word from : ℕ) → word / 2 ^ from ≡ 0 → (bit : ℕ) → from ≤ bit → bit_at word bit ≡ 0
none_from_zero word from h bit above =
    let e : bit_at (word / 2 ^ from) (bit - from) ≡ bit_at word (from + (bit - from)) = bit_of_shifted word from (bit - from) in
    let z : bit_at (word / 2 ^ from) (bit - from) ≡ 0 = ap (λ n. bit_at n (bit - from)) h ∙ bit_at-zero (bit - from) in
    let k : from + (bit - from) ≡ bit = omega arith in
    let P : ℕ → Type 0 = λ n. bit_at word n ≡ 0 in
    subst P k (sym e ∙ z)

pub lowest_from_shifted :
    (word from : ℕ) → word < 2 ^ 64 → from < 64 → 0 < word / 2 ^ from
    → IsLowestBit word from (from + trailing_zeros w64 (word / 2 ^ from))
lowest_from_shifted word from fits small h =
    let rest : ℕ = word / 2 ^ from in
    let le : rest ≤ word = shr_le word from in
    let t = bit_at-trailing_zeros w64 (word / 2 ^ from) h (omega arith) in
    let low : ℕ = trailing_zeros w64 (word / 2 ^ from) in
    let s : bit_at word (from + low) ≡ 1 = sym (bit_of_shifted word from low) ∙ t.1 in
    record {
      set = s;
      fits = elim (cases_lt (from + low) 64) [
        | inl below ↦ below
        | inr above ↦ let z : bit_at word (from + low) ≡ 0 = bit_at_above word 64 (from + low) fits above in absurd (omega arith)
      ];
      not_below = omega arith;
      lowest = λ k above below.
          let e : bit_at (word / 2 ^ from) (k - from) ≡ bit_at word (from + (k - from)) = bit_of_shifted word from (k - from) in
          let z : bit_at (word / 2 ^ from) (k - from) ≡ 0 = t.2 (k - from) (omega arith) in
          let same : from + (k - from) ≡ k = omega arith in
          let P : ℕ → Type 0 = λ n. bit_at word n ≡ 0 in
          subst P same (sym e ∙ z);
    }
