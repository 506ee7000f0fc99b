-- Looking for an atom of a row other than a given one, word by word.
use Rattle.std.proofs.Common.{ℕ, ◌≡◌, ◌≢◌, ◌+◌, ◌*◌, ◌/◌, ◌%◌, ◌^◌, ◌<◌, ◌≤◌, ◌↔◌, inl, inr, sym, ◌∙◌, ap, arith, subst, bit_and, w64}
use Rattle.std.specs.Int.{bit_at, bit_not, trailing_zeros}
use Rattle.std.proofs.lemmas.Bool.{cases_eq, cases_lt}
use Rattle.std.proofs.lemmas.Nat.Bits.{bit_at-trailing_zeros, bit_at-zero, bit_at_clear_other, bit_at_clear_same}
use Rattle.flow_form.specs.declared.constraints.Constraints.{Constraints}
use Rattle.flow_form.specs.Least.{Pairs}
use Rattle.flow_form.specs.Race.{MaskWithin}
use Rattle.flow_form.specs.Shape.{In, stride_of}
use Rattle.type_table.specs.SharedWords.{HasPairs}
use Rattle.type_table.specs.Tables.{Held, Opened}
use Rattle.flow_workers.specs.PassSteps.{Steps}

-- the bits of word `at` of a row, but that of an atom
abbrev pub AreOthers : (word at atom others : ℕ) → Type 0
AreOthers word at atom others =
    (bit : ℕ) → bit < 64 → (bit_at others bit ≡ 1) ↔ ((64 * at + bit ≢ atom) × (bit_at word bit ≡ 1))

pub others_cleared :
    (word at atom : ℕ) → at ≡ atom / 64
    → AreOthers word at atom (bit_and word (bit_not w64 (1 * 2 ^ (atom % 64) % 2 ^ 64)))
others_cleared word at atom here bit below =
    let small : atom % 64 < 64 = omega arith in
    elim (cases_eq bit (atom % 64)) [
      | inl same ↦
          let clear = bit_at_clear_same w64 word (atom % 64) small in
          let At : ℕ → Type 0 = λ n. bit_at (bit_and word (bit_not w64 (1 * 2 ^ (atom % 64) % 2 ^ 64))) n ≡ 0 in
          let none = subst At (sym same) clear in (
            (λ h. absurd (omega (arith, h, none))),
            (λ h. absurd (h.0 (omega arith))),
          )
      | inr apart ↦
          let kept = bit_at_clear_other w64 word (atom % 64) small bit below apart in (
            (λ h. ((λ e. apart (omega arith)), sym kept ∙ h)),
            (λ h. kept ∙ h.1),
          )
    ]

-- some other atom is there where some such bit is set
pub other_found :
    (c : Constraints) (S : Pairs) (row at atom word others : ℕ) → row < c.rows → at < stride_of c
    → others < 2 ^ 64 → 0 < others → AreOthers word at atom others
    → MaskWithin c (row * stride_of c + at) word S → (other : ℕ) × (other ≢ atom) × S row other
other_found c S row at atom word others row_there at_there fits some exact within =
    let lowest = bit_at-trailing_zeros w64 others some fits in
    let bit : ℕ = trailing_zeros w64 others in
    let below : trailing_zeros w64 others < 64 = lowest.0 in
    let set = (exact (trailing_zeros w64 others) below).0 lowest.1 in
    let low : (64 * at + bit) % 64 ≡ bit = omega arith in
    let high : (64 * at + bit) / 64 ≡ at = omega arith in
    let place : row * stride_of c + (64 * at + bit) / 64 ≡ row * stride_of c + at = ap (λ n. row * stride_of c + n) high in
    let Bit : ℕ → Type 0 = λ n. bit_at word n ≡ 1 in
    (64 * at + bit, set.0, within row (64 * at + bit) row_there (omega arith) place (subst Bit (sym low) set.1))

-- no other atom of a set is in the words of the row below one
abbrev pub NoneBelow : (S : Pairs) (row atom at : ℕ) → Type 0
NoneBelow S row atom at = (other : ℕ) → other ≢ atom → S row other → at ≤ other / 64

pub none_more :
    (c : Constraints) (S : Pairs) (row at atom word others : ℕ)
    → ((other : ℕ) → S row other → other < 64 * stride_of c)
    → others ≡ 0 → AreOthers word at atom others
    → HasPairs c (row * stride_of c + at) word S → NoneBelow S row atom at → NoneBelow S row atom (at + 1)
none_more c S row at atom word others there none exact has so_far other apart h =
    elim (cases_lt at (other / 64)) [
      | inl past ↦ omega arith
      | inr near ↦
          let not_before : at ≤ other / 64 = so_far other apart h in
          let here : other / 64 ≡ at = omega arith in
          let place : row * stride_of c + other / 64 ≡ row * stride_of c + at = ap (λ n. row * stride_of c + n) here in
          let low : other % 64 < 64 = omega arith in
          let set = has row other h place in
          let is : bit_at others (other % 64) ≡ 1 = (exact (other % 64) low).1 ((λ e. apart (omega arith)), set) in
          let Zero : ℕ → Type 0 = λ n. bit_at n (other % 64) ≡ 0 in
          let zero : bit_at others (other % 64) ≡ 0 = subst Zero (sym none) (bit_at-zero (other % 64)) in
          absurd (omega arith)
    ]

-- what the search keeps
pub record Searches (c : Constraints) (table : Opened) (before pass : Held) (row atom at : ℕ) : Type 0 where
  pub steps : Steps c table before pass
  pub none : NoneBelow (In c table.base) row atom at
