-- What the words of rows say of their members.
use Rattle.std.proofs.Common.{ℕ, List, length, ◌≡◌, ◌+◌, ◌*◌, ◌/◌, ◌%◌, ◌^◌, ◌<◌, ◌≤◌, ◌⊎◌, ◌↔◌, inl, inr, sym, ◌∙◌, ap, arith, subst, get_or, bit_or, slice_set, w64, get_or-set_other, get_or-set_same}
use Rattle.std.specs.Int.{bit_at}
use Rattle.std.proofs.lemmas.Bool.{cases_eq, cases_lt}
use Rattle.std.proofs.lemmas.List.{get_or_past}
use Rattle.std.proofs.lemmas.Nat.Bits.{bit_at-zero, bit_at_set_other, bit_at_set_same}
use Rattle.bit_rows.specs.Members.{IsMember, IsSubset}
use Rattle.bit_rows.proofs.Words.{bit_of_or}

-- a number past the last word is no member
pub no_member_past : (row : List ℕ) (atom : ℕ) → length row ≤ atom / 64 → ¬ IsMember row atom
no_member_past row atom past h =
    let z : bit_at (get_or row (atom / 64) 0) (atom % 64) ≡ 0 =
    ap (λ n. bit_at n (atom % 64)) (get_or_past row (atom / 64) 0 past) ∙ bit_at-zero (atom % 64) in
    omega arith

-- a row whose words are the unions of the words of two rows has the members of both
pub union_members :
    (old more new : List ℕ) → length old ≡ length more
    → ((k : ℕ) → k < length old → get_or new k 0 ≡ bit_or (get_or old k 0) (get_or more k 0))
    → ((k : ℕ) → length old ≤ k → get_or new k 0 ≡ get_or old k 0)
    → (atom : ℕ) → IsMember new atom ↔ (IsMember old atom ⊎ IsMember more atom)
union_members old more new same here past atom =
    let P : ℕ → Type 0 = λ n. bit_at n (atom % 64) ≡ 1 in
    elim (cases_lt (atom / 64) (length old)) [
      | inl below ↦
          let bits = bit_of_or (get_or old (atom / 64) 0) (get_or more (atom / 64) 0) (atom % 64) in
          let word = here (atom / 64) below in
          ((λ h. bits.0 (subst P word h)), (λ h. subst P (sym word) (bits.1 h)))
      | inr above ↦
          let word = past (atom / 64) above in (
            (λ h. inl (subst P word h)),
            (λ h. elim h [
              | inl x ↦ subst P (sym word) x
              | inr y ↦ absurd (no_member_past more atom (omega arith) y)
            ]),
          )
    ]

-- the place of a bit among the members
pub member_of_bit : (row : List ℕ) (at bit : ℕ) → bit < 64 → bit_at (get_or row at 0) bit ≡ 1 → IsMember row (64 * at + bit)
member_of_bit row at bit below h =
    let q : (64 * at + bit) / 64 ≡ at = omega arith in
    let m : (64 * at + bit) % 64 ≡ bit = omega arith in
    let P : ℕ → Type 0 = λ n. bit_at (get_or row n 0) ((64 * at + bit) % 64) ≡ 1 in
    let Q : ℕ → Type 0 = λ n. bit_at (get_or row at 0) n ≡ 1 in
    subst P (sym q) (subst Q (sym m) h)

pub bit_of_member : (row : List ℕ) (at bit : ℕ) → bit < 64 → IsMember row (64 * at + bit) → bit_at (get_or row at 0) bit ≡ 1
bit_of_member row at bit below h =
    let q : (64 * at + bit) / 64 ≡ at = omega arith in
    let m : (64 * at + bit) % 64 ≡ bit = omega arith in
    let P : ℕ → Type 0 = λ n. bit_at (get_or row n 0) ((64 * at + bit) % 64) ≡ 1 in
    let Q : ℕ → Type 0 = λ n. bit_at (get_or row at 0) n ≡ 1 in
    subst Q m (subst P q h)

-- a subset has no bit at a place where the other row has none
pub part_of_subset :
    (one other : List ℕ) → IsSubset one other
    → (at bit : ℕ) → bit < 64 → bit_at (get_or one at 0) bit ≡ 1 → bit_at (get_or other at 0) bit ≡ 1
part_of_subset one other h at bit below set =
    bit_of_member other at bit below (h (64 * at + bit) (member_of_bit one at bit below set))

-- a row in whose word one bit was set has one member more
pub inserted_members :
    (row : List ℕ) (atom : ℕ) → atom < 64 * length row
    → (k : ℕ)
    → IsMember (slice_set row (atom / 64) (bit_or (get_or row (atom / 64) 0) (1 * 2 ^ (atom % 64) % 2 ^ 64))) k
    ↔ (IsMember row k ⊎ (k ≡ atom))
inserted_members row atom there k =
    let word : ℕ = bit_or (get_or row (atom / 64) 0) (1 * 2 ^ (atom % 64) % 2 ^ 64) in
    let small : atom % 64 < 64 = omega arith in
    let in_row : atom / 64 < length row = omega arith in
    let Bit : ℕ → Type 0 = λ n. bit_at n (k % 64) ≡ 1 in
    elim (cases_eq (k / 64) (atom / 64)) [
      | inr apart ↦
          let other = get_or-set_other row (atom / 64) (k / 64) word 0 apart in (
            (λ h. inl (subst Bit other h)),
            (λ h. elim h [
              | inl x ↦ subst Bit (sym other) x
              | inr same ↦ absurd (apart (ap (λ n. n / 64) same))
            ]),
          )
      | inl here ↦
          let At : ℕ → Type 0 = λ n. bit_at (get_or (slice_set row (atom / 64) word) n 0) (k % 64) ≡ 1 in
          let Old : ℕ → Type 0 = λ n. bit_at (get_or row n 0) (k % 64) ≡ 1 in
          let set = get_or-set_same row (atom / 64) word 0 in_row in
          elim (cases_eq (k % 64) (atom % 64)) [
            | inl low ↦
                let same : k ≡ atom = omega arith in
                let Low : ℕ → Type 0 = λ n. bit_at word n ≡ 1 in (
                  (λ h. inr same),
                  (λ h.
                      subst At (sym here)
                      (subst Bit (sym set)
                      (subst Low (sym low) (bit_at_set_same w64 (get_or row (atom / 64) 0) (atom % 64) small)))),
                )
            | inr apart ↦
                let kept = bit_at_set_other w64 (get_or row (atom / 64) 0) (atom % 64) small (k % 64) apart in (
                  (λ h. inl (subst Old (sym here) (sym kept ∙ subst Bit set (subst At here h)))),
                  (λ h. elim h [
                    | inl x ↦ subst At (sym here) (subst Bit (sym set) (kept ∙ subst Old here x))
                    | inr same ↦ absurd (apart (ap (λ n. n % 64) same))
                  ]),
                )
          ]
    ]
