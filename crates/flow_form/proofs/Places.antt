-- The bit of each place in the words is that of one pair, and so sets of pairs are sets of bits.
use Rattle.std.proofs.Common.{ℕ, List, length, ◌≡◌, ◌+◌, ◌*◌, ◌/◌, ◌%◌, ◌<◌, inl, inr, sym, ap, arith, subst, get_or, ◌⊎◌, ◌↔◌}
use Rattle.std.specs.Int.{bit_at}
use Rattle.std.proofs.lemmas.Bool.{cases_lt}
use Rattle.std.proofs.lemmas.Nat.{div-add-mod', div_below, mod_below}
use Rattle.bit_rows.specs.Members.{IsMember, IsSubset}
use Rattle.bit_rows.proofs.Members.{bit_of_member, member_of_bit, part_of_subset}
use Rattle.flow_form.specs.declared.constraints.Constraints.{Constraints}
use Rattle.flow_form.specs.Least.{Within}
use Rattle.flow_form.specs.Shape.{stride_of, size_of, In}
use Rattle.flow_form.proofs.Words.{no_bit_past}

pub pairs_of_bits :
    (c : Constraints) (words more : List ℕ)
    → ((at bit : ℕ) → bit < 64 → bit_at (get_or words at 0) bit ≡ 1 → bit_at (get_or more at 0) bit ≡ 1)
    → Within (In c words) (In c more)
pairs_of_bits c words more part row atom h =
    record {
      row_there = h.row_there;
      atom_there = h.atom_there;
      bit = part (row * stride_of c + atom / 64) (atom % 64) (omega arith) h.bit;
    }

stride_pos : (rows stride at : ℕ) → at < rows * stride → 0 < stride
stride_pos rows stride at h =
    elim (cases_lt 0 stride) [
      | inl some ↦ some
      | inr none ↦
          let e : stride ≡ 0 = omega arith in
          let z : rows * stride ≡ rows * 0 = ap (λ n. rows * n) e in
          absurd (omega arith)
    ]

pub bits_of_pairs :
    (c : Constraints) (words more : List ℕ) → length words ≡ size_of c → Within (In c words) (In c more)
    → (at bit : ℕ) → bit < 64 → bit_at (get_or words at 0) bit ≡ 1 → bit_at (get_or more at 0) bit ≡ 1
bits_of_pairs c words more size within at bit below set =
    elim (cases_lt at (length words)) [
      | inr past ↦ absurd (no_bit_past words at bit past set)
      | inl there ↦
          let stride : ℕ = stride_of c in
          let some : 0 < stride = stride_pos c.rows (stride_of c) at (omega arith) in
          let col : ℕ = at % stride in
          let row_there : at / stride < c.rows = div_below at (stride_of c) c.rows some (omega arith) in
          let col_there : at % stride < stride = mod_below at (stride_of c) some in
          let whole : at / stride * stride + at % stride ≡ at = div-add-mod' at (stride_of c) in
          let place : at / stride * stride + (64 * (at % stride) + bit) / 64 ≡ at = omega arith in
          let low : (64 * (at % stride) + bit) % 64 ≡ bit = omega arith in
          let At : ℕ → Type 0 = λ n. bit_at (get_or words n 0) bit ≡ 1 in
          let Low : ℕ → Type 0 = λ n. bit_at (get_or words (at / stride * stride + (64 * (at % stride) + bit) / 64) 0) n ≡ 1 in
          let To : ℕ → Type 0 = λ n. bit_at (get_or more n 0) bit ≡ 1 in
          let ToLow : ℕ → Type 0 = λ n. bit_at (get_or more (at / stride * stride + (64 * (at % stride) + bit) / 64) 0) n ≡ 1 in
          let h : In c words (at / stride) (64 * (at % stride) + bit) = record {
            row_there = row_there;
            atom_there = omega arith;
            bit = subst Low (sym low) (subst At (sym place) set);
          }
          in
          subst To place (subst ToLow low (within (at / stride) (64 * (at % stride) + bit) h).bit)
    ]

-- ---- words as sets of members
pub pairs_of_members :
    (c : Constraints) (words more : List ℕ) → IsSubset words more → Within (In c words) (In c more)
pairs_of_members c words more h = pairs_of_bits c words more (part_of_subset words more h)

pub members_of_pairs :
    (c : Constraints) (words more : List ℕ) → length words ≡ size_of c → Within (In c words) (In c more)
    → IsSubset words more
members_of_pairs c words more size h atom member =
    bits_of_pairs c words more size h (atom / 64) (atom % 64) (omega arith) member

-- the pairs of a union of members
pub pairs_of_union :
    (c : Constraints) (one other both : List ℕ)
    → ((atom : ℕ) → IsMember both atom ↔ (IsMember one atom ⊎ IsMember other atom))
    → (row atom : ℕ) → In c both row atom ↔ (In c one row atom ⊎ In c other row atom)
pairs_of_union c one other both union row atom =
    let place : ℕ = row * stride_of c + atom / 64 in
    let low : atom % 64 < 64 = omega arith in (
      (λ h. elim ((union (64 * place + atom % 64)).0 (member_of_bit both place (atom % 64) low h.bit)) [
        | inl x ↦
            inl record { row_there = h.row_there; atom_there = h.atom_there; bit = bit_of_member one place (atom % 64) low x }
        | inr y ↦
            inr record { row_there = h.row_there; atom_there = h.atom_there; bit = bit_of_member other place (atom % 64) low y }
      ]),
      (λ h. elim h [
        | inl x ↦ record {
          row_there = x.row_there;
          atom_there = x.atom_there;
          bit = bit_of_member both place (atom % 64) low
              ((union (64 * place + atom % 64)).1 (inl (member_of_bit one place (atom % 64) low x.bit)));
        }
        | inr y ↦ record {
          row_there = y.row_there;
          atom_there = y.atom_there;
          bit = bit_of_member both place (atom % 64) low
              ((union (64 * place + atom % 64)).1 (inr (member_of_bit other place (atom % 64) low y.bit)));
        }
      ]),
    )
