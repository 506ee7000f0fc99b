-- Words in which bits are set, as sets of bits and as sets of pairs.
use Rattle.std.proofs.Common.{ℕ, zero, suc, List, [], ◌∷◌, length, replicate, ◌≡◌, ◌+◌, ◌*◌, ◌/◌, ◌%◌, ◌^◌, ◌<◌, ◌≤◌, ◌⊎◌, inl, inr, refl, sym, ◌∙◌, ap, arith, subst, get_or, bit_or, get_or-set_other, get_or-set_same, length-set}
use Rattle.std.specs.Int.Bits.{or_zero_r}
use Rattle.std.specs.Int.{bit_at}
use Rattle.std.proofs.lemmas.Bool.{cases_eq, cases_lt}
use Rattle.std.proofs.lemmas.List.{get_or_past, get_or-replicate, length-replicate}
use Rattle.std.proofs.lemmas.Nat.Bits.{bit_at-zero, bit_at-pow_other}
use Rattle.bit_rows.specs.Members.{IsMember}
use Rattle.bit_rows.proofs.Words.{bit_of_or}
use Rattle.flow_form.specs.declared.constraints.Constraints.{Constraints}
use Rattle.flow_form.specs.Least.{Within}
use Rattle.flow_form.specs.Race.{with_bits, or_words}
use Rattle.flow_form.specs.Shape.{stride_of, In}

-- ---- one bit of one word: bit `b` of word `p`, where a mask is set in word `i`

-- a word past the end has no bit
pub no_bit_past : (words : List ℕ) (p b : ℕ) → length words ≤ p → bit_at (get_or words p 0) b ≡ 1 → ⊥
no_bit_past words p b past h =
    let z : bit_at (get_or words p 0) b ≡ 0 = ap (λ n. bit_at n b) (get_or_past words p 0 past) ∙ bit_at-zero b in
    omega arith

pub bit_more :
    (words : List ℕ) (i m p b : ℕ) → bit_at (get_or (with_bits words i m) p 0) b ≡ 1
    → (bit_at (get_or words p 0) b ≡ 1) ⊎ ((p ≡ i) × (bit_at m b ≡ 1))
bit_more words i m p b h =
    let Bit : ℕ → Type 0 = λ n. bit_at n b ≡ 1 in
    elim (cases_eq p i) [
      | inr apart ↦ inl (subst Bit (get_or-set_other words i p (bit_or (get_or words i 0) m) 0 apart) h)
      | inl same ↦
          elim (cases_lt p (length words)) [
            | inr past ↦
                let len : length (with_bits words i m) ≡ length words = length-set words i (bit_or (get_or words i 0) m) in
                absurd (no_bit_past (with_bits words i m) p b (omega arith) h)
            | inl below ↦
                let At : ℕ → Type 0 = λ n. bit_at (get_or (with_bits words i m) n 0) b ≡ 1 in
                let word = get_or-set_same words i (bit_or (get_or words i 0) m) 0 (omega arith) in
                elim ((bit_of_or (get_or words i 0) m b).0 (subst Bit word (subst At same h))) [
                  | inl old ↦ let Old : ℕ → Type 0 = λ n. bit_at (get_or words n 0) b ≡ 1 in inl (subst Old (sym same) old)
                  | inr new ↦ inr (same, new)
                ]
          ]
    ]

pub bit_kept :
    (words : List ℕ) (i m p b : ℕ) → bit_at (get_or words p 0) b ≡ 1
    → bit_at (get_or (with_bits words i m) p 0) b ≡ 1
bit_kept words i m p b h =
    let Bit : ℕ → Type 0 = λ n. bit_at n b ≡ 1 in
    elim (cases_eq p i) [
      | inr apart ↦ subst Bit (sym (get_or-set_other words i p (bit_or (get_or words i 0) m) 0 apart)) h
      | inl same ↦
          elim (cases_lt p (length words)) [
            | inr past ↦ absurd (no_bit_past words p b past h)
            | inl below ↦
                let word = get_or-set_same words i (bit_or (get_or words i 0) m) 0 (omega arith) in
                let At : ℕ → Type 0 = λ n. bit_at (get_or (with_bits words i m) n 0) b ≡ 1 in
                let Old : ℕ → Type 0 = λ n. bit_at (get_or words n 0) b ≡ 1 in
                subst At (sym same)
                (subst Bit (sym word) ((bit_of_or (get_or words i 0) m b).1 (inl (subst Old same h))))
          ]
    ]

pub bit_new :
    (words : List ℕ) (i m p b : ℕ) → i < length words → p ≡ i → bit_at m b ≡ 1
    → bit_at (get_or (with_bits words i m) p 0) b ≡ 1
bit_new words i m p b there same h =
    let Bit : ℕ → Type 0 = λ n. bit_at n b ≡ 1 in
    let At : ℕ → Type 0 = λ n. bit_at (get_or (with_bits words i m) n 0) b ≡ 1 in
    let word = get_or-set_same words i (bit_or (get_or words i 0) m) 0 there in
    subst At (sym same) (subst Bit (sym word) ((bit_of_or (get_or words i 0) m b).1 (inr h)))

-- ---- words of no bit
pub zeros_at : (n p : ℕ) → ◌≡◌ {A = ℕ} (get_or (replicate n 0) p 0) 0
zeros_at n p =
    elim (cases_lt p n) [
      | inl below ↦ get_or-replicate n p 0 0 below
      | inr past ↦
          let zeros : List ℕ = replicate n 0 in
          let len : length zeros ≡ n = length-replicate n 0 in
          get_or_past zeros p 0 (omega arith)
    ]

pub no_bit_of_zeros : (n p b : ℕ) → bit_at (get_or (replicate n 0) p 0) b ≡ 1 → ⊥
no_bit_of_zeros n p b h =
    let z : bit_at (get_or (replicate n 0) p 0) b ≡ 0 = ap (λ k. bit_at k b) (zeros_at n p) ∙ bit_at-zero b in
    omega arith

-- ---- words of two lists together
pub or_words_at : (words more : List ℕ) (p : ℕ) → get_or (or_words words more) p 0 ≡ bit_or (get_or words p 0) (get_or more p 0)
or_words_at [] more p = refl
or_words_at (word ∷ words) [] p = sym (or_zero_r (get_or (word ∷ words) p 0))
or_words_at (word ∷ words) (other ∷ more) zero = refl
or_words_at (word ∷ words) (other ∷ more) (suc p) = or_words_at words more p

-- ---- pairs
pub in_more :
    (c : Constraints) (words : List ℕ) (i m row atom : ℕ) → In c (with_bits words i m) row atom
    → In c words row atom ⊎ ((row * stride_of c + atom / 64 ≡ i) × (bit_at m (atom % 64) ≡ 1))
in_more c words i m row atom h =
    elim (bit_more words i m (row * stride_of c + atom / 64) (atom % 64) h.bit) [
      | inl old ↦ inl record { row_there = h.row_there; atom_there = h.atom_there; bit = old }
      | inr new ↦ inr new
    ]

pub in_kept : (c : Constraints) (words : List ℕ) (i m : ℕ) → Within (In c words) (In c (with_bits words i m))
in_kept c words i m row atom h =
    record {
      row_there = h.row_there;
      atom_there = h.atom_there;
      bit = bit_kept words i m (row * stride_of c + atom / 64) (atom % 64) h.bit;
    }

pub in_new :
    (c : Constraints) (words : List ℕ) (i m row atom : ℕ) → i < length words → row < c.rows → atom < 64 * stride_of c
    → row * stride_of c + atom / 64 ≡ i → bit_at m (atom % 64) ≡ 1 → In c (with_bits words i m) row atom
in_new c words i m row atom there row_there atom_there place h =
    record {
      row_there = row_there;
      atom_there = atom_there;
      bit = bit_new words i m (row * stride_of c + atom / 64) (atom % 64) there place h;
    }

pub in_zeros : (c : Constraints) (n row atom : ℕ) → In c (replicate n 0) row atom → ⊥
in_zeros c n row atom h = no_bit_of_zeros n (row * stride_of c + atom / 64) (atom % 64) h.bit

pub in_either :
    (c : Constraints) (words more : List ℕ) (row atom : ℕ) → In c (or_words words more) row atom
    → In c words row atom ⊎ In c more row atom
in_either c words more row atom h =
    let p : ℕ = row * stride_of c + atom / 64 in
    let Bit : ℕ → Type 0 = λ n. bit_at n (atom % 64) ≡ 1 in
    elim ((bit_of_or (get_or words p 0) (get_or more p 0) (atom % 64)).0 (subst Bit (or_words_at words more p) h.bit)) [
      | inl one ↦ inl record { row_there = h.row_there; atom_there = h.atom_there; bit = one }
      | inr other ↦ inr record { row_there = h.row_there; atom_there = h.atom_there; bit = other }
    ]

-- ---- members
pub member_either :
    (words more : List ℕ) (k : ℕ) → IsMember (or_words words more) k → IsMember words k ⊎ IsMember more k
member_either words more k h =
    let Bit : ℕ → Type 0 = λ n. bit_at n (k % 64) ≡ 1 in
    (bit_of_or (get_or words (k / 64) 0) (get_or more (k / 64) 0) (k % 64)).0
    (subst Bit (or_words_at words more (k / 64)) h)

-- a member of a set to which one number was added is that number or was one before
pub member_more :
    (words : List ℕ) (added k : ℕ) → IsMember (with_bits words (added / 64) (2 ^ (added % 64))) k
    → IsMember words k ⊎ (k ≡ added)
member_more words added k h =
    elim (bit_more words (added / 64) (2 ^ (added % 64)) (k / 64) (k % 64) h) [
      | inl old ↦ inl old
      | inr new ↦
          elim (cases_eq (k % 64) (added % 64)) [
            | inl same ↦ let word : k / 64 ≡ added / 64 = new.0 in inr (omega arith)
            | inr apart ↦
                let z : bit_at (2 ^ (added % 64)) (k % 64) ≡ 0 = bit_at-pow_other (added % 64) (k % 64) apart in
                let o : bit_at (2 ^ (added % 64)) (k % 64) ≡ 1 = new.1 in
                absurd (omega arith)
          ]
    ]
