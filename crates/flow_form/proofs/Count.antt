-- The number of pairs in words: a larger set has no fewer, and a larger set with no more is the same.
use Rattle.std.proofs.Common.{ℕ, zero, suc, List, [], ◌∷◌, length, ◌≡◌, ◌*◌, ◌<◌, ◌≤◌, inl, inr, sym, arith, subst, get_or}
use Rattle.std.specs.Int.{bit_at}
use Rattle.std.proofs.lemmas.Bool.{cases_eq, cases_lt}
use Rattle.std.proofs.lemmas.Nat.Bits.{bit_at-lt}
use Rattle.flow_form.specs.declared.constraints.Constraints.{Constraints}
use Rattle.flow_form.specs.Least.{Within}
use Rattle.flow_form.specs.Shape.{size_of, In, bits_below, pairs_in}
use Rattle.flow_form.proofs.Places.{bits_of_pairs, pairs_of_bits}

-- ---- one word
bits_more :
    (a b k : ℕ) → ((bit : ℕ) → bit < k → bit_at a bit ≡ 1 → bit_at b bit ≡ 1) → bits_below a k ≤ bits_below b k
bits_more a b zero part = omega arith
bits_more a b (suc k) part =
    let less : bits_below a k ≤ bits_below b k = bits_more a b k (λ bit below set. part bit (omega arith) set) in
    let la : bit_at a k < 2 = bit_at-lt a k in
    elim (cases_eq (bit_at a k) 1) [
      | inl set ↦ let same : bit_at b k ≡ 1 = part k (omega arith) set in omega arith
      | inr clear ↦ omega arith
    ]

top_le :
    (a b k : ℕ) → ((bit : ℕ) → bit < suc k → bit_at a bit ≡ 1 → bit_at b bit ≡ 1) → bit_at a k ≤ bit_at b k
top_le a b k part =
    let la : bit_at a k < 2 = bit_at-lt a k in
    elim (cases_eq (bit_at a k) 1) [
      | inl set ↦ let same : bit_at b k ≡ 1 = part k (omega arith) set in omega arith
      | inr clear ↦ omega arith
    ]

bits_same :
    (a b k : ℕ) → ((bit : ℕ) → bit < k → bit_at a bit ≡ 1 → bit_at b bit ≡ 1) → bits_below b k ≤ bits_below a k
    → (bit : ℕ) → bit < k → bit_at b bit ≡ 1 → bit_at a bit ≡ 1
bits_same a b zero part few bit below set = absurd (omega arith)
bits_same a b (suc k) part few bit below set =
    let less : bits_below a k ≤ bits_below b k = bits_more a b k (λ i i_below i_set. part i (omega arith) i_set) in
    let la : bit_at a k < 2 = bit_at-lt a k in
    let lb : bit_at b k < 2 = bit_at-lt b k in
    let top : bit_at a k ≤ bit_at b k = top_le a b k part in
    elim (cases_eq bit k) [
      | inl same ↦
          let At : ℕ → Type 0 = λ i. bit_at b i ≡ 1 in
          let Of : ℕ → Type 0 = λ i. bit_at a i ≡ 1 in
          let set_top : bit_at b k ≡ 1 = subst At same set in
          let here : bit_at a k ≡ 1 = omega arith in
          subst Of (sym same) here
      | inr apart ↦
          bits_same a b k (λ i i_below i_set. part i (omega arith) i_set) (omega arith) bit (omega arith) set
    ]

bits_few : (word k : ℕ) → bits_below word k ≤ k
bits_few word zero = omega arith
bits_few word (suc k) =
    let less : bits_below word k ≤ k = bits_few word k in
    let l : bit_at word k < 2 = bit_at-lt word k in
    omega arith

-- ---- lists of words
pub pairs_more :
    (words more : List ℕ) → length words ≡ length more
    → ((at bit : ℕ) → bit < 64 → bit_at (get_or words at 0) bit ≡ 1 → bit_at (get_or more at 0) bit ≡ 1)
    → pairs_in words ≤ pairs_in more
unfolding pairs_in
pairs_more [] more same part = omega arith
pairs_more (word ∷ words) [] same part = absurd (omega arith)
pairs_more (word ∷ words) (other ∷ more) same part =
    let here : bits_below word 64 ≤ bits_below other 64 = bits_more word other 64 (part 0) in
    let rest : pairs_in words ≤ pairs_in more = pairs_more words more (omega arith) (λ at. part (suc at)) in
    omega arith

pub pairs_same :
    (words more : List ℕ) → length words ≡ length more
    → ((at bit : ℕ) → bit < 64 → bit_at (get_or words at 0) bit ≡ 1 → bit_at (get_or more at 0) bit ≡ 1)
    → pairs_in more ≤ pairs_in words
    → (at bit : ℕ) → bit < 64 → bit_at (get_or more at 0) bit ≡ 1 → bit_at (get_or words at 0) bit ≡ 1
unfolding pairs_in
pairs_same [] [] same part few at bit below set = set
pairs_same [] (other ∷ more) same part few at bit below set = absurd (omega arith)
pairs_same (word ∷ words) [] same part few at bit below set = absurd (omega arith)
pairs_same (word ∷ words) (other ∷ more) same part few zero bit below set =
    let here : bits_below word 64 ≤ bits_below other 64 = bits_more word other 64 (part 0) in
    let rest : pairs_in words ≤ pairs_in more = pairs_more words more (omega arith) (λ i. part (suc i)) in
    bits_same word other 64 (part 0) (omega arith) bit below set
pairs_same (word ∷ words) (other ∷ more) same part few (suc at) bit below set =
    let here : bits_below word 64 ≤ bits_below other 64 = bits_more word other 64 (part 0) in
    let rest : pairs_in words ≤ pairs_in more = pairs_more words more (omega arith) (λ i. part (suc i)) in
    pairs_same words more (omega arith) (λ i. part (suc i)) (omega arith) at bit below set

pub pairs_few : (words : List ℕ) → pairs_in words ≤ 64 * length words
unfolding pairs_in
pairs_few [] = omega arith
pairs_few (word ∷ words) =
    let here : bits_below word 64 ≤ 64 = bits_few word 64 in
    let rest : pairs_in words ≤ 64 * length words = pairs_few words in
    omega arith

-- ---- sets of pairs
pub pairs_grow :
    (c : Constraints) (words more : List ℕ) → length words ≡ size_of c → length more ≡ size_of c
    → Within (In c words) (In c more) → ¬ Within (In c more) (In c words) → pairs_in words < pairs_in more
pairs_grow c words more size_words size_more within not_within =
    let same : length words ≡ length more = omega arith in
    let part = bits_of_pairs c words more size_words within in
    elim (cases_lt (pairs_in words) (pairs_in more)) [
      | inl grown ↦ grown
      | inr few ↦
          absurd (not_within (pairs_of_bits c more words (pairs_same words more same part few)))
    ]
