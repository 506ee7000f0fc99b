-- Rows of bits as sets of numbers.
--
-- A row is a list of words of 64 bits. Its members are the numbers whose bit is set: number `a` is bit
-- `a % 64` of word `a / 64`, and a number past the last word is no member.
use Rattle.std.specs.Prelude.{ℕ, List, ◌≡◌, ◌/◌, ◌%◌, ◌<◌, ◌≤◌, slice_index}
use Rattle.std.specs.Int.{bit_at}

abbrev pub IsMember : List ℕ → ℕ → Type 0
IsMember row atom = bit_at (slice_index row (atom / 64)) (atom % 64) ≡ 1

-- each member of the one row is one of the other
abbrev pub IsSubset : List ℕ → List ℕ → Type 0
IsSubset one other = (atom : ℕ) → IsMember one atom → IsMember other atom

-- the least member of a row that is not below a number
pub record IsNextMember (row : List ℕ) (from atom : ℕ) : Type 0 where
  pub member : IsMember row atom
  pub not_below : from ≤ atom
  pub least : (k : ℕ) → from ≤ k → k < atom → ¬ IsMember row k

-- the lowest bit of a word that is set and not below a number
pub record IsLowestBit (word from bit : ℕ) : Type 0 where
  pub set : bit_at word bit ≡ 1
  pub fits : bit < 64
  pub not_below : from ≤ bit
  pub lowest : (k : ℕ) → from ≤ k → k < bit → bit_at word k ≡ 0
