-- Which words hold the rows of constraints, and the set of pairs that such words are.
use Rattle.std.specs.Prelude.{ℕ, zero, suc, List, [], ◌∷◌, ◌≡◌, ◌+◌, ◌*◌, ◌/◌, ◌%◌, ◌<◌, length, slice_index}
use Rattle.std.specs.Int.{bit_at}
use Rattle.flow_form.specs.declared.constraints.Constraints.{Constraints}
use Rattle.flow_form.specs.declared.rows.Rows.{Rows}
use Rattle.flow_form.specs.declared.rule.Rule.{Rule}
use Rattle.flow_form.specs.Least.{SameSet, Least}
use Rattle.flow_form.specs.Valid.{words_of_row}

-- constraints of these rows, atoms and rules
pub record IsMadeOf (c : Constraints) (rows atoms : ℕ) (rules : List Rule) : Type 0 where
  pub same_rows : c.rows ≡ rows
  pub same_atoms : c.atoms ≡ atoms
  pub same_rules : c.rules ≡ rules

-- the words of one row
abbrev pub stride_of : Constraints → ℕ
stride_of c = words_of_row c.atoms

-- the words of all rows
abbrev pub size_of : Constraints → ℕ
size_of c = c.rows * stride_of c

-- the blocks of the rules
abbrev pub blocks_of : Constraints → ℕ
blocks_of c = (length c.rules + 1023) / 1024

-- the words that have a bit for each block
abbrev pub done_size_of : Constraints → ℕ
done_size_of c = (blocks_of c + 63) / 64

-- the set of pairs whose bit is set: atom `a` of row `r` is bit `a % 64` of word `r * stride + a / 64`
pub record In (c : Constraints) (words : List ℕ) (row atom : ℕ) : Type 0 where
  pub row_there : row < c.rows
  pub atom_there : atom < 64 * stride_of c
  pub bit : bit_at (slice_index words (row * stride_of c + atom / 64)) (atom % 64) ≡ 1

-- rows that have the shape of the constraints: their own stride and length, and no bit past the last atom
pub record HasShape (c : Constraints) (rows : Rows) : Type 0 where
  pub stride : rows.stride ≡ stride_of c
  pub size : length rows.words ≡ size_of c
  pub atoms : (row atom : ℕ) → In c rows.words row atom → atom < c.atoms

-- rows of that shape that hold the least solution
pub record HoldsLeast (c : Constraints) (rows : Rows) : Type 0 where
  pub shape : HasShape c rows
  pub exact : SameSet (In c rows.words) (Least c.rules)

-- the number of bits that are set among the lowest of a word
abbrev pub bits_below : ℕ → ℕ → ℕ
bits_below word zero = 0
bits_below word (suc k) = bit_at word k + bits_below word k

-- the number of pairs in a set that words hold
unfoldable pub pairs_in : List ℕ → ℕ
pairs_in [] = 0
pairs_in (word ∷ words) = bits_below word 64 + pairs_in words
