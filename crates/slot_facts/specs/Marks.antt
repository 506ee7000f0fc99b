-- Marks of numbers below a bound.
use Rattle.std.specs.Prelude.{ℕ, ◌≡◌, ◌<◌, List, Bool, false, length, slice_index_or}
use Rattle.least_set.specs.Least.{has}

abbrev pub is_marked : List Bool → ℕ → Bool
is_marked marks x = slice_index_or marks x false

-- the marks tell which numbers below this one a list has
pub record MarksOf (many : ℕ) (numbers : List ℕ) (marks : List Bool) : Type 0 where
  pub long : length marks ≡ many
  pub same : (x : ℕ) → x < many → is_marked marks x ≡ has numbers x
