-- How far the closure's work has come: which definitions are marked, and which of them still wait to be looked at.
use Rattle.std.specs.Prelude.{ℕ, suc, ◌+◌, ◌≡◌, ◌≤◌, ◌⊎◌, List, [], ◌∷◌, length, slice_index_or, Bool, true, false}
use Rattle.prelude_text.specs.Closure.{In, Reached}

-- definition k is marked
abbrev pub IsMarked : List Bool → ℕ → Type 0
IsMarked marked k = (i : ℕ) × (k ≡ suc i) × (slice_index_or marked i false ≡ true)

-- how many are not marked
abbrev pub unmarked : List Bool → ℕ
unmarked [] = 0
unmarked (true ∷ marked) = unmarked marked
unmarked (false ∷ marked) = suc (unmarked marked)

-- these were marked, and what was not marked before waits now
pub record Marks (ids : List ℕ) (before after : List Bool) (waited waiting : List ℕ) : Type 0 where
  pub same : length after ≡ length before
  pub kept : (k : ℕ) → IsMarked before k → IsMarked after k
  pub marked : (k : ℕ) → In k ids → IsMarked after k
  pub came : (k : ℕ) → IsMarked after k → IsMarked before k ⊎ In k ids
  pub waits : (k : ℕ) → In k waited → In k waiting
  pub new : (k : ℕ) → IsMarked after k → IsMarked before k ⊎ In k waiting
  pub from : (k : ℕ) → In k waiting → In k waited ⊎ In k ids
  pub less : unmarked after + length waiting ≤ unmarked before + length waited
