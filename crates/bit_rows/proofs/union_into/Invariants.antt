use Rattle.std.proofs.Common.{◌≡◌, ℕ, ◌<◌, ◌≤◌, bit_or, get_or}
use Rattle.bit_rows.proofs.union_into.Given as goal

-- the words below `at` have taken their part, and the others are as they were
abbrev pub invariant-loop-at : goal.invariant-loop-at
invariant-loop-at l =
    ((k : ℕ) → k < l.at → get_or l.to k 0 ≡ bit_or (get_or l.initial.to k 0) (get_or l.from k 0))
    × ((k : ℕ) → l.at ≤ k → get_or l.to k 0 ≡ get_or l.initial.to k 0)
