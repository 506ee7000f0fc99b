use Rattle.std.proofs.Common.{◌≡◌, ℕ, ◌<◌, get_or}
use Rattle.std.specs.Int.{bit_at}
use Rattle.bit_rows.proofs.within.Given as goal

-- each word below `at` is within its fellow
abbrev pub invariant-loop-at : goal.invariant-loop-at
invariant-loop-at l =
    (k : ℕ) → k < l.at → (bit : ℕ) → bit < 64 → bit_at (get_or l.a k 0) bit ≡ 1 → bit_at (get_or l.b k 0) bit ≡ 1
