use Rattle.std.proofs.Common.{ℕ, ◌+◌, ◌*◌, ◌<◌, ◌≤◌}
use Rattle.bit_rows.specs.Members.{IsMember}
use Rattle.bit_rows.proofs.next_member.Given as goal

-- no member has been passed, and the next place to look at is not below `from`
abbrev pub invariant-loop-at : goal.invariant-loop-at
invariant-loop-at l =
    (l.skipped < 64)
    × (l.from ≤ 64 * l.at + l.skipped)
    × ((k : ℕ) → l.from ≤ k → k < 64 * l.at + l.skipped → ¬ IsMember l.row k)
