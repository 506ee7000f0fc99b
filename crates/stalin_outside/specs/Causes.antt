-- When a count of faults tells that a call has failed.
use Rattle.std.specs.Prelude.{ℕ, ◌+◌, ◌-◌, ◌^◌, ◌≤◌, min}

-- The count rose in a call. It stays at 2^64 - 1 once it is there, and then counts as risen in every call.
abbrev pub Rose : (before now : ℕ) → Type 0
Rose before now = min (before + 1) (2 ^ 64 - 1) ≤ now

-- the count never falls, and a call has failed only where it rose
pub record HasCause (before now : ℕ) (failed : Type 0) : Type 0 where
  pub later : before ≤ now
  pub rose : failed → Rose before now
