-- The calls of an object in memory, of which listed ones fail.
use Rattle.std.specs.Prelude.{ℕ, ◌+◌, ◌-◌, ◌^◌, min, Bool, true, false}
use Rattle.scheme_base.specs.Outside.{lists}
use Rattle.stalin_outside.specs.declared.calls.Calls.{Calls}

-- one more, but no more than 2^64 - 1
abbrev pub raised : ℕ → ℕ
raised count = min (count + 1) (2 ^ 64 - 1)

-- whether the next call is listed as failing
abbrev pub next_fails : Calls → Bool
next_fails calls = lists calls.failing (raised calls.made)

-- after a call that failed, or did not
abbrev pub after_call : (failed : Bool) → Calls → Calls
after_call true calls = record calls { made = raised calls.made; failed = raised calls.failed }
after_call false calls = record calls { made = raised calls.made }
