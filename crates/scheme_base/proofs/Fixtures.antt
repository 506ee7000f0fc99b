-- Environments of computed runs, and what is seen of a run after some steps.
use Rattle.std.proofs.Common.{ℕ, List, [], ◌∷◌, Option, Some, None}
use Rattle.scheme_base.specs.declared.env.Env.{Env}
use Rattle.scheme_base.specs.declared.pos.Pos.{Pos}
use Rattle.scheme_base.specs.Outside.{written}
use Rattle.scheme_base.specs.Runs.{Machine, after}
use Rattle.scheme_base.specs.Stops.{Stop}

abbrev pub at : (line col : ℕ) → Pos
at line col = record { line = line; col = col }

-- no input, and no call fails
abbrev pub quiet : Env
quiet = record { input = []; failing = []; err_failing = [] }

-- an input of one x
abbrev pub one_x : Env
one_x = record { input = Some 120 ∷ []; failing = []; err_failing = [] }

abbrev pub first_fails : Env
first_fails = record { input = Some 120 ∷ []; failing = 1 ∷ []; err_failing = [] }

abbrev pub end_then_x : Env
end_then_x = record { input = None ∷ Some 120 ∷ []; failing = []; err_failing = [] }

-- what a run has written, and how it has stopped
pub record Seen : Type 0 where
  pub written : List ℕ
  pub stop : Option Stop

-- what is seen of a run after so many steps
abbrev pub seen_after : {S : Type 0} → Machine S → (stop : S → Option Stop) → ℕ → S → Seen
seen_after machine stop steps s =
    let t = after machine steps s in record { written = written (machine.trace t); stop = stop t }

abbrev pub stops : List ℕ → Stop → Seen
stops bytes stop = record { written = bytes; stop = Some stop }
