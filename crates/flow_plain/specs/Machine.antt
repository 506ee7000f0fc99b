-- A race as it is kept: its parts are those of a state of the race machine, and all have the size of the
-- constraints.
use Rattle.std.specs.Prelude.{ℕ, List, Some, ◌≡◌, length, map, slice_get}
use Rattle.flow_form.specs.declared.constraints.Constraints.{Constraints}
use Rattle.flow_form.specs.declared.event.Worker.{Worker}
use Rattle.flow_form.specs.Race.{State}
use Rattle.flow_form.specs.Shape.{done_size_of, size_of}

-- the state of the race machine that has these parts: no worker of a race is ever gone
abbrev pub state_of : Constraints → (base words : List ℕ) → (claims : ℕ) → List Worker → State
state_of c base words claims seats =
    record { constraints = c; base = base; words = words; claims = claims; workers = map (λ worker. Some worker) seats }

pub record IsSizedWorker (c : Constraints) (worker : Worker) : Type 0 where
  pub loaded : length worker.loaded ≡ size_of c
  pub grown : length worker.grown ≡ size_of c
  pub done : length worker.done ≡ done_size_of c

pub record IsSized (c : Constraints) (base words : List ℕ) (seats : List Worker) : Type 0 where
  pub base_size : length base ≡ size_of c
  pub words_size : length words ≡ size_of c
  pub seats_sized : (k : ℕ) (worker : Worker) → slice_get seats k ≡ Some worker → IsSizedWorker c worker
