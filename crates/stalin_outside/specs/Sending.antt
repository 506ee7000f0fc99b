-- Writing a text to the output or to the errors, up to the first call that fails.
use Rattle.std.specs.Prelude.{ℕ, ◌≡◌, ◌<◌, List, ◌∷◌, ◌++◌, length, take, map, reverse, Bool, true, false, Option}
use Rattle.std.specs.List.{flat_map}
use Rattle.std.specs.Option.{option_map}
use Rattle.std.specs.Borrow.{Bor}
use Rattle.stalin_outside.specs.declared.console.Answer.{Answer}
use Rattle.stalin_outside.specs.declared.console.Answer.TheVariants as answers
use Rattle.stalin_outside.specs.Causes.{HasCause}
use Rattle.stalin_outside.specs.Console.{Told, AddsAll}

-- the parts of a text, one after another
abbrev pub joined : List (Bor (List ℕ)) → List ℕ
joined parts = flat_map (λ part. part.now) parts

-- what a console tells of one of its channels for writing
pub record Outlet : Type 0 where
  pub bytes : Option (List ℕ)
  pub answers : Option (List Answer)
  pub faults : ℕ

abbrev pub output_of : Told → Outlet
output_of told = record { bytes = told.output; answers = told.answers; faults = told.faults }

abbrev pub errors_of : Told → Outlet
errors_of told = record { bytes = told.errors; answers = told.err_answers; faults = told.err_faults }

-- the bytes of a text that were taken: all of them, or those before the one at which a call failed
abbrev pub IsTaken : (text taken : List ℕ) (whole : Bool) → Type 0
IsTaken text taken true = taken ≡ text
IsTaken text taken false = (k : ℕ) × (k < length text) × (taken ≡ take k text)

-- the answers of the calls, the newest first: no call comes after one that failed
abbrev pub answers_to : (taken : List ℕ) (whole : Bool) → List Answer
answers_to taken true = reverse (map answers.Took taken)
answers_to taken false = answers.Failed ∷ reverse (map answers.Took taken)

-- a text was written to a channel, whole or up to the first call that failed
pub record Gains (text : List ℕ) (whole : Bool) (before now : Outlet) : Type 0 where
  pub taken : List ℕ
  pub front : IsTaken text taken whole
  pub bytes : now.bytes ≡ option_map (λ bytes. bytes ++ taken) before.bytes
  pub answers : AddsAll (answers_to taken whole) before.answers now.answers
  pub cause : HasCause before.faults now.faults (whole ≡ false)

-- a text was written to the output, and nothing else was done
pub record Prints (text : List ℕ) (whole : Bool) (before now : Told) : Type 0 where
  pub printed : Gains text whole (output_of before) (output_of now)
  pub input : now.input ≡ before.input
  pub errors : errors_of now ≡ errors_of before

-- a text was written to the errors, and nothing else was done
pub record Sends (text : List ℕ) (whole : Bool) (before now : Told) : Type 0 where
  pub sent : Gains text whole (errors_of before) (errors_of now)
  pub input : now.input ≡ before.input
  pub output : output_of now ≡ output_of before
