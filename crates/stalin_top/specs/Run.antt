-- What `run SOURCE --workers W --heap H --steps N` promises.
--
-- `IsEmulated` is that bytes are read as an image whose run, under the environments that answer as the console
-- has done, is what the answer tells when it is cut at so many steps (`Emulate`).
use Rattle.std.specs.Prelude.{ℕ, ◌≡◌, ◌≢◌, ◌<◌, ◌^◌, ◌⊎◌, List, length, Option, Some}
use Rattle.stalin_outside.specs.Console.{Told}
use Rattle.stalin_outside.specs.Shelf.{Files, SameFiles}
use Rattle.image_build.specs.Emitted.{Refuses}
use Rattle.image_build.specs.declared.error.BuildErr.{BuildErr}
use Rattle.image_build.specs.declared.error.BuildErr.TheVariants as build
use Rattle.stalin_top.specs.Answer.{Yields}
use Rattle.stalin_top.specs.Emulate.{IsEmulated, IsOfRun}
use Rattle.stalin_top.specs.Outside.{Outside, IfTold}
use Rattle.stalin_top.specs.Source.{AsksSource, IsSource, IsBuilt, StopsAs, source_limit}
use Rattle.stalin_top.specs.declared.answer.Answer.{Answer}
use Rattle.stalin_top.specs.declared.answer.Answer.TheVariants.{TooLarge, FileFault, Spent, Trapped, Image, NoMemory}

-- What each answer says of the outside

-- the image of the source was emulated, and the answer is what its run came to
pub record IsRun (files : Option Files) (source : List ℕ) (heap steps : ℕ) (answer : Answer) (before now : Told) : Type 0 where
  pub bytes : List ℕ
  pub built : IsBuilt files source heap bytes
  pub emulated : IsEmulated bytes steps answer before now

-- what the console tells before the call and after it: where nothing was emulated, the same
abbrev pub Outcome : Option Files → (source : List ℕ) (heap steps : ℕ) → Answer → (before now : Told) → Type 0
Outcome files source heap steps (Image status) before now = IsRun files source heap steps (Image status) before now
Outcome files source heap steps (Spent n) before now = IsRun files source heap steps (Spent n) before now
Outcome files source heap steps (Trapped kind pc) before now = IsRun files source heap steps (Trapped kind pc) before now
Outcome files source heap steps answer before now = StopsAs files source heap answer × (now ≡ before)

-- Which answer comes when

-- what is answered to each text that SOURCE may hold as the call begins
pub record Causes (source : List ℕ) (heap : ℕ) (answer : Answer) (files : Files) : Type 0 where
  -- a text for whose refusal there is no reason is run
  pub complete :
      (text : List ℕ) → IsSource (Some files) source text
      → ((error : BuildErr) → error ≢ build.NoMemory → ¬ Refuses text heap error)
      → IsOfRun answer ⊎ (answer ≡ FileFault) ⊎ (answer ≡ NoMemory)
  pub limited : (text : List ℕ) → files source ≡ Some text → 2 ^ 20 < length text → Yields (TooLarge source_limit) answer

pub record Runs (source : List ℕ) (heap steps : ℕ) (answer : Answer) (before after : Outside) : Type 0 where
  pub files : SameFiles before.files after.files
  pub outcome : Outcome before.files source heap steps answer before.console after.console
  pub causes : IfTold before.files (Causes source heap answer)
  pub asks : AsksSource source answer before.asks after.asks
