-- What `compile SOURCE IMAGE --workers W --heap H` promises.
use Rattle.std.specs.Prelude.{ℕ, ◌≡◌, ◌≢◌, ◌<◌, ◌^◌, ◌⊎◌, List, ◌∷◌, length, Option, Some}
use Rattle.stalin_outside.specs.declared.shelf.Ask.{Ask}
use Rattle.stalin_outside.specs.declared.shelf.Ask.TheVariants.{ToRead, ToWrite}
use Rattle.stalin_outside.specs.Shelf.{Files, ChangesOnly, SameFiles, WhereTold}
use Rattle.stalin_outside.specs.WholeFiles.{HoldsFront}
use Rattle.image_build.specs.Emitted.{Refuses}
use Rattle.image_build.specs.declared.error.BuildErr.{BuildErr}
use Rattle.image_build.specs.declared.error.BuildErr.TheVariants as build
use Rattle.stalin_top.specs.Answer.{Yields}
use Rattle.stalin_top.specs.Outside.{Outside, IfTold}
use Rattle.stalin_top.specs.Source.{IsSource, IsBuilt, StopsAs, source_limit}
use Rattle.stalin_top.specs.declared.answer.Answer.{Answer}
use Rattle.stalin_top.specs.declared.answer.Answer.TheVariants.{Done, Refused, TooLarge, FileFault, NoMemory}

-- What each answer says of the outside

-- The files before the call and after it. No file but IMAGE changes; after a fault IMAGE may hold bytes from
-- the front of the image. Whoever worked on it, and how many, has no part in the image.
abbrev pub Outcome : (source image : List ℕ) (heap : ℕ) → Answer → (before now : Option Files) → Type 0
Outcome source image heap Done before now =
    (bytes : List ℕ) × IsBuilt before source heap bytes × WhereTold (ChangesOnly image (Some bytes)) before now
Outcome source image heap FileFault before now =
    SameFiles before now
    ⊎ ((bytes : List ℕ) × IsBuilt before source heap bytes × WhereTold (HoldsFront image bytes) before now)
Outcome source image heap answer before now = StopsAs before source heap answer × SameFiles before now

-- Which answer comes when

-- what is answered to each text that SOURCE may hold as the call begins
pub record Causes (source : List ℕ) (heap : ℕ) (answer : Answer) (files : Files) : Type 0 where
  -- a text for whose refusal there is no reason is compiled
  pub complete :
      (text : List ℕ) → IsSource (Some files) source text
      → ((error : BuildErr) → error ≢ build.NoMemory → ¬ Refuses text heap error) → Yields Done answer
  pub limited : (text : List ℕ) → files source ≡ Some text → 2 ^ 20 < length text → Yields (TooLarge source_limit) answer

-- What is asked for: SOURCE and then IMAGE, and no other file, or a front of that
abbrev pub IsAsked : (source image : List ℕ) → Answer → (before now : List Ask) → Type 0
IsAsked source image Done before now = now ≡ ToWrite image ∷ ToRead source ∷ before
IsAsked source image (Refused refusal) before now = now ≡ ToRead source ∷ before
IsAsked source image (TooLarge limit) before now = now ≡ ToRead source ∷ before
IsAsked source image FileFault before now =
    (now ≡ ToRead source ∷ before) ⊎ (now ≡ ToWrite image ∷ ToRead source ∷ before)
IsAsked source image NoMemory before now = (now ≡ before) ⊎ (now ≡ ToRead source ∷ before)
IsAsked source image answer before now = ⊥

pub record Compiles (source image : List ℕ) (heap : ℕ) (answer : Answer) (before after : Outside) : Type 0 where
  pub outcome : Outcome source image heap answer before.files after.files
  pub causes : IfTold before.files (Causes source heap answer)
  pub asks : IsAsked source image answer before.asks after.asks
  pub console : after.console ≡ before.console
