-- What `facts SOURCE --workers W` promises.
--
-- `IsTableText` is the text of the least solution of constraints, a line a row (`TableText`); `Prints` is that a text
-- was written to the output, whole or up to the first call that failed, and nothing else was done (stalin_outside).
use Rattle.std.specs.Prelude.{ℕ, ◌≡◌, ◌≢◌, ◌<◌, ◌^◌, ◌⊎◌, List, length, Bool, true, false, Option, Some}
use Rattle.stalin_outside.specs.Console.{Told}
use Rattle.stalin_outside.specs.Sending.{Prints}
use Rattle.stalin_outside.specs.Shelf.{Files, SameFiles}
use Rattle.image_build.specs.Emitted.{Unanalysed}
use Rattle.image_build.specs.declared.analysis.Analysis.{Analysis}
use Rattle.image_build.specs.declared.error.BuildErr.{BuildErr}
use Rattle.image_build.specs.declared.error.BuildErr.TheVariants as build
use Rattle.stalin_top.specs.Answer.{Yields}
use Rattle.stalin_top.specs.Outside.{Outside, IfTold}
use Rattle.stalin_top.specs.Source.{AsksSource, IsOfSource, IsSource, StopsBy, source_limit}
use Rattle.stalin_top.specs.TableText.{IsTableText}
use Rattle.stalin_top.specs.declared.answer.Answer.{Answer}
use Rattle.stalin_top.specs.declared.answer.Answer.TheVariants.{Done, TooLarge, FileFault, ConsoleFault, NoMemory}

-- What each answer says of the outside

-- the table of the source was printed, whole or up to the first call that failed
pub record IsPrinted (files : Option Files) (source : List ℕ) (whole : Bool) (before now : Told) : Type 0 where
  pub analysis : Analysis
  pub of_source : IsOfSource files source analysis
  pub table : List ℕ
  pub is_table : IsTableText analysis.constraints table
  pub printed : Prints table whole before now

-- What the console tells before the call and after it. Whoever worked on the analysis, and how many, has no part
-- in the table.
abbrev pub Outcome : Option Files → (source : List ℕ) → Answer → (before now : Told) → Type 0
Outcome files source Done before now = IsPrinted files source true before now
Outcome files source ConsoleFault before now = IsPrinted files source false before now
Outcome files source answer before now = StopsBy Unanalysed files source answer × (now ≡ before)

-- Which answer comes when

-- a table was printed, or was to be
abbrev pub IsOfTable : Answer → Type 0
IsOfTable answer = (answer ≡ Done) ⊎ (answer ≡ ConsoleFault)

-- what is answered to each text that SOURCE may hold as the call begins
pub record Causes (source : List ℕ) (answer : Answer) (files : Files) : Type 0 where
  -- a text for whose refusal there is no reason is analysed
  pub complete :
      (text : List ℕ) → IsSource (Some files) source text
      → ((error : BuildErr) → error ≢ build.NoMemory → ¬ Unanalysed text error)
      → IsOfTable answer ⊎ (answer ≡ FileFault) ⊎ (answer ≡ NoMemory)
  pub limited : (text : List ℕ) → files source ≡ Some text → 2 ^ 20 < length text → Yields (TooLarge source_limit) answer

pub record PrintsFacts (source : List ℕ) (answer : Answer) (before after : Outside) : Type 0 where
  pub files : SameFiles before.files after.files
  pub outcome : Outcome before.files source answer before.console after.console
  pub causes : IfTold before.files (Causes source answer)
  pub asks : AsksSource source answer before.asks after.asks
