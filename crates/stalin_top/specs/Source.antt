-- Reading a source, and building its image: what the commands that take a source have in common.
--
-- `Emitted` is that bytes are the image file of the program that a text is, with a heap, and `Refuses` why there
-- is none; `IsAnalysed` is what its analysis is (image_build). A file is read up to one byte more than a text may have (stalin_outside).
use Rattle.std.specs.Prelude.{ℕ, ◌≡◌, ◌+◌, ◌^◌, ◌⊎◌, List, ◌∷◌, Option}
use Rattle.scheme_base.specs.declared.limit.Limit.{Limit}
use Rattle.scheme_base.specs.declared.limit.LimitKind.TheVariants.{Source}
use Rattle.stalin_outside.specs.declared.shelf.Ask.{Ask}
use Rattle.stalin_outside.specs.declared.shelf.Ask.TheVariants.{ToRead}
use Rattle.stalin_outside.specs.Shelf.{Files}
use Rattle.stalin_outside.specs.WholeFiles.{ReadsFile}
use Rattle.stalin_outside.specs.declared.whole_files.Reading.TheVariants as reads
use Rattle.image_build.specs.Emitted.{Emitted, IsAnalysed, Refuses}
use Rattle.image_build.specs.declared.analysis.Analysis.{Analysis}
use Rattle.image_build.specs.declared.error.BuildErr.{BuildErr}
use Rattle.image_build.specs.declared.error.BuildErr.TheVariants as build
use Rattle.stalin_top.specs.declared.answer.Answer.{Answer}
use Rattle.stalin_top.specs.declared.answer.Answer.TheVariants.{Refused, TooLarge, FileFault, NoMemory}
use Rattle.stalin_top.specs.declared.answer.Refusal.TheVariants as refusals

-- the text of a file, where the shelf tells its files; it has 2^20 bytes at most
abbrev pub IsSource : Option Files → (name text : List ℕ) → Type 0
IsSource files name text = ReadsFile (2 ^ 20) files name (reads.Whole text)

abbrev pub source_limit : Limit
source_limit = record { which = Source; count = 2 ^ 20 + 1 }

-- the file has more bytes than a source may have
abbrev pub IsTooLong : Option Files → (name : List ℕ) → Limit → Type 0
IsTooLong files name limit = ReadsFile (2 ^ 20) files name reads.TooLong × (limit ≡ source_limit)

-- these bytes are the image of the source in a file
pub record IsBuilt (files : Option Files) (source : List ℕ) (heap : ℕ) (bytes : List ℕ) : Type 0 where
  pub text : List ℕ
  pub held : IsSource files source text
  pub emitted : Emitted text heap bytes

-- which texts are refused, and why
abbrev pub Refusals : Type 1
Refusals = List ℕ → BuildErr → Type 0

-- the source in a file is refused, for this reason
pub record IsRefused (Refuses : Refusals) (files : Option Files) (source : List ℕ) (error : BuildErr) : Type 0 where
  pub text : List ℕ
  pub held : IsSource files source text
  pub refuses : Refuses text error

-- why there is an answer before the text of a source has been built or analysed
abbrev pub StopsBy : Refusals → Option Files → (source : List ℕ) → Answer → Type 0
StopsBy Refuses files source (Refused (refusals.Read error)) = IsRefused Refuses files source (build.Read error)
StopsBy Refuses files source (Refused (refusals.Form error)) = IsRefused Refuses files source (build.Form error)
StopsBy Refuses files source (TooLarge limit) =
    IsTooLong files source limit ⊎ IsRefused Refuses files source (build.Limit limit)
StopsBy Refuses files source FileFault = Unit {0}
StopsBy Refuses files source NoMemory = Unit {0}
StopsBy Refuses files source answer = ⊥

-- why there is an answer before there is an image
abbrev pub StopsAs : Option Files → (source : List ℕ) (heap : ℕ) → Answer → Type 0
StopsAs files source heap answer = StopsBy (λ text error. Refuses text heap error) files source answer

-- the answer to a source that is refused for this reason
abbrev pub answer_to : BuildErr → Answer
answer_to (build.Read error) = Refused (refusals.Read error)
answer_to (build.Form error) = Refused (refusals.Form error)
answer_to (build.Limit limit) = TooLarge limit
answer_to build.NoMemory = NoMemory

-- the source is asked for, and no other file; not even that where memory was wanted before
abbrev pub AsksSource : (source : List ℕ) → Answer → (before now : List Ask) → Type 0
AsksSource source NoMemory before now = (now ≡ before) ⊎ (now ≡ ToRead source ∷ before)
AsksSource source answer before now = now ≡ ToRead source ∷ before

-- why the text of a source is not read whole
abbrev pub IsUnread : Option Files → (source : List ℕ) → Answer → Type 0
IsUnread files source (TooLarge limit) = IsTooLong files source limit
IsUnread files source FileFault = Unit {0}
IsUnread files source NoMemory = Unit {0}
IsUnread files source answer = ⊥

-- the analysis of the program in a file
pub record IsOfSource (files : Option Files) (source : List ℕ) (analysis : Analysis) : Type 0 where
  pub text : List ℕ
  pub held : IsSource files source text
  pub analysed : IsAnalysed text analysis
