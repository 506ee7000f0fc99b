-- What `emulate IMAGE --steps N` promises.
--
-- The words here are defined in the crates below: `HoldsImage` and `Breaks` are which image a file's bytes
-- are and which check they fail first (elf_write), `machine` and `start` are the machine of an image and
-- where it starts (rv_form), `Call` and `Passes` are the calls of a console and what they do to what it
-- tells, `Gives` is that an environment answers so, `IsOf` that calls are the whole of a run's under an
-- environment, and `Shows` what a console tells after them (stalin_outside).
use Rattle.std.specs.Prelude.{ℕ, ◌≡◌, ◌≢◌, ◌+◌, ◌<◌, ◌^◌, ◌⊎◌, List, ◌∷◌, length, Option, Some}
use Rattle.scheme_base.specs.declared.env.Env.{Env}
use Rattle.scheme_base.specs.declared.limit.Limit.{Limit}
use Rattle.scheme_base.specs.declared.limit.LimitKind.TheVariants.{File}
use Rattle.scheme_base.specs.Outside.{Calls, no_calls}
use Rattle.scheme_base.specs.Runs.{after}
use Rattle.stalin_outside.specs.declared.shelf.Ask.{Ask}
use Rattle.stalin_outside.specs.declared.shelf.Ask.TheVariants.{ToRead}
use Rattle.stalin_outside.specs.Shelf.{Files, SameFiles}
use Rattle.stalin_outside.specs.Console.{Told}
use Rattle.stalin_outside.specs.Environment.{IsOf, Gives, calls_with}
use Rattle.stalin_outside.specs.Transcript.{Call, Passes, Shows}
use Rattle.stalin_outside.specs.WholeFiles.{ReadsFile}
use Rattle.stalin_outside.specs.declared.whole_files.Reading.TheVariants as reads
use Rattle.rv_form.specs.declared.image.Image.{Image as Loaded}
use Rattle.rv_form.specs.Machine.{Run, world_of, machine, start}
use Rattle.rv_form.specs.Machine as runs
use Rattle.elf_write.specs.declared.error.ElfErr.{ElfErr}
use Rattle.elf_write.specs.declared.error.ElfErr.TheVariants as breaks
use Rattle.elf_write.specs.Reading.{HoldsImage, Breaks}
use Rattle.rv_emulator.specs.Held.{Held, StartsAs, settled}
use Rattle.stalin_top.specs.Answer.{Yields}
use Rattle.stalin_top.specs.Outside.{Outside, IfTold}
use Rattle.stalin_top.specs.declared.answer.Answer.{Answer}
use Rattle.stalin_top.specs.declared.answer.Answer.TheVariants.{TooLarge, FileFault, BadImage, Spent, Trapped, Image, NoMemory}

-- The machine's run of an image, cut at so many steps. Where the next step is a trap, it has trapped.
abbrev pub run_of : Loaded → Env → (steps : ℕ) → Run
run_of image env steps = settled (world_of image env) (after (machine image env) steps (start image env))

-- what is answered to a run that was cut at so many steps and has made these calls
abbrev pub IsAnswerTo : (steps : ℕ) → Calls → Run → Answer → Type 0
IsAnswerTo steps calls run (Image status) = run ≡ runs.Ended status calls
IsAnswerTo steps calls run (Trapped kind pc) = run ≡ runs.Trapped kind pc calls
IsAnswerTo steps calls run (Spent n) = (n ≡ steps) × (s : runs.State) × (run ≡ runs.Running s) × (s.calls ≡ calls)
IsAnswerTo steps calls run answer = ⊥

-- The bytes are read as an image. In each environment that answers as the console has done, the calls that
-- the machine's run of it has made when it is cut are those that the console was called for, and the
-- answer is what that run has come to. There is such an environment: what the console answered, where it
-- tells that, is the run's trace, and its outputs have gained the bytes that were written.
pub record IsEmulated (bytes : List ℕ) (steps : ℕ) (answer : Answer) (before now : Told) : Type 0 where
  pub image : Loaded
  pub held : HoldsImage bytes image
  pub made : List Call
  pub passes : Passes made before now
  pub runs :
      (env : Env) → Gives env (no_calls env) made
      → IsAnswerTo steps (calls_with env (no_calls env) made) (run_of image env steps) answer
  pub env : Env
  pub of_env : IsOf made env
  pub shows : Shows made before now

-- a machine is at the start of the image that the bytes of a file are
pub record Begins (bytes : List ℕ) (held : Held) : Type 0 where
  pub image : Loaded
  pub holds : HoldsImage bytes image
  pub starts : StartsAs image held

-- why there is no machine: a check of images that the bytes break, or want of memory
abbrev pub IsNoImage : (bytes : List ℕ) → Answer → Type 0
IsNoImage bytes (BadImage err) = Breaks bytes err × (err ≢ breaks.NoMemory)
IsNoImage bytes NoMemory = Unit {0}
IsNoImage bytes answer = ⊥

-- what is answered to the bytes of an image file, and what the console tells before and after
abbrev pub IsRun : (bytes : List ℕ) (steps : ℕ) → Answer → (before now : Told) → Type 0
IsRun bytes steps (Image status) before now = IsEmulated bytes steps (Image status) before now
IsRun bytes steps (Trapped kind pc) before now = IsEmulated bytes steps (Trapped kind pc) before now
IsRun bytes steps (Spent n) before now = IsEmulated bytes steps (Spent n) before now
IsRun bytes steps (BadImage err) before now = Breaks bytes err × (err ≢ breaks.NoMemory) × (now ≡ before)
IsRun bytes steps NoMemory before now = now ≡ before
IsRun bytes steps answer before now = ⊥

-- the bytes of the file, where the shelf tells its files; they are 2^31 at most
abbrev pub IsFile : Option Files → (name bytes : List ℕ) → Type 0
IsFile files name bytes = ReadsFile (2 ^ 31) files name (reads.Whole bytes)

abbrev pub file_limit : Limit
file_limit = record { which = File; count = 2 ^ 31 + 1 }

-- what each answer to `emulate IMAGE` says of the file, and of what the console tells
abbrev pub Emulation : Option Files → (name : List ℕ) (steps : ℕ) → Answer → (before now : Told) → Type 0
Emulation files name steps (TooLarge limit) before now =
    ReadsFile (2 ^ 31) files name reads.TooLong × (limit ≡ file_limit) × (now ≡ before)
Emulation files name steps FileFault before now = now ≡ before
Emulation files name steps NoMemory before now = now ≡ before
Emulation files name steps answer before now =
    (bytes : List ℕ) × IsFile files name bytes × IsRun bytes steps answer before now

-- the answer tells what a run has come to
abbrev pub IsOfRun : Answer → Type 0
IsOfRun (Image status) = Unit {0}
IsOfRun (Trapped kind pc) = Unit {0}
IsOfRun (Spent n) = Unit {0}
IsOfRun answer = ⊥

-- what is answered to each content that IMAGE may have
pub record ImageCauses (name : List ℕ) (answer : Answer) (files : Files) : Type 0 where
  pub complete :
      (bytes : List ℕ) (image : Loaded) → IsFile (Some files) name bytes → HoldsImage bytes image
      → IsOfRun answer ⊎ (answer ≡ FileFault) ⊎ (answer ≡ NoMemory)
  pub refused :
      (bytes : List ℕ) (err : ElfErr) → IsFile (Some files) name bytes → Breaks bytes err → err ≢ breaks.NoMemory
      → Yields (BadImage err) answer
  pub limited :
      (bytes : List ℕ) → files name ≡ Some bytes → 2 ^ 31 < length bytes → Yields (TooLarge file_limit) answer

-- in one call the command asks for IMAGE, and for no other file
abbrev pub IsAskedForImage : (name : List ℕ) → Answer → (before now : List Ask) → Type 0
IsAskedForImage name NoMemory before now = (now ≡ before) ⊎ (now ≡ ToRead name ∷ before)
IsAskedForImage name answer before now = now ≡ ToRead name ∷ before

pub record Emulates (name : List ℕ) (steps : ℕ) (answer : Answer) (before after : Outside) : Type 0 where
  pub files : SameFiles before.files after.files
  pub run : Emulation before.files name steps answer before.console after.console
  pub causes : IfTold before.files (ImageCauses name answer)
  pub asks : IsAskedForImage name answer before.asks after.asks
