-- What an answer to `make` says, from what building the program and printing its numbers gave.
use Rattle.std.proofs.Common.{ℕ, ◌<◌, ◌≤◌, ◌≡◌, ◌≢◌, ◌⊎◌, refl, sym, ap, subst, ◌∙◌, List, length, Bool, true, false, arith, inl, inr}
use Rattle.stalin_outside.specs.Causes.{HasCause}
use Rattle.stalin_outside.specs.Console.{Told}
use Rattle.stalin_outside.specs.Sending.{Prints}
use Rattle.image_build.specs.Emitted.{Emitted, Refuses, Unanalysed}
use Rattle.image_build.proofs.Refusals.{no_file_of}
use Rattle.image_build.specs.declared.error.BuildErr.{BuildErr}
use Rattle.image_build.specs.declared.error.BuildErr.TheVariants as build
use Rattle.stalin_top.specs.declared.answer.Answer.{Answer}
use Rattle.stalin_top.specs.declared.answer.Answer.TheVariants.{Done, Usage, Refused, TooLarge, FileFault, ConsoleFault, BadImage, Spent, Trapped, Image, NoMemory}
use Rattle.stalin_top.specs.declared.answer.Refusal.TheVariants as refusals
use Rattle.stalin_top.specs.declared.make.Sizes.{Sizes}
use Rattle.stalin_top.specs.Facts.{IsOfTable}
use Rattle.stalin_top.specs.Make.{AreNumbers, AreSizes, IsTold, IsUnmade, Outcome, PrintsNumbers, numbers_text, program_text}
use Rattle.stalin_top.specs.Outside.{Outside}
use Rattle.stalin_top.specs.Source.{answer_to}

cause : (count heap : ℕ) (error : BuildErr) → Refuses (program_text count) heap error → IsUnmade count heap (answer_to error)
cause count heap (build.Read e) refuses = refuses
cause count heap (build.Form e) refuses = refuses
cause count heap (build.Limit l) refuses = refuses
cause count heap build.NoMemory refuses = tt

-- the answer to a program that has no image has its cause
pub unmade : (count heap : ℕ) (program : List ℕ) (error : BuildErr) (answer : Answer) → program ≡ program_text count
    → Refuses program heap error → answer ≡ answer_to error → IsUnmade count heap answer
unmade count heap program error answer same refuses told =
    let P : Answer → Type 0 = λ a. IsUnmade count heap a in
    subst P (sym told) (cause count heap error (subst (λ p. Refuses p heap error) same refuses))

-- so has the answer to one that is not analysed
pub unanalysed : (count heap : ℕ) (program : List ℕ) (error : BuildErr) (answer : Answer) → program ≡ program_text count
    → Unanalysed program error → answer ≡ answer_to error → IsUnmade count heap answer
unanalysed count heap program error answer same refuses told =
    unmade count heap program error answer same (no_file_of program heap error refuses) told

pub are_numbers : (count heap source image : ℕ) (sizes : Sizes) (program file text : List ℕ) → AreSizes count sizes
    → program ≡ program_text count → Emitted program heap file → source ≡ length program → image ≡ length file
    → text ≡ numbers_text source sizes.rows sizes.atoms sizes.rules image → AreNumbers count heap text
are_numbers count heap source image sizes program file text sized same emitted long wide is =
    record {
      analysis = sized.analysis;
      analysed = sized.analysed;
      file = file;
      emitted = subst (λ p. Emitted p heap file) same emitted;
      is =
          is
          ∙ ap (λ n. numbers_text n sizes.rows sizes.atoms sizes.rules image) (long ∙ ap length same)
          ∙ ap (λ n. numbers_text (length (program_text count)) n sizes.atoms sizes.rules image) sized.rows
          ∙ ap (λ n. numbers_text (length (program_text count)) sized.analysis.constraints.rows n sizes.rules image) sized.atoms
          ∙ ap
          (λ n. numbers_text (length (program_text count)) sized.analysis.constraints.rows sized.analysis.constraints.atoms n image)
          sized.rules
          ∙ ap
          (λ n. numbers_text (length (program_text count)) sized.analysis.constraints.rows sized.analysis.constraints.atoms (length sized.analysis.constraints.rules) n)
          wide;
    }

pub told : (count heap : ℕ) (text slice : List ℕ) (whole : Bool) (before now : Told) → AreNumbers count heap text → slice ≡ text
    → Prints slice whole before now → IsTold count heap whole before now
told count heap text slice whole before now numbers same printed =
    record { text = text; numbers = numbers; printed = subst (λ t. Prints t whole before now) same printed }

-- nothing is printed where there are no numbers
pub untold : (count heap : ℕ) (answer : Answer) (console : Told) → IsUnmade count heap answer → Outcome count heap answer console console
untold count heap Done console unmade = absurd unmade
untold count heap ConsoleFault console unmade = absurd unmade
untold count heap answer console unmade = (unmade, refl)

complete : (count heap : ℕ) (answer : Answer) (before now : Told) → Outcome count heap answer before now
    → ((error : BuildErr) → error ≢ build.NoMemory → ¬ Refuses (program_text count) heap error)
    → IsOfTable answer ⊎ (answer ≡ NoMemory)
complete count heap Done before now outcome none = inl (inl refl)
complete count heap ConsoleFault before now outcome none = inl (inr refl)
complete count heap NoMemory before now outcome none = inr refl
complete count heap (Refused (refusals.Read e)) before now outcome none = absurd (none (build.Read e) (λ is. cc) outcome.0)
complete count heap (Refused (refusals.Form e)) before now outcome none = absurd (none (build.Form e) (λ is. cc) outcome.0)
complete count heap (TooLarge l) before now outcome none = absurd (none (build.Limit l) (λ is. cc) outcome.0)
complete count heap (Usage word) before now outcome none = absurd outcome.0
complete count heap FileFault before now outcome none = absurd outcome.0
complete count heap (BadImage err) before now outcome none = absurd outcome.0
complete count heap (Spent steps) before now outcome none = absurd outcome.0
complete count heap (Trapped kind pc) before now outcome none = absurd outcome.0
complete count heap (Image status) before now outcome none = absurd outcome.0

pub prints_numbers : (count heap : ℕ) (answer : Answer) (before after : Outside)
    → Outcome count heap answer before.console after.console → after ≡ record before { console = after.console }
    → PrintsNumbers count heap answer before after
prints_numbers count heap answer before after outcome rest =
    record {
      outcome = outcome;
      complete = complete count heap answer before.console after.console outcome;
      rest = rest;
    }

-- no file is asked for, so no fault of one is answered
pub no_fault : (count heap faults : ℕ) (answer : Answer) (before now : Told) → Outcome count heap answer before now
    → HasCause faults faults (answer ≡ FileFault)
no_fault count heap faults answer before now outcome =
    record {
      later = omega arith;
      rose =
          λ is.
          let P : Answer → Type 0 = λ a. Outcome count heap a before now in
          let none : Outcome count heap FileFault before now = subst P is outcome in
          absurd none.0;
    }
