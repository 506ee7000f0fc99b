-- What an answer to `compile` or `run` says, from what building the image and then writing or emulating it gave.
use Rattle.std.proofs.Common.{ℕ, ◌<◌, ◌≤◌, ◌^◌, ◌⊎◌, length, arith, ◌≡◌, ◌≢◌, refl, sym, ap, subst, ◌∙◌, List, ◌∷◌, Option, Some, None, inl, inr, ⊎_elim}
use Rattle.stalin_outside.specs.Console.{Told}
use Rattle.stalin_outside.specs.declared.shelf.Ask.{Ask}
use Rattle.stalin_outside.specs.declared.shelf.Ask.TheVariants.{ToRead}
use Rattle.stalin_outside.specs.Shelf.{Files, ChangesOnly, WhereTold, SameFiles}
use Rattle.stalin_outside.specs.WholeFiles.{WritesFile, HoldsFront}
use Rattle.stalin_outside.specs.declared.whole_files.Writing.TheVariants as writes
use Rattle.rv_form.specs.declared.image.Image.{Image as Loaded}
use Rattle.elf_write.specs.declared.error.ElfErr.{ElfErr}
use Rattle.elf_write.specs.declared.error.ElfErr.TheVariants as breaks
use Rattle.elf_write.specs.Reading.{HoldsImage, Breaks}
use Rattle.elf_write.proofs.Answers.{one_answer}
use Rattle.elf_write.proofs.WrittenIsRead.{reads_back}
use Rattle.image_build.specs.Emitted.{Emitted, Refuses}
use Rattle.image_build.specs.declared.error.BuildErr.{BuildErr}
use Rattle.image_build.specs.declared.error.BuildErr.TheVariants as build
use Rattle.stalin_top.specs.declared.answer.Answer.{Answer}
use Rattle.stalin_top.specs.declared.answer.Answer.TheVariants.{Done, Usage, Refused, TooLarge, FileFault, ConsoleFault, BadImage, Spent, Trapped, Image, NoMemory}
use Rattle.stalin_top.specs.declared.answer.Refusal.TheVariants as refusals
use Rattle.stalin_top.specs.Answer.{Yields}
use Rattle.stalin_top.specs.Emulate as emulations
use Rattle.stalin_top.specs.Outside.{Outside, IfTold}
use Rattle.stalin_top.specs.Source.{AsksSource, IsSource, IsBuilt, StopsAs, source_limit}
use Rattle.stalin_top.proofs.Stops.{no_long, stop_complete, stop_limited}
use Rattle.stalin_top.specs.Compile.{Outcome, Causes, IsAsked, Compiles}
use Rattle.stalin_top.specs.Run as runs
use Rattle.stalin_top.specs.Run.{Runs}

-- Writing the image

told_then : (name : List ℕ) (content : Option (List ℕ)) (before middle now : Option Files) → SameFiles before middle
    → WhereTold (ChangesOnly name content) middle now → WhereTold (ChangesOnly name content) before now
told_then name content None middle now same changed = tt
told_then name content (Some before) None now same changed = absurd same
told_then name content (Some before) (Some middle) None same changed = absurd changed
told_then name content (Some before) (Some middle) (Some now) same changed =
    record { changed = changed.changed; others = λ other differs. changed.others other differs ∙ same other }

front_then : (name bytes : List ℕ) (before middle now : Option Files) → SameFiles before middle
    → WhereTold (HoldsFront name bytes) middle now → WhereTold (HoldsFront name bytes) before now
front_then name bytes None middle now same front = tt
front_then name bytes (Some before) None now same front = absurd same
front_then name bytes (Some before) (Some middle) None same front = absurd front
front_then name bytes (Some before) (Some middle) (Some now) same front = (
  front.0,
  front.1,
  record { changed = front.2.changed; others = λ other differs. front.2.others other differs ∙ same other },
)

pub same_then : (before middle now : Option Files) → SameFiles before middle → SameFiles middle now → SameFiles before now
same_then None middle now one two = tt
same_then (Some before) None now one two = absurd one
same_then (Some before) (Some middle) None one two = absurd two
same_then (Some before) (Some middle) (Some now) one two = λ name. two name ∙ one name

pub done : (source image : List ℕ) (heap : ℕ) (bytes slice : List ℕ) (before middle now : Option Files)
    → IsBuilt before source heap bytes → SameFiles before middle → slice ≡ bytes
    → WritesFile image slice writes.Done middle now → Outcome source image heap Done before now
done source image heap bytes slice before middle now built same is written = (
  bytes,
  built,
  told_then image (Some bytes) before middle now same
      (subst (λ b. WritesFile image b writes.Done middle now) is written),
)

pub faulted : (source image : List ℕ) (heap : ℕ) (bytes slice : List ℕ) (before middle now : Option Files)
    → IsBuilt before source heap bytes → SameFiles before middle → slice ≡ bytes
    → WritesFile image slice writes.Fault middle now → Outcome source image heap FileFault before now
faulted source image heap bytes slice before middle now built same is written =
    ⊎_elim
    (λ (kept : SameFiles middle now).
    let outcome : Outcome source image heap FileFault before now = inl (same_then before middle now same kept) in outcome)
    (λ (front : WhereTold (HoldsFront image bytes) middle now).
    let outcome : Outcome source image heap FileFault before now =
    inr (bytes, built, front_then image bytes before middle now same front)
    in outcome)
    (subst (λ b. WritesFile image b writes.Fault middle now) is written)

-- what is answered before there is an image
pub stopped : (source image : List ℕ) (heap : ℕ) (answer : Answer) (before now : Option Files)
    → StopsAs before source heap answer → SameFiles before now → Outcome source image heap answer before now
stopped source image heap Done before now stops same = absurd stops
stopped source image heap (Usage word) before now stops same = absurd stops
stopped source image heap (Refused refusal) before now stops same = (stops, same)
stopped source image heap (TooLarge limit) before now stops same = (stops, same)
stopped source image heap FileFault before now stops same = inl same
stopped source image heap ConsoleFault before now stops same = absurd stops
stopped source image heap (BadImage err) before now stops same = absurd stops
stopped source image heap (Spent steps) before now stops same = absurd stops
stopped source image heap (Trapped kind pc) before now stops same = absurd stops
stopped source image heap (Image status) before now stops same = absurd stops
stopped source image heap NoMemory before now stops same = (stops, same)

-- Which answer comes to which text

causes_of : (files : Files) (now : Option Files) (source image : List ℕ) (heap : ℕ) (answer : Answer)
    → Outcome source image heap answer (Some files) now → Causes source heap answer files
causes_of files now source image heap Done outcome =
    record {
      complete = λ text there none. inl refl;
      limited = λ long held more. absurd (no_long files source outcome.1.text long outcome.1.held held more);
    }
causes_of files now source image heap FileFault outcome =
    record { complete = λ text there none. inr (inl refl); limited = λ long held more. inr (inl refl) }
causes_of files now source image heap answer outcome =
    record {
      complete = λ text there none. inr (stop_complete (λ text error. Refuses text heap error) files source text answer outcome.0 there none);
      limited = λ long held more. stop_limited (λ text error. Refuses text heap error) files source long answer outcome.0 held more;
    }

causes : (files now : Option Files) (source image : List ℕ) (heap : ℕ) (answer : Answer)
    → Outcome source image heap answer files now → IfTold files (Causes source heap answer)
causes None now source image heap answer outcome = tt
causes (Some files) now source image heap answer outcome = causes_of files now source image heap answer outcome

pub compiles : (source image : List ℕ) (heap : ℕ) (answer : Answer) (before after : Outside)
    → Outcome source image heap answer before.files after.files → IsAsked source image answer before.asks after.asks
    → after.console ≡ before.console → Compiles source image heap answer before after
compiles source image heap answer before after outcome asks console =
    record {
      outcome = outcome;
      causes = causes before.files after.files source image heap answer outcome;
      asks = asks;
      console = console;
    }

-- Emulating the image

emitted_image : (text bytes : List ℕ) (heap : ℕ) → Emitted text heap bytes → (image : Loaded) × HoldsImage bytes image
emitted_image text bytes heap emitted =
    (emitted.image, subst (λ b. HoldsImage b emitted.image) (sym emitted.written) (reads_back emitted.image emitted.is_image.valid))

no_break : (files : Option Files) (source bytes : List ℕ) (heap : ℕ) (err : ElfErr) → IsBuilt files source heap bytes
    → Breaks bytes err → err ≢ breaks.NoMemory → ⊥
no_break files source bytes heap err built broken some =
    let image = emitted_image built.text bytes heap built.emitted in
    some ((one_answer bytes).whole image.0 err image.1 broken)

ran_bytes : (files : Option Files) (source bytes : List ℕ) (heap steps : ℕ) (answer : Answer) (before now : Told)
    → IsBuilt files source heap bytes → emulations.IsRun bytes steps answer before now
    → runs.Outcome files source heap steps answer before now
ran_bytes files source bytes heap steps (Image status) before now built run =
    record { bytes = bytes; built = built; emulated = run }
ran_bytes files source bytes heap steps (Spent n) before now built run = record { bytes = bytes; built = built; emulated = run }
ran_bytes files source bytes heap steps (Trapped kind pc) before now built run =
    record { bytes = bytes; built = built; emulated = run }
ran_bytes files source bytes heap steps NoMemory before now built run = (tt, run)
ran_bytes files source bytes heap steps (BadImage err) before now built run =
    absurd (no_break files source bytes heap err built run.0 run.1)
ran_bytes files source bytes heap steps Done before now built run = absurd run
ran_bytes files source bytes heap steps (Usage word) before now built run = absurd run
ran_bytes files source bytes heap steps (Refused refusal) before now built run = absurd run
ran_bytes files source bytes heap steps (TooLarge limit) before now built run = absurd run
ran_bytes files source bytes heap steps FileFault before now built run = absurd run
ran_bytes files source bytes heap steps ConsoleFault before now built run = absurd run

pub ran : (files : Option Files) (source bytes slice : List ℕ) (heap steps : ℕ) (answer : Answer) (before now : Told)
    → IsBuilt files source heap bytes → slice ≡ bytes → emulations.IsRun slice steps answer before now
    → runs.Outcome files source heap steps answer before now
ran files source bytes slice heap steps answer before now built is run =
    ran_bytes files source bytes heap steps answer before now built (subst (λ b. emulations.IsRun b steps answer before now) is run)

-- a source that was asked for alone
pub asked : (source : List ℕ) (answer : Answer) (before now : List Ask) → now ≡ ToRead source ∷ before
    → AsksSource source answer before now
asked source NoMemory before now is = inr is
asked source Done before now is = is
asked source (Usage word) before now is = is
asked source (TooLarge limit) before now is = is
asked source FileFault before now is = is
asked source ConsoleFault before now is = is
asked source (Refused refusal) before now is = is
asked source (BadImage err) before now is = is
asked source (Spent n) before now is = is
asked source (Trapped kind pc) before now is = is
asked source (Image status) before now is = is

pub run_stopped : (files : Option Files) (source : List ℕ) (heap steps : ℕ) (answer : Answer) (told : Told)
    → StopsAs files source heap answer → runs.Outcome files source heap steps answer told told
run_stopped files source heap steps (Image status) told stops = absurd stops
run_stopped files source heap steps (Spent n) told stops = absurd stops
run_stopped files source heap steps (Trapped kind pc) told stops = absurd stops
run_stopped files source heap steps answer told stops = (stops, refl)

run_causes_of : (files : Files) (source : List ℕ) (heap steps : ℕ) (answer : Answer) (before now : Told)
    → runs.Outcome (Some files) source heap steps answer before now → runs.Causes source heap answer files
run_causes_of files source heap steps (Image status) before now outcome =
    record {
      complete = λ text there none. inl tt;
      limited = λ long held more. absurd (no_long files source outcome.built.text long outcome.built.held held more);
    }
run_causes_of files source heap steps (Spent n) before now outcome =
    record {
      complete = λ text there none. inl tt;
      limited = λ long held more. absurd (no_long files source outcome.built.text long outcome.built.held held more);
    }
run_causes_of files source heap steps (Trapped kind pc) before now outcome =
    record {
      complete = λ text there none. inl tt;
      limited = λ long held more. absurd (no_long files source outcome.built.text long outcome.built.held held more);
    }
run_causes_of files source heap steps answer before now outcome =
    record {
      complete = λ text there none. inr (stop_complete (λ text error. Refuses text heap error) files source text answer outcome.0 there none);
      limited = λ long held more. stop_limited (λ text error. Refuses text heap error) files source long answer outcome.0 held more;
    }

run_causes : (files : Option Files) (source : List ℕ) (heap steps : ℕ) (answer : Answer) (before now : Told)
    → runs.Outcome files source heap steps answer before now → IfTold files (runs.Causes source heap answer)
run_causes None source heap steps answer before now outcome = tt
run_causes (Some files) source heap steps answer before now outcome =
    run_causes_of files source heap steps answer before now outcome

pub runs_so : (source : List ℕ) (heap steps : ℕ) (answer : Answer) (before after : Outside) → SameFiles before.files after.files
    → runs.Outcome before.files source heap steps answer before.console after.console
    → AsksSource source answer before.asks after.asks → Runs source heap steps answer before after
runs_so source heap steps answer before after files outcome asks =
    record {
      files = files;
      outcome = outcome;
      causes = run_causes before.files source heap steps answer before.console after.console outcome;
      asks = asks;
    }
