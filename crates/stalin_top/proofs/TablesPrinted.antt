-- What an answer to `facts` says, from what the analysis of the source and the printing of its table gave.
use Rattle.std.proofs.Common.{ℕ, ◌<◌, ◌^◌, length, ◌≡◌, refl, List, Bool, true, false, Option, Some, None, inl, inr}
use Rattle.stalin_outside.specs.Console.{Told}
use Rattle.stalin_outside.specs.Sending.{Prints}
use Rattle.stalin_outside.specs.Shelf.{Files, SameFiles}
use Rattle.image_build.specs.Emitted.{Unanalysed}
use Rattle.image_build.specs.declared.analysis.Analysis.{Analysis}
use Rattle.stalin_top.specs.declared.answer.Answer.{Answer}
use Rattle.stalin_top.specs.declared.answer.Answer.TheVariants.{Done, FileFault, ConsoleFault, NoMemory}
use Rattle.stalin_top.specs.Facts.{Causes, IsPrinted, Outcome, PrintsFacts}
use Rattle.stalin_top.specs.Outside.{Outside, IfTold}
use Rattle.stalin_top.specs.Source.{AsksSource, IsOfSource, StopsBy}
use Rattle.stalin_top.specs.TableText.{IsTableText}
use Rattle.stalin_top.proofs.Stops.{no_long, stop_complete, stop_limited}

pub printed : (files : Option Files) (source : List ℕ) (analysis : Analysis) (whole : Bool) (before now : Told)
    → IsOfSource files source analysis
    → ((table : List ℕ) × IsTableText analysis.constraints table × Prints table whole before now)
    → IsPrinted files source whole before now
printed files source analysis whole before now of_source prints =
    record { analysis = analysis; of_source = of_source; table = prints.0; is_table = prints.1; printed = prints.2 }

-- nothing is printed where there is no analysis
pub unprinted : (files : Option Files) (source : List ℕ) (answer : Answer) (told : Told)
    → StopsBy Unanalysed files source answer → Outcome files source answer told told
unprinted files source Done told stops = absurd stops
unprinted files source ConsoleFault told stops = absurd stops
unprinted files source answer told stops = (stops, refl)

causes_of : (files : Files) (source : List ℕ) (answer : Answer) (before now : Told)
    → Outcome (Some files) source answer before now → Causes source answer files
causes_of files source Done before now outcome =
    record {
      complete = λ text there none. inl (inl refl);
      limited = λ long held more. absurd (no_long files source outcome.of_source.text long outcome.of_source.held held more);
    }
causes_of files source ConsoleFault before now outcome =
    record {
      complete = λ text there none. inl (inr refl);
      limited = λ long held more. absurd (no_long files source outcome.of_source.text long outcome.of_source.held held more);
    }
causes_of files source answer before now outcome =
    record {
      complete = λ text there none. inr (stop_complete Unanalysed files source text answer outcome.0 there none);
      limited = λ long held more. stop_limited Unanalysed files source long answer outcome.0 held more;
    }

causes : (files : Option Files) (source : List ℕ) (answer : Answer) (before now : Told)
    → Outcome files source answer before now → IfTold files (Causes source answer)
causes None source answer before now outcome = tt
causes (Some files) source answer before now outcome = causes_of files source answer before now outcome

pub prints_facts : (source : List ℕ) (answer : Answer) (before after : Outside) → SameFiles before.files after.files
    → Outcome before.files source answer before.console after.console → AsksSource source answer before.asks after.asks
    → PrintsFacts source answer before after
prints_facts source answer before after files outcome asks =
    record {
      files = files;
      outcome = outcome;
      causes = causes before.files source answer before.console after.console outcome;
      asks = asks;
    }
