-- What the emulator's run of an image comes to, and what each answer to `emulate` says of the file.
use Rattle.std.proofs.Common.{ℕ, ◌+◌, ◌<◌, ◌≤◌, ◌^◌, length, arith, ◌≡◌, ◌≢◌, refl, sym, ap, subst, ◌∙◌, List, [], ◌∷◌, Option, Some, None, inl, inr}
use Rattle.scheme_base.specs.declared.env.Env.{Env}
use Rattle.scheme_base.specs.Outside.{Calls, no_calls}
use Rattle.scheme_base.specs.Runs.{after}
use Rattle.stalin_outside.specs.Shelf.{Files, SameFiles}
use Rattle.stalin_outside.specs.Console.{Told}
use Rattle.stalin_outside.specs.Environment.{IsOf, calls_with}
use Rattle.stalin_outside.specs.Transcript.{Call, Passes, Shows}
use Rattle.rv_form.specs.declared.image.Image.{Image as Loaded}
use Rattle.rv_form.specs.declared.image.Segment.{Segment}
use Rattle.rv_form.specs.Machine.{State, machine_in, world_of}
use Rattle.elf_write.specs.declared.error.ElfErr.{ElfErr}
use Rattle.elf_write.specs.declared.error.ElfErr.TheVariants as breaks
use Rattle.elf_write.specs.Reading.{HoldsImage, Breaks}
use Rattle.elf_write.specs.Valid.{IsValid, AreSegments, memory_size}
use Rattle.elf_write.proofs.Answers.{one_answer}
use Rattle.rv_emulator.specs.declared.next.End.{End}
use Rattle.rv_emulator.specs.declared.next.End.TheVariants as ends
use Rattle.rv_emulator.specs.declared.next.RunEnd.{RunEnd}
use Rattle.rv_emulator.specs.declared.next.RunEnd.TheVariants as comes
use Rattle.rv_emulator.specs.Held.{Held, StartsAs, answer_in, run_in, settled, world_under}
use Rattle.rv_emulator.specs.Held.{run_of as held_run}
use Rattle.rv_emulator.specs.Loading.{AreFit, IsLoadable, room_of}
use Rattle.rv_emulator.specs.Plays.{Plays}
use Rattle.stalin_top.specs.declared.answer.Answer.{Answer}
use Rattle.stalin_top.specs.declared.answer.Answer.TheVariants.{Done, Usage, Refused, TooLarge, FileFault, ConsoleFault, BadImage, Spent, Trapped, Image, NoMemory}
use Rattle.stalin_top.specs.Emulate.{run_of, IsAnswerTo, IsEmulated, IsNoImage, IsRun, IsFile, Emulation, IsOfRun, ImageCauses, IsAskedForImage, Emulates}
use Rattle.stalin_top.specs.Outside.{Outside, IfTold}

-- Loading

fit : (segments : List Segment) → AreSegments segments → AreFit segments
fit [] each = tt
fit (segment ∷ rest) each = (each.0.holds, each.0.low, fit rest each.1)

room : (segments : List Segment) → room_of segments ≡ memory_size segments
room [] = refl
room (segment ∷ rest) = ap (λ n. segment.memsz + n) (room rest)

pub loadable : (image : Loaded) → IsValid image → IsLoadable image.segments
loadable image valid =
    record {
      fit = fit image.segments valid.each;
      room = subst (λ n. n ≤ 2 ^ 31) (sym (room image.segments)) valid.small;
    }

-- Running

abbrev pub answer_to : RunEnd → Answer
answer_to (comes.Ended status) = Image status
answer_to (comes.Spent steps) = Spent steps
answer_to (comes.Trapped kind pc) = Trapped kind pc

comes_to : (steps : ℕ) (end : Option End) (s : State)
    → IsAnswerTo steps s.calls (run_in end s) (answer_to (answer_in steps end))
comes_to steps None s = (refl, s, refl, refl)
comes_to steps (Some (ends.Exited status)) s = refl
comes_to steps (Some (ends.Trapped kind pc)) s = refl

comes_after : (steps : ℕ) (held : Held) (calls : Calls)
    → IsAnswerTo steps calls (held_run held calls) (answer_to (answer_in steps held.end))
comes_after steps held calls = comes_to steps held.end _

pub emulated :
    (bytes : List ℕ) (image : Loaded) (steps : ℕ) (from to : Held) (before now : Told) (end : RunEnd)
    → HoldsImage bytes image → StartsAs image from
    → Plays (λ env calls. settled (world_under from env) (after (machine_in (world_under from env)) steps (held_run from calls)))
    (held_run to) before now
    → end ≡ answer_in steps to.end
    → ((made : List Call) → (env : Env) × IsOf made env)
    → ((made : List Call) (first last : Told) → Passes made first last → Shows made first last)
    → IsEmulated bytes steps (answer_to end) before now
emulated bytes image steps from to before now end held starts plays is environment shows =
    let some = environment plays.made in
    record {
      image = image;
      held = held;
      made = plays.made;
      passes = plays.passes;
      env = some.0;
      of_env = some.1;
      shows = shows plays.made before now plays.passes;
      runs =
          λ env gives.
          let same : settled (world_under from env) (after (machine_in (world_under from env)) steps (held_run from (no_calls env)))
          ≡ run_of image env steps =
          ap (λ w. settled w (after (machine_in w) steps (held_run from (no_calls env)))) (starts.uses env)
          ∙ ap (λ r. settled (world_of image env) (after (machine_in (world_of image env)) steps r)) (starts.begins env)
          in
          subst (λ r. IsAnswerTo steps (calls_with env (no_calls env) plays.made) r (answer_to end))
          (sym (plays.runs env (no_calls env) gives) ∙ same)
          (subst (λ e. IsAnswerTo steps (calls_with env (no_calls env) plays.made)
          (held_run to (calls_with env (no_calls env) plays.made)) (answer_to e))
          (sym is)
          (comes_after steps to (calls_with env (no_calls env) plays.made)));
    }

-- bytes of which there is no machine show nothing
pub not_run : (bytes : List ℕ) (steps : ℕ) (answer : Answer) (told : Told) → IsNoImage bytes answer
    → IsRun bytes steps answer told told
not_run bytes steps (BadImage err) told why = (why.0, why.1, refl)
not_run bytes steps NoMemory told why = refl
not_run bytes steps Done told why = absurd why
not_run bytes steps (Usage word) told why = absurd why
not_run bytes steps (TooLarge limit) told why = absurd why
not_run bytes steps FileFault told why = absurd why
not_run bytes steps ConsoleFault told why = absurd why
not_run bytes steps (Refused refusal) told why = absurd why
not_run bytes steps (Spent n) told why = absurd why
not_run bytes steps (Trapped kind pc) told why = absurd why
not_run bytes steps (Image status) told why = absurd why

-- what is answered to bytes is no fault of a file
pub no_fault : (bytes : List ℕ) (steps : ℕ) (answer : Answer) (before now : Told) → IsRun bytes steps answer before now
    → answer ≡ FileFault → ⊥
no_fault bytes steps answer before now run is = subst (λ a. IsRun bytes steps a before now) is run

-- The whole command

of_run :
    (files : Option Files) (name : List ℕ) (steps : ℕ) (bytes : List ℕ) (answer : Answer) (before now : Told)
    → IsFile files name bytes → IsRun bytes steps answer before now → Emulation files name steps answer before now
of_run files name steps bytes Done before now file run = absurd run
of_run files name steps bytes (Usage word) before now file run = absurd run
of_run files name steps bytes (TooLarge limit) before now file run = absurd run
of_run files name steps bytes FileFault before now file run = absurd run
of_run files name steps bytes ConsoleFault before now file run = absurd run
of_run files name steps bytes (Refused refusal) before now file run = absurd run
of_run files name steps bytes (BadImage err) before now file run = (bytes, file, run)
of_run files name steps bytes (Spent n) before now file run = (bytes, file, run)
of_run files name steps bytes (Trapped kind pc) before now file run = (bytes, file, run)
of_run files name steps bytes (Image status) before now file run = (bytes, file, run)
of_run files name steps bytes NoMemory before now file run = run

pub emulation :
    (files : Option Files) (name : List ℕ) (steps : ℕ) (bytes slice : List ℕ) (answer : Answer) (before now : Told)
    → IsFile files name bytes → slice ≡ bytes → IsRun slice steps answer before now
    → Emulation files name steps answer before now
emulation files name steps bytes slice answer before now file same run =
    of_run files name steps bytes answer before now file (subst (λ b. IsRun b steps answer before now) same run)

-- Which answer comes to which content

same_text : (file : Option (List ℕ)) (a b : List ℕ) → file ≡ Some a → file ≡ Some b → b ≡ a
same_text file a b one two = cc

not_long : (file : Option (List ℕ)) (bytes long : List ℕ) → file ≡ Some bytes → length bytes ≤ 2 ^ 31
    → file ≡ Some long → 2 ^ 31 < length long → ⊥
not_long file bytes long one short two more =
    let e : length long ≡ length bytes = ap length (same_text file bytes long one two) in omega arith

of_image : (files : Files) (name bytes : List ℕ) (image : Loaded) (answer : Answer) → IsFile (Some files) name bytes
    → HoldsImage bytes image → IsOfRun answer → ImageCauses name answer files
of_image files name bytes image answer file held run =
    record {
      complete = λ other image' there holds. inl run;
      refused =
          λ other err there broken memory.
          absurd
          (memory
          ((one_answer bytes).whole image err held
          (subst (λ b. Breaks b err) (same_text (files name) bytes other file.0 there.0) broken)));
      limited = λ long there more. absurd (not_long (files name) bytes long file.0 file.1 there more);
    }

of_break : (files : Files) (name bytes : List ℕ) (err : ElfErr) → IsFile (Some files) name bytes → Breaks bytes err
    → err ≢ breaks.NoMemory → ImageCauses name (BadImage err) files
of_break files name bytes err file broken memory =
    record {
      complete =
          λ other image there holds.
          absurd
          (memory
          ((one_answer bytes).whole image err
          (subst (λ b. HoldsImage b image) (same_text (files name) bytes other file.0 there.0) holds)
          broken));
      refused =
          λ other err' there broken' memory'.
          inl
          (ap BadImage
          ((one_answer bytes).broken err err' broken
          (subst (λ b. Breaks b err') (same_text (files name) bytes other file.0 there.0) broken')
          memory
          memory'));
      limited = λ long there more. absurd (not_long (files name) bytes long file.0 file.1 there more);
    }

causes_of : (files : Files) (name : List ℕ) (steps : ℕ) (answer : Answer) (before now : Told)
    → Emulation (Some files) name steps answer before now → ImageCauses name answer files
causes_of files name steps Done before now run = absurd run.2
causes_of files name steps (Usage word) before now run = absurd run.2
causes_of files name steps ConsoleFault before now run = absurd run.2
causes_of files name steps (Refused refusal) before now run = absurd run.2
causes_of files name steps (Image status) before now run = of_image files name run.0 run.2.image (Image status) run.1 run.2.held tt
causes_of files name steps (Spent n) before now run = of_image files name run.0 run.2.image (Spent n) run.1 run.2.held tt
causes_of files name steps (Trapped kind pc) before now run =
    of_image files name run.0 run.2.image (Trapped kind pc) run.1 run.2.held tt
causes_of files name steps (BadImage err) before now run = of_break files name run.0 err run.1 run.2.0 run.2.1
causes_of files name steps (TooLarge limit) before now run =
    record {
      complete = λ bytes image there holds. absurd (not_long (files name) bytes run.0.0 there.0 there.1 run.0.1 run.0.2);
      refused = λ bytes err there broken memory. absurd (not_long (files name) bytes run.0.0 there.0 there.1 run.0.1 run.0.2);
      limited = λ long there more. inl (ap TooLarge run.1);
    }
causes_of files name steps FileFault before now run =
    record {
      complete = λ bytes image there holds. inr (inl refl);
      refused = λ bytes err there broken memory. inr (inl refl);
      limited = λ long there more. inr (inl refl);
    }
causes_of files name steps NoMemory before now run =
    record {
      complete = λ bytes image there holds. inr (inr refl);
      refused = λ bytes err there broken memory. inr (inr refl);
      limited = λ long there more. inr (inr refl);
    }

image_causes : (files : Option Files) (name : List ℕ) (steps : ℕ) (answer : Answer) (before now : Told)
    → Emulation files name steps answer before now → IfTold files (ImageCauses name answer)
image_causes None name steps answer before now run = tt
image_causes (Some files) name steps answer before now run = causes_of files name steps answer before now run

pub emulates : (name : List ℕ) (steps : ℕ) (answer : Answer) (before after : Outside) → SameFiles before.files after.files
    → Emulation before.files name steps answer before.console after.console
    → IsAskedForImage name answer before.asks after.asks → Emulates name steps answer before after
emulates name steps answer before after files run asks =
    record {
      files = files;
      run = run;
      causes = image_causes before.files name steps answer before.console after.console run;
      asks = asks;
    }
