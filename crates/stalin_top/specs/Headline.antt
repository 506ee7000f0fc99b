-- What the program promises, one line a command, and the laws of the layers that it stands on.
--
-- `task_in` is what a command's words say, or which of them is the first broken one (`Command`); each
-- command's promise stands in a file of its name. `stalin` carries `Promise`, and `layers` the laws.
use Rattle.std.specs.Prelude.{ℕ, ◌≡◌, ◌<◌, ◌^◌, Bool, List, Some, Result, Ok, Err}
use Rattle.scheme_base.specs.declared.env.Env.{Env}
use Rattle.scheme_base.specs.Runs.{Lawful}
use Rattle.rv_form.specs.declared.instr.Instr.{Instr}
use Rattle.rv_form.specs.Instruction.{IsValid, instruction_of, word_of}
use Rattle.rv_form.specs.Machine.{World, machine_in}
use Rattle.elf_write.specs.Reading.{OneAnswer}
use Rattle.stalin_outside.specs.Causes.{HasCause}
use Rattle.stalin_outside.specs.Console.{Told}
use Rattle.stalin_outside.specs.Environment.{IsOf}
use Rattle.stalin_outside.specs.Sending.{Sends}
use Rattle.stalin_outside.specs.Transcript.{Call, Passes, Shows}
use Rattle.stalin_top.specs.Answer.{text_of}
use Rattle.stalin_top.specs.Command.{Task, Compile, Run, Emulate, Facts, Make, task_in}
use Rattle.stalin_top.specs.Compile.{Compiles}
use Rattle.stalin_top.specs.Emulate.{Emulates}
use Rattle.stalin_top.specs.Facts.{PrintsFacts}
use Rattle.stalin_top.specs.Make.{PrintsNumbers}
use Rattle.stalin_top.specs.Outside.{Outside}
use Rattle.stalin_top.specs.Run.{Runs}
use Rattle.stalin_top.specs.declared.answer.Answer.{Answer}
use Rattle.stalin_top.specs.declared.answer.Answer.TheVariants.{Usage, FileFault}

-- what a command does before the text of its answer is sent
abbrev pub Does : Result Task ℕ → Answer → (before after : Outside) → Type 0
Does (Err word) answer before after = (answer ≡ Usage word) × (after ≡ before)
Does (Ok (Compile source image workers heap)) answer before after = Compiles source image heap answer before after
Does (Ok (Run source workers heap steps)) answer before after = Runs source heap steps answer before after
Does (Ok (Emulate image steps)) answer before after = Emulates image steps answer before after
Does (Ok (Facts source workers)) answer before after = PrintsFacts source answer before after
Does (Ok (Make count workers heap)) answer before after = PrintsNumbers count heap answer before after

-- What the words say is done, and a file fault is answered only where a call of the shelf failed. Then the
-- answer's text is sent to the error channel, up to the first call that fails; nothing else is done.
pub record Promise (words : List (List ℕ)) (answer : Answer) (before after : Outside) : Type 0 where
  pub worked : Told
  pub does : Does (task_in words) answer before (record after { console = worked })
  pub fault : HasCause before.faults after.faults (answer ≡ FileFault)
  pub whole : Bool
  pub text : Sends (text_of answer) whole worked after.console

-- The laws of the layers below, where each is stated in the words of its own crate
pub record Layers : Type 0 where
  -- the bytes of a file are read as one image, or fail one check first (elf_write)
  pub files : (bytes : List ℕ) → OneAnswer bytes
  -- an instruction is read from its own word, and from no other (rv_encode)
  pub encoded : (instr : Instr) → IsValid instr → instruction_of (word_of instr) ≡ Some instr
  pub decoded : (word : ℕ) (instr : Instr) → word < 2 ^ 32 → instruction_of word ≡ Some instr → word_of instr ≡ word
  -- the machine stays where it has stopped, and makes one call a step at most (rv_form)
  pub machine : (w : World) → Lawful (machine_in w)
  -- what a console has answered is what some environment answers, and it tells what a run's trace has
  -- (stalin_outside)
  pub answered : (made : List Call) → (env : Env) × IsOf made env
  pub told : (made : List Call) (before now : Told) → Passes made before now → Shows made before now
