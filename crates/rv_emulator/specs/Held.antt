-- What a machine of the emulator is: how bytes may be used, and how far its run has come.
use Rattle.std.specs.Prelude.{ℕ, ◌≡◌, List, Option, Some, None, slice_index}
use Rattle.scheme_base.specs.declared.env.Env.{Env}
use Rattle.scheme_base.specs.Outside.{Calls, no_calls}
use Rattle.rv_form.specs.declared.image.Image.{Image}
use Rattle.rv_form.specs.Machine.{World, State, Run, Running, Ended, Trapped, world_of, step, start}
use Rattle.rv_emulator.specs.declared.next.End.{End}
use Rattle.rv_emulator.specs.declared.next.End.TheVariants as ends
use Rattle.rv_emulator.specs.declared.next.RunEnd.{RunEnd}
use Rattle.rv_emulator.specs.declared.next.RunEnd.TheVariants as answers
use Rattle.rv_emulator.specs.declared.region.Region.{Region}
use Rattle.rv_emulator.specs.Memory.{memory_of}
use Rattle.rv_emulator.specs.States.{ended_as, world_with}

pub record Held : Type 0 where
  -- how bytes may be used, which never changes
  pub regions : List Region
  -- the bytes of the regions, one's after another's
  pub bytes : List ℕ
  pub registers : List ℕ
  -- where the next instruction stands
  pub pc : ℕ
  -- how the machine has stopped, if it has
  pub end : Option End

abbrev pub run_in : Option End → State → Run
run_in None s = Running s
run_in (Some end) s = ended_as end s.calls

-- the run that a machine has come to, with the calls that it has made
abbrev pub run_of : Held → Calls → Run
run_of held calls =
    run_in held.end
    (record {
      pc = held.pc;
      regs = λ r. slice_index held.registers r;
      memory = memory_of held.regions held.bytes;
      calls = calls;
    })

abbrev pub world_under : Held → Env → World
world_under held env = world_with held.regions env

-- A run whose next step is a trap has stopped there.
abbrev pub settled_by : (run next : Run) → Run
settled_by run (Running s) = run
settled_by run (Ended status calls) = run
settled_by run (Trapped kind pc calls) = Trapped kind pc calls

abbrev pub settled : World → Run → Run
settled w run = settled_by run (step w run)

-- what a machine answers that has used up so many steps, or has stopped
abbrev pub answer_in : (steps : ℕ) → Option End → RunEnd
answer_in steps None = answers.Spent steps
answer_in steps (Some (ends.Exited status)) = answers.Ended status
answer_in steps (Some (ends.Trapped kind pc)) = answers.Trapped kind pc

-- a machine is at the start of an image
pub record StartsAs (image : Image) (held : Held) : Type 0 where
  pub uses : (env : Env) → world_under held env ≡ world_of image env
  pub begins : (env : Env) → run_of held (no_calls env) ≡ start image env
