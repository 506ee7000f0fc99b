-- What the source machine does with a program in core forms, and the named machine with its named form.
use Rattle.std.specs.Prelude.{ℕ, ◌≡◌, List, [], Option, Some, None}
use Rattle.scheme_base.specs.declared.env.Env.{Env}
use Rattle.scheme_base.specs.Outside.{written}
use Rattle.scheme_base.specs.Runs.{Machine, after}
use Rattle.scheme_base.specs.Stops.{Stop}
use Rattle.core_form.specs.declared.program.Var.{Var}
use Rattle.core_form.specs.Source.{State, Stopped, machine, start}
use Rattle.core_form.specs.Variables.{named}
use Rattle.alpha_core.specs.Renaming.{all_renamed}
use Rattle.named_form.specs.Code.{program}
use Rattle.named_form.specs.NamedRun as run
use Rattle.named_form.specs.Valid.{Form}
use Rattle.box_name.specs.Told.{all_told}
use Rattle.box_name.specs.Whole.{named as named_form}
use Rattle.worked_runs.specs.Programs.{Worked}

-- no input, and no call fails
abbrev quiet : Env
quiet = record { input = []; failing = []; err_failing = [] }

-- what is seen of a run: what it wrote, and how it stopped
pub record Seen : Type 0 where
  pub written : List ℕ
  pub stop : Option Stop

-- what is seen after so many steps
abbrev pub seen_after : {S : Type 0} → Machine S → (stop : S → Option Stop) → ℕ → S → Seen
seen_after machine stop steps s =
    let t = after machine steps s in record { written = written (machine.trace t); stop = stop t }

abbrev pub stop_of : State Var → Option Stop
stop_of (Stopped stop w) = Some stop
stop_of s = None

-- what is seen of the source machine
abbrev pub seen : Worked → Seen
seen w =
    let p = named w.forms w.lits in
    seen_after (machine p quiet) stop_of w.steps (start p quiet)

abbrev pub form_of : Worked → Form
form_of w = named_form (all_told w.lits (all_renamed [] 0 w.forms)) w.lits

-- what is seen of the named machine on the program's named form
abbrev pub seen_named : Worked → Seen
seen_named w =
    let p = program (form_of w).procs (form_of w).lits in
    seen_after (run.machine p quiet) (λ s. s.stop) w.steps (run.start p quiet)

-- both machines write and stop as they should
pub record RunsAlike (w : Worked) : Type 0 where
  pub source : seen w ≡ record { written = w.written; stop = Some w.stop }
  pub of_form : seen_named w ≡ record { written = w.written; stop = Some w.stop }
