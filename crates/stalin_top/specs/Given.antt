-- What the words of a command have said so far, as the reader of the words keeps it.
use Rattle.std.specs.Prelude.{ℕ, ◌≡◌, ◌≤◌, ◌%◌, ◌^◌, true, List, [], ◌∷◌, Option, Some, None, Result, Ok, Err}
use Rattle.std.specs.Borrow.{Bor}
use Rattle.stalin_top.specs.Command.{Said, Task, given, is_in, range_of}
use Rattle.stalin_top.specs.Command as tasks
use Rattle.stalin_top.specs.declared.command.Command.{Command}
use Rattle.stalin_top.specs.declared.command.Command.TheVariants as commands
use Rattle.stalin_top.specs.declared.command.Given.{Given}
use Rattle.stalin_top.specs.declared.shape.Setting.{Setting}
use Rattle.stalin_top.specs.declared.shape.Settings.{Settings}

abbrev pub operands_in : (first second : Option (Bor (List ℕ))) → List (List ℕ)
operands_in None second = []
operands_in (Some first) None = first.now ∷ []
operands_in (Some first) (Some second) = first.now ∷ second.now ∷ []

abbrev pub said_by : Given → Said
said_by given =
    record { operands = operands_in given.first given.second; settings = given.settings; pending = given.pending }

abbrev pub task_by : Command → Task
task_by (commands.Compile source image workers heap) = tasks.Compile source.now image.now workers heap
task_by (commands.Run source workers heap steps) = tasks.Run source.now workers heap steps
task_by (commands.Emulate image steps) = tasks.Emulate image.now steps
task_by (commands.Facts source workers) = tasks.Facts source.now workers
task_by (commands.Make count workers heap) = tasks.Make count workers heap

abbrev pub read_as : Result Command ℕ → Result Task ℕ
read_as (Ok command) = Ok (task_by command)
read_as (Err word) = Err word

-- each option that is given has a value of its range
abbrev pub AreFit : Settings → Type 0
AreFit settings = (setting : Setting) (n : ℕ) → given settings setting ≡ Some n → is_in (range_of setting) n ≡ true

-- a number of threads that may work on a program
pub record IsWorkable (workers : ℕ) : Type 0 where
  pub some : 1 ≤ workers
  pub few : workers ≤ 32

-- a number of workers and a heap that a program may be built with
pub record IsBuildable (workers heap : ℕ) : Type 0 where
  pub some : 1 ≤ workers
  pub few : workers ≤ 32
  pub least : 4096 ≤ heap
  pub most : heap ≤ 2 ^ 30
  pub aligned : heap % 16 ≡ 0

abbrev pub IsReady : Command → Type 0
IsReady (commands.Compile source image workers heap) = IsBuildable workers heap
IsReady (commands.Run source workers heap steps) = IsBuildable workers heap
IsReady (commands.Emulate image steps) = Unit {0}
IsReady (commands.Facts source workers) = IsWorkable workers
IsReady (commands.Make count workers heap) = IsBuildable workers heap
