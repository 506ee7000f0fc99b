-- A machine's run with a console: what it comes to, and what it has called the console for.
use Rattle.std.specs.Prelude.{◌≡◌, List}
use Rattle.scheme_base.specs.declared.env.Env.{Env}
use Rattle.scheme_base.specs.Outside.{Calls}
use Rattle.stalin_outside.specs.Console.{Told}
use Rattle.stalin_outside.specs.Environment.{Gives, calls_with}
use Rattle.stalin_outside.specs.Transcript.{Call, Passes}
use Rattle.rv_form.specs.Machine.{Run}

-- In each environment that answers as the console has done, `from` is `to` after the calls that were made.
pub record Plays (from : Env → Calls → Run) (to : Calls → Run) (before now : Told) : Type 0 where
  pub made : List Call
  pub passes : Passes made before now
  pub runs : (env : Env) (calls : Calls) → Gives env calls made → from env calls ≡ to (calls_with env calls made)
