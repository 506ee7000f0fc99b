-- Which environments give a transcript: those that answer a run as the console has answered.
use Rattle.std.specs.Prelude.{◌≡◌, List, [], ◌∷◌}
use Rattle.scheme_base.specs.declared.env.Env.{Env}
use Rattle.scheme_base.specs.Outside.{Calls, no_calls, next_fails, next_error_fails, read_event, write_event, after_read, after_write, after_send}
use Rattle.stalin_outside.specs.Transcript.{Call, Read, Write, Send, read_event_of, write_event_of, events_in, sent_in}

-- the environment answers a call as the console has
abbrev pub AnswersAs : Env → Calls → Call → Type 0
AnswersAs env calls (Read answer) = read_event (next_fails env calls) calls.input ≡ read_event_of answer
AnswersAs env calls (Write byte answer) = write_event (next_fails env calls) byte ≡ write_event_of byte answer
AnswersAs env calls (Send byte answer) = write_event (next_error_fails env calls) byte ≡ write_event_of byte answer

abbrev pub with_call : Env → Call → Calls → Calls
with_call env (Read answer) calls = after_read env calls
with_call env (Write byte answer) calls = after_write env byte calls
with_call env (Send byte answer) calls = after_send byte calls

-- after these calls, the newest first
abbrev pub calls_with : Env → Calls → List Call → Calls
calls_with env calls [] = calls
calls_with env calls (call ∷ earlier) = with_call env call (calls_with env calls earlier)

-- the environment answers these calls, the newest first, as the console has
abbrev pub Gives : Env → Calls → List Call → Type 0
Gives env calls [] = Unit {0}
Gives env calls (call ∷ earlier) = Gives env calls earlier × AnswersAs env (calls_with env calls earlier) call

-- the environment under which these are the calls of a run from its start
pub record IsOf (made : List Call) (env : Env) : Type 0 where
  pub gives : Gives env (no_calls env) made
  pub trace : (calls_with env (no_calls env) made).trace ≡ events_in made
  pub sent : (calls_with env (no_calls env) made).sent ≡ sent_in made
