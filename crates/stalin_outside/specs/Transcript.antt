-- A console's transcript: the calls that were made of it with their answers, what a run sees of them, and
-- what the console tells after them. Transcripts stand newest first.
use Rattle.std.specs.Prelude.{ℕ, ◌%◌, ◌<◌, ◌≡◌, List, [], ◌∷◌, ◌++◌, map}
use Rattle.std.specs.Option.{option_map}
use Rattle.scheme_base.specs.Outside.{Event, ReadByte, ReadEnd, ReadFailed, Wrote, WriteFailed, written}
use Rattle.stalin_outside.specs.declared.console.In.{In}
use Rattle.stalin_outside.specs.declared.console.In.TheVariants as inputs
use Rattle.stalin_outside.specs.declared.console.Out.{Out}
use Rattle.stalin_outside.specs.declared.console.Out.TheVariants as writes
use Rattle.stalin_outside.specs.declared.console.Answer.{Answer}
use Rattle.stalin_outside.specs.declared.console.Answer.TheVariants as answers
use Rattle.stalin_outside.specs.Console.{Told, IsRead, IsWrite, IsSend, AddsAll, answer_of_write}

-- one call with its answer: a read of the input, a write to the output, one to the errors
pub data Call : Type 0 where
  Read : (answer : In) → Call
  Write : (byte : ℕ) (answer : Out) → Call
  Send : (byte : ℕ) (answer : Out) → Call

abbrev pub IsByte : In → Type 0
IsByte (inputs.Byte byte) = byte < 256
IsByte answer = Unit {0}

abbrev pub IsCall : Call → (before now : Told) → Type 0
IsCall (Read answer) before now = IsByte answer × IsRead answer before now
IsCall (Write byte answer) before now = IsWrite byte answer before now
IsCall (Send byte answer) before now = IsSend byte answer before now

-- these calls have led a console from one to the other
abbrev pub Passes : List Call → (before now : Told) → Type 0
Passes [] before now = now ≡ before
Passes (call ∷ earlier) before now = (between : Told) × Passes earlier before between × IsCall call between now

-- what a run sees of an answer

abbrev pub read_event_of : In → Event
read_event_of (inputs.Byte byte) = ReadByte (byte % 256)
read_event_of inputs.End = ReadEnd
read_event_of inputs.Failed = ReadFailed

abbrev pub write_event_of : (byte : ℕ) → Out → Event
write_event_of byte writes.Took = Wrote byte
write_event_of byte writes.Failed = WriteFailed byte

-- what passed on channels 0 and 1
abbrev pub events_in : List Call → List Event
events_in [] = []
events_in (Read answer ∷ earlier) = read_event_of answer ∷ events_in earlier
events_in (Write byte answer ∷ earlier) = write_event_of byte answer ∷ events_in earlier
events_in (Send byte answer ∷ earlier) = events_in earlier

-- what was sent to channel 2, whether it failed or not
abbrev pub sent_in : List Call → List ℕ
sent_in [] = []
sent_in (Read answer ∷ earlier) = sent_in earlier
sent_in (Write byte answer ∷ earlier) = sent_in earlier
sent_in (Send byte answer ∷ earlier) = byte ∷ sent_in earlier

-- a console's answers of these calls

abbrev pub answer_of_event : Event → Answer
answer_of_event (ReadByte byte) = answers.Byte byte
answer_of_event ReadEnd = answers.End
answer_of_event ReadFailed = answers.Failed
answer_of_event (Wrote byte) = answers.Took byte
answer_of_event (WriteFailed byte) = answers.Failed

abbrev pub sent_answers : List Call → List Answer
sent_answers [] = []
sent_answers (Read answer ∷ earlier) = sent_answers earlier
sent_answers (Write byte answer ∷ earlier) = sent_answers earlier
sent_answers (Send byte answer ∷ earlier) = answer_of_write byte answer ∷ sent_answers earlier

-- the bytes that were written to channel 2, the oldest first
abbrev pub errors_in : List Call → List ℕ
errors_in [] = []
errors_in (Send byte writes.Took ∷ earlier) = errors_in earlier ++ byte ∷ []
errors_in (call ∷ earlier) = errors_in earlier

-- what a console tells after these calls
pub record Shows (made : List Call) (before now : Told) : Type 0 where
  pub answers : AddsAll (map answer_of_event (events_in made)) before.answers now.answers
  pub err_answers : AddsAll (sent_answers made) before.err_answers now.err_answers
  pub output : now.output ≡ option_map (λ bytes. bytes ++ written (events_in made)) before.output
  pub errors : now.errors ≡ option_map (λ bytes. bytes ++ errors_in made) before.errors
