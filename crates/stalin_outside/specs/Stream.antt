-- A stream of a console in memory: what was written to it, and the answers of its calls.
use Rattle.std.specs.Prelude.{ℕ, ◌-◌, ◌^◌, Bool, true, false, ◌||◌, if◌then◌else◌, nat_le, nat_lt, List, [], ◌∷◌, ◌++◌, length, replicate, Option, Some, None}
use Rattle.stalin_outside.specs.Calls.{next_fails, after_call, raised}
use Rattle.stalin_outside.specs.declared.calls.Calls.{Calls}
use Rattle.stalin_outside.specs.declared.console.Answer.{Answer}
use Rattle.stalin_outside.specs.declared.console.Answer.TheVariants as answers
use Rattle.stalin_outside.specs.declared.console.Out.{Out}
use Rattle.stalin_outside.specs.declared.console.Out.TheVariants as writes

pub record Stream : Type 0 where
  pub bytes : List ℕ
  -- the first answers, as many as there is room for; the newest first
  pub answers : List Answer
  pub room : ℕ
  -- how many calls came later, which all failed; the number stays at 2^64 - 1 once it is there
  pub later : ℕ
  pub calls : Calls

abbrev pub is_full : Stream → Bool
is_full stream = nat_le stream.room (length stream.answers)

-- the next call fails where it is listed, or where there is no room for its answer
abbrev pub call_fails : Stream → Bool
call_fails stream = next_fails stream.calls || is_full stream

abbrev pub is_failure : Answer → Bool
is_failure answers.Failed = true
is_failure answer = false

-- after a call with this answer
abbrev pub answered : Answer → Stream → Stream
answered answer stream =
    if is_full stream then
    record stream { later = raised stream.later; calls = after_call (is_failure answer) stream.calls }
    else
    record stream { answers = answer ∷ stream.answers; calls = after_call (is_failure answer) stream.calls }

-- after a write of this byte
abbrev pub written : (byte : ℕ) → Out → Stream → Stream
written byte writes.Took stream =
    record (answered (answers.Took byte) stream) { bytes = stream.bytes ++ byte ∷ [] }
written byte writes.Failed stream = answered answers.Failed stream

abbrev pub out_answer : (fails : Bool) → Out
out_answer true = writes.Failed
out_answer false = writes.Took

-- all answers, as long as the number of the later calls tells how many they are
abbrev pub all_answers : Stream → Option (List Answer)
all_answers stream =
    if nat_lt stream.later (2 ^ 64 - 1) then Some (replicate stream.later answers.Failed ++ stream.answers) else None
