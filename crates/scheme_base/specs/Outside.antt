-- The outside of a run: what passes on its channels under an environment, and how it ends.
--
-- Channel 0 is the input, channel 1 the output, channel 2 the channel for errors. Each call passes one
-- byte at most; an item of an input gives its number modulo 256, so that each environment is one of bytes.
use Rattle.std.specs.Prelude.{ℕ, ◌+◌, ◌%◌, List, [], ◌∷◌, ◌++◌, length, Option, Some, None, Bool, true, false, nat_eq, ◌||◌}
use Rattle.scheme_base.specs.declared.env.Env.{Env}

-- one call on channel 0 or 1, with its byte and its answer
pub data Event : Type 0 where
  ReadByte : (byte : ℕ) → Event
  ReadEnd : Event
  ReadFailed : Event
  Wrote : (byte : ℕ) → Event
  WriteFailed : (byte : ℕ) → Event

-- what a run has done on its channels so far
pub record Calls : Type 0 where
  -- the items of the input that no read has taken
  pub input : List (Option ℕ)
  -- the calls on channels 0 and 1, the newest first
  pub trace : List Event
  -- the bytes of the calls on channel 2, failed or not, the newest first
  pub sent : List ℕ

abbrev pub no_calls : Env → Calls
no_calls env = record { input = env.input; trace = []; sent = [] }

-- whether a number is listed
abbrev pub lists : List ℕ → ℕ → Bool
lists [] k = false
lists (n ∷ ns) k = nat_eq n k || lists ns k

-- whether the next call on channels 0 and 1 fails; they are counted together from 1
abbrev pub next_fails : Env → Calls → Bool
next_fails env calls = lists env.failing (length calls.trace + 1)

-- a read of channel 0: at a failure nothing is taken, and past the last item there is an end
abbrev pub read_event : (fails : Bool) → List (Option ℕ) → Event
read_event true items = ReadFailed
read_event false [] = ReadEnd
read_event false (None ∷ items) = ReadEnd
read_event false (Some item ∷ items) = ReadByte (item % 256)

abbrev pub items_after : (fails : Bool) → List (Option ℕ) → List (Option ℕ)
items_after true items = items
items_after false [] = []
items_after false (item ∷ items) = items

abbrev pub after_read : Env → Calls → Calls
after_read env calls =
    record {
      input = items_after (next_fails env calls) calls.input;
      trace = read_event (next_fails env calls) calls.input ∷ calls.trace;
      sent = calls.sent;
    }

-- a write of a byte to channel 1
abbrev pub write_event : (fails : Bool) (byte : ℕ) → Event
write_event true byte = WriteFailed byte
write_event false byte = Wrote byte

abbrev pub after_write : Env → ℕ → Calls → Calls
after_write env byte calls =
    record { input = calls.input; trace = write_event (next_fails env calls) byte ∷ calls.trace; sent = calls.sent }

-- whether the next call on channel 2 fails; they are counted by themselves from 1
abbrev pub next_error_fails : Env → Calls → Bool
next_error_fails env calls = lists env.err_failing (length calls.sent + 1)

-- a write of a byte to channel 2, which is sent whether the call fails or not
abbrev pub after_send : ℕ → Calls → Calls
after_send byte calls = record { input = calls.input; trace = calls.trace; sent = byte ∷ calls.sent }

-- what a run has written to channel 1: the bytes of the writes that succeeded, the oldest first
abbrev pub written : List Event → List ℕ
written [] = []
written (Wrote byte ∷ es) = written es ++ byte ∷ []
written (e ∷ es) = written es

-- how a run ends, as it is seen from outside
pub data Ending : Type 0 where
  -- with a status, and with all that it has sent to channel 2, the oldest first
  Exits : (status : ℕ) (sent : List ℕ) → Ending
  -- by a trap of the machine, of this kind and at this address
  Traps : (kind pc : ℕ) → Ending
