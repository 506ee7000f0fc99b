-- The machine's states as the emulator keeps them.
use Rattle.std.specs.Prelude.{ℕ, pos, negsuc, ◌+◌, List, [], length, Option, Some, None, Result, Ok, Err, Bool, true, false, if◌then◌else◌, nat_eq, slice_index, slice_index_or, ◌≡◌, ◌<◌, ◌*◌, ◌^◌}
use Rattle.scheme_base.specs.declared.env.Env.{Env}
use Rattle.scheme_base.specs.Outside.{Calls}
use Rattle.rv_form.specs.Numbers.{extended}
use Rattle.rv_form.specs.Machine.{World, State, Run, Running, Ended, Trapped, with_reg, as_it_is, Ask, Answers, Reads, Writes, Sends, Leaves, Unknown, store, asked, system}
use Rattle.rv_emulator.specs.declared.region.Region.{Region}
use Rattle.rv_emulator.specs.declared.registers.Registers.{Registers}
use Rattle.rv_emulator.specs.declared.next.Next.{Next}
use Rattle.rv_emulator.specs.declared.next.Next.TheVariants as next
use Rattle.rv_emulator.specs.declared.next.Turn.{Turn}
use Rattle.rv_emulator.specs.declared.next.Turn.TheVariants as turn
use Rattle.rv_emulator.specs.declared.next.End.{End}
use Rattle.rv_emulator.specs.declared.next.End.TheVariants as ends
use Rattle.rv_emulator.specs.declared.next.Spot.{Spot}
use Rattle.rv_emulator.specs.declared.next.Went.{Went}
use Rattle.rv_emulator.specs.declared.system.Ask.{Ask as Wish}
use Rattle.rv_emulator.specs.declared.system.Ask.TheVariants as wishes
use Rattle.rv_words.specs.declared.decoded.Decoded.{Decoded}
use Rattle.rv_words.specs.declared.access.Width.{Width}
use Rattle.rv_emulator.specs.Memory.{Contents, allowed, cells}
use Rattle.rv_words.specs.Widths.{half_of}
use Rattle.rv_words.specs.Packed.{IsReady, fetched_of}
use Rattle.rv_form.specs.Image.{Writing}
use Rattle.rv_form.specs.Machine.{fetch}

abbrev pub regs_of : Registers → ℕ → ℕ
regs_of registers r = slice_index registers.words r

abbrev pub world_with : List Region → Env → World
world_with regions env = record { allows = allowed regions; env = env }

abbrev pub state_of : (pc : ℕ) → Registers → Contents → Calls → State
state_of pc registers memory calls = record { pc = pc; regs = regs_of registers; memory = cells memory; calls = calls }

-- where the next instruction stands, after one at a place
abbrev pub place_after : (pc : ℕ) → Turn → ℕ
place_after pc turn.On = pc + 4
place_after pc (turn.Jump to) = to
place_after pc (turn.Branch taken to) = if taken then to else pc + 4

-- What an instruction at a place comes to. A system call has changed nothing yet, and comes to what it asks.
abbrev pub done : World → (pc : ℕ) → Next → State → Run
done w pc (next.Go to) s = Running (record s { pc = place_after pc to })
done w pc (next.Trap kind) s = Trapped kind pc s.calls
done w pc next.Call s = system w (asked w (record s { pc = pc })) (record s { pc = pc })

abbrev pub no_env : Env
no_env = record { input = []; failing = []; err_failing = [] }

-- a register's value by number, of which register 0 has 0
abbrev pub reads : Registers → ℕ → ℕ
reads registers r = if nat_eq r 0 then 0 else regs_of registers r

-- where a load and a store go, and what a load puts into a register
abbrev pub after_load : Option ℕ → Next
after_load (Some n) = next.Go turn.On
after_load None = next.Trap 3

-- a number that was loaded, as a signed one or as it is
abbrev pub shape_of : (signed : Bool) → Width → ℕ → ℕ
shape_of true width = extended (half_of width)
shape_of false width = as_it_is

abbrev pub with_loaded : (shape : ℕ → ℕ) → (rd : ℕ) → Option ℕ → (ℕ → ℕ) → ℕ → ℕ
with_loaded shape rd (Some n) regs = with_reg regs rd (shape n)
with_loaded shape rd None regs = regs

abbrev pub with_stored : (usable : Bool) → (count a value : ℕ) → (ℕ → ℕ) → ℕ → ℕ
with_stored true count a value memory = store count memory a value
with_stored false count a value memory = memory

abbrev pub after_store : Bool → Next
after_store true = next.Go turn.On
after_store false = next.Trap 4

abbrev pub ask_as : Wish → Ask
ask_as wishes.Nothing = Answers (pos 0)
ask_as wishes.NoChannel = Answers (negsuc 8)
ask_as wishes.NoPlace = Answers (negsuc 13)
ask_as wishes.Reads = Reads
ask_as (wishes.Writes byte) = Writes byte
ask_as (wishes.Sends byte) = Sends byte
ask_as (wishes.Leaves status) = Leaves status
ask_as wishes.Unknown = Unknown

abbrev pub ended_as : End → Calls → Run
ended_as (ends.Exited status) calls = Ended status calls
ended_as (ends.Trapped kind pc) calls = Trapped kind pc calls

-- the run after a step: it goes on at a place, or has stopped
abbrev pub turned : Result ℕ End → Registers → Contents → Calls → Run
turned (Ok pc) registers memory calls = Running (state_of pc registers memory calls)
turned (Err end) registers memory calls = ended_as end calls

-- how bytes may be used is as it was, and so are those that may not be written
pub record Kept (old new : Contents) : Type 0 where
  pub regions : new.regions ≡ old.regions
  pub fixed : (a : ℕ) → allowed old.regions Writing a ≡ false → cells new a ≡ cells old a

-- a word of code that stands at a place
pub record StandsAt (memory : Contents) (pc : ℕ) (word : Decoded) : Type 0 where
  pub stands : fetch (world_with memory.regions no_env) (cells memory) pc ≡ fetched_of word
  pub ready : IsReady word
  pub low : pc < 2 ^ 47

-- and is never written over
pub record StaysAt (memory : Contents) (pc : ℕ) (word : Decoded) : Type 0 where
  pub here : StandsAt memory pc word
  pub fixed : (i : ℕ) → i < 4 → allowed memory.regions Writing (pc + i) ≡ false

-- words that were read once, from `base` on, stay there
abbrev pub IsCached : Contents → (base : ℕ) → List Decoded → Type 0
IsCached memory base words =
    (k : ℕ) (word : Decoded) → k < length words → slice_index_or words k word ≡ word → StaysAt memory (base + 4 * k) word

-- how many steps are left of a run that has come so far, and where it is
abbrev pub left_in : Result Went End → ℕ
left_in (Ok went) = went.left
left_in (Err end) = 0

abbrev pub place_in : Result Went End → Result ℕ End
place_in (Ok went) = Ok went.pc
place_in (Err end) = Err end

abbrev pub spot_in : Result Spot End → Result ℕ End
spot_in (Ok spot) = Ok spot.pc
spot_in (Err end) = Err end

-- words that were read once lie below 2^47
abbrev pub LieLow : (base : ℕ) → List Decoded → Type 0
LieLow base words = (at : ℕ) → at < length words → base + 4 * at < 2 ^ 47

-- a place is that of its number, if it has one, of the words that were read once from `base` on
abbrev pub IsNumbered : (base : ℕ) → List Decoded → Spot → Type 0
IsNumbered base words spot = spot.at < length words → spot.pc ≡ base + 4 * spot.at

-- the kind of a trap that a run has come to
abbrev pub trap_of : Run → Option ℕ
trap_of (Running s) = None
trap_of (Ended status calls) = None
trap_of (Trapped kind pc calls) = Some kind

-- the kind of the trap of a system call
abbrev pub trap_asked : Wish → Option ℕ
trap_asked wishes.Unknown = Some 5
trap_asked wish = None
