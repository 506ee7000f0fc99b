-- A shelf in memory, whose calls do exactly this.
use Rattle.std.specs.Prelude.{ℕ, zero, suc, ◌≡◌, Bool, true, false, not, ◌&&◌, List, [], take, drop, Option, is_some, unwrap_or}
use Rattle.std.specs.Option.{option_map}
use Rattle.stalin_outside.specs.Calls.{next_fails, after_call}
use Rattle.stalin_outside.specs.Shelf.{last_name}
use Rattle.stalin_outside.specs.Stored.{Stored, stored, contents, emptied, grown}
use Rattle.stalin_outside.specs.declared.calls.Calls.{Calls}
use Rattle.stalin_outside.specs.declared.shelf.Begun.{Begun}
use Rattle.stalin_outside.specs.declared.shelf.Begun.TheVariants as begins
use Rattle.stalin_outside.specs.declared.shelf.Got.{Got}
use Rattle.stalin_outside.specs.declared.shelf.Got.TheVariants as reads
use Rattle.stalin_outside.specs.declared.shelf.Took.{Took}
use Rattle.stalin_outside.specs.declared.shelf.Took.TheVariants as writes
use Rattle.stalin_outside.specs.declared.mem_shelf.MemShelf.{MemShelf}

-- what is left to read of the file of the last ask
abbrev pub left_of : MemShelf → List ℕ
left_of shelf = drop shelf.place (unwrap_or (contents shelf.files.items (last_name shelf.asks)) [])

-- whether the next call on a file of this name can be ready: it is not listed as failing, and the file is there
abbrev pub can_begin : MemShelf → (name : List ℕ) → Bool
can_begin shelf name = not (next_fails shelf.calls) && is_some (stored shelf.files.items name)

-- a begin is ready where it can be, and else has failed; for want of memory it is neither
abbrev pub BeginsExactly : (can : Bool) → Begun → Type 0
BeginsExactly can begins.Ready = can ≡ true
BeginsExactly can begins.Failed = can ≡ false
BeginsExactly can begins.NoMemory = Unit {0}

-- a begin for want of memory is no call
abbrev pub calls_after_begin : Begun → Calls → Calls
calls_after_begin begins.Ready calls = after_call false calls
calls_after_begin begins.Failed calls = after_call true calls
calls_after_begin begins.NoMemory calls = calls

-- a read gives as many bytes as are left and fit
abbrev pub got : (fails : Bool) → (count : ℕ) → Got
got true count = reads.Failed
got false zero = reads.End
got false (suc n) = reads.Bytes (suc n)

abbrev pub read_failed : Got → Bool
read_failed reads.Failed = true
read_failed answer = false

-- a write takes as many bytes as there is room for, and fails where there is none
abbrev pub took : (fails : Bool) → (count : ℕ) → Took
took true count = writes.Failed
took false zero = writes.Failed
took false (suc n) = writes.Bytes (suc n)

abbrev pub write_failed : Took → Bool
write_failed writes.Failed = true
write_failed answer = false

-- the file of a name after a write
abbrev pub after_write : Took → (piece : List ℕ) → Option Stored → Option Stored
after_write writes.Failed piece file = file
after_write (writes.Bytes count) piece file = option_map (grown (take count piece)) file

-- the file of a name after a begin for writing
abbrev pub after_begin : Begun → Option Stored → Option Stored
after_begin begins.Ready file = option_map emptied file
after_begin answer file = file
