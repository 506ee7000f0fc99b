-- What a shelf over the system's files does with the file that it has begun.
use Rattle.std.specs.Prelude.{ℕ, List, take, Option}
use Rattle.std.specs.Io.KnownBytes.{Appends, Consumes, IsAtEnd}
use Rattle.stalin_outside.specs.declared.files.Held.{Held}
use Rattle.stalin_outside.specs.declared.files.Held.TheVariants as held
use Rattle.stalin_outside.specs.declared.shelf.Got.{Got}
use Rattle.stalin_outside.specs.declared.shelf.Got.TheVariants as reads
use Rattle.stalin_outside.specs.declared.shelf.Took.{Took}
use Rattle.stalin_outside.specs.declared.shelf.Took.TheVariants as writes
use Rattle.stalin_outside.specs.declared.shelf.Kind.{Kind}
use Rattle.stalin_outside.specs.declared.shelf.Kind.TheVariants.{Nothing, ForReading, ForWriting}

abbrev pub kind_of : {F : Type 0} → Held F → Kind
kind_of held.Nothing = Nothing
kind_of (held.ToRead file) = ForReading
kind_of (held.ToWrite file) = ForWriting

-- a read that gave bytes has taken them from the file, and one that came to the end has found none
abbrev pub HeldRead : {F : Type 0} → (left : F → Option (List ℕ)) → (buf : List ℕ) → Got → (before now : Held F) → Type 0
HeldRead left buf (reads.Bytes count) (held.ToRead before) (held.ToRead now) = Consumes (left before) (left now) (take count buf)
HeldRead left buf reads.End (held.ToRead before) now = IsAtEnd (left before)
HeldRead left buf answer before now = Unit {0}

-- a write that took bytes has put them at the end of the file
abbrev pub HeldWrite : {F : Type 0} → (content : F → Option (List ℕ)) → (piece : List ℕ) → Took → (before now : Held F) → Type 0
HeldWrite content piece (writes.Bytes count) (held.ToWrite before) (held.ToWrite now) =
    Appends (content before) (content now) (take count piece)
HeldWrite content piece answer before now = Unit {0}
