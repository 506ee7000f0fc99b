-- What the calls of a shelf do to its files, to the file that is begun, and to the list of its asks.
--
-- Files are a function from names to contents, where the shelf tells them: None is a file that is not
-- there. A shelf that tells none promises nothing about contents, but everything else.
use Rattle.std.specs.Prelude.{ℕ, ◌≡◌, ◌≢◌, ◌≤◌, List, [], ◌∷◌, ◌++◌, length, take, Option, Some, None}
use Rattle.std.specs.Option.{option_map}
use Rattle.stalin_outside.specs.declared.shelf.Ask.{Ask}
use Rattle.stalin_outside.specs.declared.shelf.Ask.TheVariants.{ToRead, ToWrite}
use Rattle.stalin_outside.specs.declared.shelf.Begun.{Begun}
use Rattle.stalin_outside.specs.declared.shelf.Begun.TheVariants as begins
use Rattle.stalin_outside.specs.declared.shelf.Got.{Got}
use Rattle.stalin_outside.specs.declared.shelf.Got.TheVariants as reads
use Rattle.stalin_outside.specs.declared.shelf.Took.{Took}
use Rattle.stalin_outside.specs.declared.shelf.Took.TheVariants as writes
use Rattle.stalin_outside.specs.declared.shelf.Kind.{Kind}
use Rattle.stalin_outside.specs.declared.shelf.Kind.TheVariants.{Nothing, ForReading, ForWriting}

abbrev pub Files : Type 0
Files = List ℕ → Option (List ℕ)

-- A shelf that tells its files goes on to tell them, and they have this to do with each other.
abbrev pub WhereTold : (Files → Files → Type 0) → Option Files → Option Files → Type 0
WhereTold P None now = Unit {0}
WhereTold P (Some before) None = ⊥
WhereTold P (Some before) (Some now) = P before now

abbrev pub SameFiles : Option Files → Option Files → Type 0
SameFiles = WhereTold (λ before now. (name : List ℕ) → now name ≡ before name)

-- one file has the content, and every other is as before
pub record ChangesOnly (name : List ℕ) (content : Option (List ℕ)) (before now : Files) : Type 0 where
  pub changed : now name ≡ content
  pub others : (other : List ℕ) → other ≢ name → now other ≡ before other

-- a begin for reading puts the place at the file's start, or leaves it
abbrev pub StartsFile : Option Files → (name : List ℕ) → Begun → (before now : List ℕ) → Type 0
StartsFile None name answer before now = Unit {0}
StartsFile (Some files) name begins.Ready before now = files name ≡ Some now
StartsFile (Some files) name begins.Failed before now = Unit {0}
StartsFile (Some files) name begins.NoMemory before now = now ≡ before

-- a begin for writing empties the file that it begins, and changes no other
abbrev pub Empties : (name : List ℕ) → Begun → Option Files → Option Files → Type 0
Empties name begins.Ready before now = WhereTold (ChangesOnly name (Some [])) before now
Empties name begins.Failed before now = SameFiles before now
Empties name begins.NoMemory before now = SameFiles before now

-- a count of bytes, at least one and no more than there are
pub record IsCount (count most : ℕ) : Type 0 where
  pub some : 1 ≤ count
  pub within : count ≤ most

abbrev pub AreNext : Option Files → (bytes before now : List ℕ) → Type 0
AreNext None bytes before now = Unit {0}
AreNext (Some files) bytes before now = before ≡ bytes ++ now

abbrev pub AreAll : Option Files → (left : List ℕ) → Type 0
AreAll None left = Unit {0}
AreAll (Some files) left = left ≡ []

-- a read gives the next bytes, and comes to the end exactly where it does not fail and none is left
abbrev pub Gives : Option Files → (buf : List ℕ) → Got → (before now : List ℕ) → Type 0
Gives told buf (reads.Bytes count) before now = IsCount count (length buf) × AreNext told (take count buf) before now
Gives told buf reads.End before now = AreAll told before
Gives told buf reads.Failed before now = Unit {0}

abbrev pub Grows : (name bytes : List ℕ) → Files → Files → Type 0
Grows name bytes before now = ChangesOnly name (option_map (λ content. content ++ bytes) (before name)) before now

-- a write puts bytes from the front of the piece at the end of the file, and changes no other
abbrev pub Appends : (name piece : List ℕ) → Took → Option Files → Option Files → Type 0
Appends name piece (writes.Bytes count) before now =
    IsCount count (length piece) × WhereTold (Grows name (take count piece)) before now
Appends name piece writes.Failed before now = SameFiles before now

-- what is begun after a begin of this kind
abbrev pub kind_after : Begun → Kind → (before : Kind) → Kind
kind_after begins.Ready kind before = kind
kind_after begins.Failed kind before = Nothing
kind_after begins.NoMemory kind before = before

abbrev pub kind_after_read : Got → Kind
kind_after_read (reads.Bytes count) = ForReading
kind_after_read reads.End = Nothing
kind_after_read reads.Failed = Nothing

abbrev pub kind_after_write : Took → Kind
kind_after_write (writes.Bytes count) = ForWriting
kind_after_write writes.Failed = Nothing

-- a begin is an ask but where it found no memory
abbrev pub asks_after : Begun → Ask → List Ask → List Ask
asks_after begins.Ready ask asks = ask ∷ asks
asks_after begins.Failed ask asks = ask ∷ asks
asks_after begins.NoMemory ask asks = asks

abbrev pub name_of : Ask → List ℕ
name_of (ToRead name) = name
name_of (ToWrite name) = name

-- the name of the last ask; before the first it is empty
abbrev pub last_name : List Ask → List ℕ
last_name [] = []
last_name (ask ∷ asks) = name_of ask
