-- What reading and writing whole files does, by the answer.
use Rattle.std.specs.Prelude.{ℕ, ◌≡◌, ◌+◌, ◌<◌, ◌≤◌, ◌⊎◌, List, ◌∷◌, ◌++◌, length, take, Option, Some, None}
use Rattle.stalin_outside.specs.declared.shelf.Ask.{Ask}
use Rattle.stalin_outside.specs.declared.shelf.Ask.TheVariants.{ToRead, ToWrite}
use Rattle.stalin_outside.specs.Shelf.{Files, WhereTold, SameFiles, ChangesOnly, Grows}
use Rattle.stalin_outside.specs.declared.whole_files.Reading.{Reading}
use Rattle.stalin_outside.specs.declared.whole_files.Reading.TheVariants as reads
use Rattle.stalin_outside.specs.declared.whole_files.Writing.{Writing}
use Rattle.stalin_outside.specs.declared.whole_files.Writing.TheVariants as writes

-- Reading

-- what was read of a file with this content: the whole, of so many bytes at most, or that it has more
abbrev pub HasRead : (most : ℕ) → (content : Option (List ℕ)) → Reading → Type 0
HasRead most content (reads.Whole bytes) = (content ≡ Some bytes) × (length bytes ≤ most)
HasRead most content reads.TooLong = (text : List ℕ) × (content ≡ Some text) × (most < length text)
HasRead most content reads.Fault = Unit {0}
HasRead most content reads.NoMemory = Unit {0}

-- what is known of it where the shelf does not tell its files
abbrev pub IsWithin : (most : ℕ) → Reading → Type 0
IsWithin most (reads.Whole bytes) = length bytes ≤ most
IsWithin most reads.TooLong = Unit {0}
IsWithin most reads.Fault = Unit {0}
IsWithin most reads.NoMemory = Unit {0}

abbrev pub ReadsFile : (most : ℕ) → Option Files → (name : List ℕ) → Reading → Type 0
ReadsFile most None name answer = IsWithin most answer
ReadsFile most (Some files) name answer = HasRead most (files name) answer

-- the same of what is left of a file that is begun
abbrev pub ReadsRest : (most : ℕ) → Option Files → (left : List ℕ) → Reading → Type 0
ReadsRest most None left answer = IsWithin most answer
ReadsRest most (Some files) left answer = HasRead most (Some left) answer

-- the file was asked for, but where memory may have been wanted before
abbrev pub AskedToRead : (name : List ℕ) → Reading → (before now : List Ask) → Type 0
AskedToRead name (reads.Whole bytes) before now = now ≡ ToRead name ∷ before
AskedToRead name reads.TooLong before now = now ≡ ToRead name ∷ before
AskedToRead name reads.Fault before now = now ≡ ToRead name ∷ before
AskedToRead name reads.NoMemory before now = (now ≡ before) ⊎ (now ≡ ToRead name ∷ before)

-- of a file that is too long one byte more was read than it may have, and the others are left
abbrev pub HasLeft : (most : ℕ) → (content : Option (List ℕ)) → (left : List ℕ) → Reading → Type 0
HasLeft most content left (reads.Whole bytes) = Unit {0}
HasLeft most content left reads.TooLong =
    (front : List ℕ) × (length front ≡ most + 1) × (content ≡ Some (front ++ left))
HasLeft most content left reads.Fault = Unit {0}
HasLeft most content left reads.NoMemory = Unit {0}

abbrev pub LeavesFile : (most : ℕ) → Option Files → (name left : List ℕ) → Reading → Type 0
LeavesFile most None name left answer = Unit {0}
LeavesFile most (Some files) name left answer = HasLeft most (files name) left answer

abbrev pub LeavesRest : (most : ℕ) → Option Files → (before left : List ℕ) → Reading → Type 0
LeavesRest most None before left answer = Unit {0}
LeavesRest most (Some files) before left answer = HasLeft most (Some before) left answer

-- Writing

-- the file holds bytes from the front of these, and no other file changed
abbrev pub HoldsFront : (name bytes : List ℕ) → Files → Files → Type 0
HoldsFront name bytes before now =
    (k : ℕ) × (k ≤ length bytes) × ChangesOnly name (Some (take k bytes)) before now

-- after a fault all files are as before, or the file holds bytes from the front
abbrev pub WritesFile : (name bytes : List ℕ) → Writing → Option Files → Option Files → Type 0
WritesFile name bytes writes.Done before now = WhereTold (ChangesOnly name (Some bytes)) before now
WritesFile name bytes writes.Fault before now =
    SameFiles before now ⊎ WhereTold (HoldsFront name bytes) before now
WritesFile name bytes writes.NoMemory before now = SameFiles before now

abbrev pub GrowsByFront : (name bytes : List ℕ) → Files → Files → Type 0
GrowsByFront name bytes before now = (k : ℕ) × (k ≤ length bytes) × Grows name (take k bytes) before now

-- the same of bytes that are put at the end of a file that is begun
abbrev pub WritesRest : (name bytes : List ℕ) → Writing → Option Files → Option Files → Type 0
WritesRest name bytes writes.Done before now = WhereTold (Grows name bytes) before now
WritesRest name bytes writes.Fault before now = WhereTold (GrowsByFront name bytes) before now
WritesRest name bytes writes.NoMemory before now = ⊥

abbrev pub AskedToWrite : (name : List ℕ) → Writing → (before now : List Ask) → Type 0
AskedToWrite name writes.Done before now = now ≡ ToWrite name ∷ before
AskedToWrite name writes.Fault before now = now ≡ ToWrite name ∷ before
AskedToWrite name writes.NoMemory before now = now ≡ before
