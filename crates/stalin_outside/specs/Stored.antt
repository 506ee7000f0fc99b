-- Files in memory, in a list in which the first of a name counts.
use Rattle.std.specs.Prelude.{ℕ, ◌≡◌, ◌≢◌, ◌-◌, Bool, List, [], ◌++◌, length, Option, find}
use Rattle.std.specs.Option.{option_map, option_map_or}
use Rattle.std.specs.Str.{bytes_eq}
use Rattle.stalin_outside.specs.Shelf.{Files}

-- a file in memory: writes may grow it to its room
pub record Stored : Type 0 where
  pub name : List ℕ
  pub bytes : List ℕ
  pub room : ℕ

abbrev pub is_named : (name : List ℕ) → Stored → Bool
is_named name file = bytes_eq file.name name

-- the file of a name, where there is one
abbrev pub stored : List Stored → (name : List ℕ) → Option Stored
stored files name = find (is_named name) files

-- what the files hold, by their names
abbrev pub contents : List Stored → Files
contents files name = option_map (λ file. file.bytes) (stored files name)

abbrev pub emptied : Stored → Stored
emptied file = record file { bytes = [] }

abbrev pub grown : (bytes : List ℕ) → Stored → Stored
grown bytes file = record file { bytes = file.bytes ++ bytes }

-- the name has this file, and every other name has the file that it had
pub record Puts (name : List ℕ) (file : Option Stored) (before now : List Stored) : Type 0 where
  pub changed : stored now name ≡ file
  pub others : (other : List ℕ) → other ≢ name → stored now other ≡ stored before other

-- how many bytes writes may still put into a file
abbrev pub free_room : Option Stored → ℕ
free_room file = option_map_or (λ f. f.room - length f.bytes) file 0
