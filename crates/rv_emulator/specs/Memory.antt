-- Memory as the emulator keeps it: a table of regions that never changes, and the bytes of all of them, one
-- region's after another's.
use Rattle.std.specs.Prelude.{ℕ, zero, suc, ◌≡◌, ◌+◌, ◌-◌, ◌/◌, ◌%◌, ◌^◌, ◌≤◌, ◌<◌, List, [], ◌∷◌, length, Option, Some, None, Bool, true, if◌then◌else◌, nat_eq, nat_lt, nat_le, ◌&&◌, slice_index}
use Rattle.rv_form.specs.Image.{Access, flag_of}
use Rattle.rv_form.specs.Machine.{load}
use Rattle.rv_emulator.specs.declared.region.Region.{Region}
use Rattle.rv_emulator.specs.declared.region.Place.{Place}
use Rattle.rv_emulator.specs.declared.region.Place.TheVariants.{Whole, Apart}

abbrev pub has : Region → ℕ → Bool
has region a = nat_le region.start a && nat_lt a (region.start + region.size)

-- where the byte at an address stands, in bytes of which the first region's begin at `from`
abbrev pub place_from : (from : ℕ) → List Region → ℕ → Option ℕ
place_from from [] a = None
place_from from (region ∷ rest) a =
    if has region a then Some (from + (a - region.start)) else place_from (from + region.size) rest a

-- the flags of the region that has an address, and 0 where none has it
abbrev pub flags_in : List Region → ℕ → ℕ
flags_in [] a = 0
flags_in (region ∷ rest) a = if has region a then region.flags else flags_in rest a

abbrev pub byte_in : List ℕ → Option ℕ → ℕ
byte_in bytes None = 0
byte_in bytes (Some at) = slice_index bytes at

-- the byte at each address
abbrev pub memory_of : List Region → List ℕ → ℕ → ℕ
memory_of regions bytes a = byte_in bytes (place_from 0 regions a)

-- what memory holds
pub record Contents : Type 0 where
  -- how bytes may be used, which never changes
  pub regions : List Region
  -- the bytes of the regions, one's after another's
  pub bytes : List ℕ

-- the byte at each address, of what memory holds
abbrev pub cells : Contents → ℕ → ℕ
cells memory = memory_of memory.regions memory.bytes

abbrev pub has_flag : (flags flag : ℕ) → Bool
has_flag flags flag = nat_eq (flags / flag % 2) 1

-- whether the byte at an address may be used so
abbrev pub allowed : List Region → Access → ℕ → Bool
allowed regions access a = has_flag (flags_in regions a) (flag_of access)

-- whether so many bytes from an address on have a flag
abbrev pub all_flagged : List Region → (flag count a : ℕ) → Bool
all_flagged regions flag zero a = true
all_flagged regions flag (suc count) a = has_flag (flags_in regions a) flag && all_flagged regions flag count (a + 1)

-- the number that so many bytes hold, where all have a flag
abbrev pub loaded_by : List Region → List ℕ → (flag count a : ℕ) → Option ℕ
loaded_by regions bytes flag count a =
    if all_flagged regions flag count a then Some (load count (memory_of regions bytes) a) else None

abbrev pub total_of : List Region → ℕ
total_of [] = 0
total_of (region ∷ rest) = region.size + total_of rest

-- each region ends at 2^47 or below
abbrev pub AreLow : List Region → Type 0
AreLow [] = Unit {0}
AreLow (region ∷ rest) = (region.start + region.size ≤ 2 ^ 47) × AreLow rest

-- the bytes are those of the regions
pub record Laid (regions : List Region) (bytes : List ℕ) : Type 0 where
  pub low : AreLow regions
  pub whole : length bytes ≡ total_of regions

-- so many bytes from an address on stand side by side, with the same flags
pub record IsWhole (regions : List Region) (a count at flags : ℕ) : Type 0 where
  pub placed : (i : ℕ) → i < count → place_from 0 regions (a + i) ≡ Some (at + i)
  pub flagged : (i : ℕ) → i < count → flags_in regions (a + i) ≡ flags

-- An answer to where so many bytes stand. `Apart` says of one byte that no region has it, and else nothing.
abbrev pub IsPlaceOf : List Region → (a count : ℕ) → Place → Type 0
IsPlaceOf regions a count (Whole at flags) = IsWhole regions a count at flags
IsPlaceOf regions a count Apart = count ≡ 1 → (place_from 0 regions a ≡ None) × (flags_in regions a ≡ 0)

-- The first bytes stand at an address, so many of them with seven more behind each, and may be read and written.
pub record IsFront (regions : List Region) (start room : ℕ) : Type 0 where
  pub flags : ℕ
  pub whole : (i : ℕ) → i < room → IsWhole regions (start + i) 8 i flags
  pub reading : has_flag flags 4 ≡ true
  pub writing : has_flag flags 2 ≡ true
