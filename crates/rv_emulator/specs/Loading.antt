-- How an image is loaded.
use Rattle.std.specs.Prelude.{Bool, true, false, reverse, map, ◌≡◌, ℕ, ◌+◌, ◌-◌, ◌^◌, ◌≤◌, List, [], ◌∷◌, ◌++◌, length, replicate}
use Rattle.std.specs.List.{flat_map}
use Rattle.rv_form.specs.declared.image.Segment.{Segment}
use Rattle.rv_form.specs.Image.{byte_at, flags_at}
use Rattle.rv_emulator.specs.declared.region.Region.{Region}
use Rattle.rv_emulator.specs.Memory.{Contents}

abbrev pub region_of : Segment → Region
region_of segment = record { start = segment.vaddr; size = segment.memsz; flags = segment.flags }

-- the bytes of a segment, and then zeros
abbrev pub bytes_in : Segment → List ℕ
bytes_in segment = segment.bytes ++ replicate (segment.memsz - length segment.bytes) 0

-- how many bytes segments load
abbrev pub room_of : List Segment → ℕ
room_of [] = 0
room_of (segment ∷ rest) = segment.memsz + room_of rest

-- each segment has room for its bytes and ends at 2^47 or below
abbrev pub AreFit : List Segment → Type 0
AreFit [] = Unit {0}
AreFit (segment ∷ rest) = (length segment.bytes ≤ segment.memsz) × (segment.vaddr + segment.memsz ≤ 2 ^ 47) × AreFit rest

-- segments that can be loaded: those of an image that keeps the rules of ELF files are so
pub record IsLoadable (segments : List Segment) : Type 0 where
  pub fit : AreFit segments
  pub room : room_of segments ≤ 2 ^ 31

-- each segment begins where the ones before it have ended, or above
abbrev pub Rise : (from : ℕ) → List Segment → Type 0
Rise from [] = Unit {0}
Rise from (segment ∷ rest) = (from ≤ segment.vaddr) × Rise (segment.vaddr + segment.memsz) rest

abbrev pub ordered : (backwards : Bool) → List Segment → List Segment
ordered true segments = reverse segments
ordered false segments = segments

-- memory holds what segments load, in an order in which they are the same memory
pub record LaysOut (segments : List Segment) (memory : Contents) : Type 0 where
  pub order : List Segment
  pub fit : AreFit order
  pub of_regions : memory.regions ≡ map region_of order
  pub of_bytes : memory.bytes ≡ flat_map bytes_in order
  pub same_bytes : byte_at order ≡ byte_at segments
  pub same_flags : (a : ℕ) → flags_at order a ≡ flags_at segments a
