-- Which images may be written, read and loaded.
use Rattle.std.specs.Prelude.{◌≡◌, ℕ, ◌+◌, ◌%◌, ◌≤◌, ◌^◌, List, [], ◌∷◌, length, true}
use Rattle.rv_form.specs.declared.image.Image.{Image}
use Rattle.rv_form.specs.declared.image.Segment.{Segment}
use Rattle.rv_form.specs.Image.{Executing, allows}

-- the first address past a segment
abbrev pub end_of : Segment → ℕ
end_of segment = segment.vaddr + segment.memsz

-- in the flags 4 is read, 2 written and 1 executed
pub record IsSegment (segment : Segment) : Type 0 where
  pub flags : segment.flags ≤ 7
  pub holds : length segment.bytes ≤ segment.memsz
  pub low : end_of segment ≤ 2 ^ 47

abbrev pub AreSegments : List Segment → Type 0
AreSegments [] = Unit {0}
AreSegments (segment ∷ rest) = IsSegment segment × AreSegments rest

-- each begins at this address or above
abbrev pub EachFrom : ℕ → List Segment → Type 0
EachFrom low [] = Unit {0}
EachFrom low (segment ∷ rest) = (low ≤ segment.vaddr) × EachFrom low rest

-- each begins at the end of each one before it, or above
abbrev pub Ascend : List Segment → Type 0
Ascend [] = Unit {0}
Ascend (segment ∷ rest) = EachFrom (end_of segment) rest × Ascend rest

-- the bytes of memory that segments take
abbrev pub memory_size : List Segment → ℕ
memory_size [] = 0
memory_size (segment ∷ rest) = segment.memsz + memory_size rest

-- the first instruction's first byte may be executed
pub record IsEntry (segments : List Segment) (entry : ℕ) : Type 0 where
  pub aligned : entry % 4 ≡ 0
  pub executed : allows segments Executing entry ≡ true

pub record IsValid (image : Image) : Type 0 where
  pub few : length image.segments ≤ 16
  pub each : AreSegments image.segments
  pub ascend : Ascend image.segments
  pub small : memory_size image.segments ≤ 2 ^ 31
  pub entry : IsEntry image.segments image.entry
