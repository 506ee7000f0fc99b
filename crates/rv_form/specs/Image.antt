-- What an image loads: the byte at each address, and who may use it.
use Rattle.std.specs.Prelude.{ℕ, ◌+◌, ◌-◌, ◌/◌, ◌%◌, List, [], ◌∷◌, Bool, if◌then◌else◌, nat_eq, nat_lt, nat_le, ◌&&◌, slice_index}
use Rattle.rv_form.specs.declared.image.Segment.{Segment}

-- how a byte of memory is used
pub data Access : Type 0 where
  Executing : Access
  Writing : Access
  Reading : Access

abbrev pub flag_of : Access → ℕ
flag_of Executing = 1
flag_of Writing = 2
flag_of Reading = 4

abbrev pub lies_in : Segment → ℕ → Bool
lies_in segment a = nat_le segment.vaddr a && nat_lt a (segment.vaddr + segment.memsz)

-- the flags of the segment that has an address, and 0 where none has it
abbrev pub flags_at : List Segment → ℕ → ℕ
flags_at [] a = 0
flags_at (segment ∷ rest) a = if lies_in segment a then segment.flags else flags_at rest a

-- the byte that is loaded at an address: past a segment's bytes it is 0
abbrev pub byte_at : List Segment → ℕ → ℕ
byte_at [] a = 0
byte_at (segment ∷ rest) a = if lies_in segment a then slice_index segment.bytes (a - segment.vaddr) else byte_at rest a

-- whether the byte at an address may be used so
abbrev pub allows : List Segment → Access → ℕ → Bool
allows segments access a = nat_eq (flags_at segments a / flag_of access % 2) 1
