-- Which bytes are the file of an image, and which check is the first that others fail.
--
-- The checks stand in this order: the file's header is there; it is that of an ELF file of 64 bits; the
-- file is a RISC-V program with 1 to 16 program headers; these lie in the file; each of them in turn may
-- be taken; the entry may be executed. All else in the file is ignored.
use Rattle.std.specs.Prelude.{◌≡◌, ◌≢◌, ℕ, zero, suc, ◌+◌, ◌*◌, ◌<◌, ◌≤◌, ◌^◌, ◌⊎◌, max, nat_eq, if◌then◌else◌, List, [], ◌∷◌, ◌++◌, length, take, drop, IsTrue}
use Rattle.std.specs.List.{starts_with}
use Rattle.rv_form.specs.declared.image.Image.{Image}
use Rattle.rv_form.specs.declared.image.Segment.{Segment}
use Rattle.elf_write.specs.declared.header.ProgramHeader.{ProgramHeader}
use Rattle.elf_write.specs.declared.error.ElfErr.{ElfErr}
use Rattle.elf_write.specs.declared.error.ElfErr.TheVariants as breaks
use Rattle.elf_write.specs.Fields.{ident, type_of, machine_of, version_of, entry_of, headers_place, header_size, program_header_size, headers_count, program_header}
use Rattle.elf_write.specs.Valid.{end_of, memory_size, IsEntry}

-- The file's header

abbrev pub IsLong : List ℕ → Type 0
IsLong bytes = 64 ≤ length bytes

abbrev pub HasMagic : List ℕ → Type 0
HasMagic bytes = IsTrue (starts_with nat_eq bytes ident)

pub record IsProgram (bytes : List ℕ) : Type 0 where
  pub type : type_of bytes ≡ 2
  pub machine : machine_of bytes ≡ 243
  pub version : version_of bytes ≡ 1
  pub header : header_size bytes ≡ 64
  pub program_header : program_header_size bytes ≡ 56
  pub some : 1 ≤ headers_count bytes
  pub few : headers_count bytes ≤ 16

-- the program headers lie in the file
abbrev pub HasHeaders : List ℕ → Type 0
HasHeaders bytes = headers_place bytes + 56 * headers_count bytes ≤ length bytes

pub record HasHeader (bytes : List ℕ) : Type 0 where
  pub long : IsLong bytes
  pub magic : HasMagic bytes
  pub program : IsProgram bytes
  pub headers : HasHeaders bytes

-- The program headers

-- the segment that a program header describes: its bytes are those of the file from `offset` on
abbrev pub segment_of : List ℕ → ProgramHeader → Segment
segment_of bytes header =
    record {
      vaddr = header.vaddr;
      memsz = header.memsz;
      flags = header.flags;
      bytes = take header.filesz (drop header.offset bytes);
    }

-- type 1 is a segment that is loaded
abbrev pub segments_of : List ℕ → ProgramHeader → List Segment
segments_of bytes header = if nat_eq header.kind 1 then segment_of bytes header ∷ [] else []

-- the segments of the first k program headers
abbrev pub loaded : List ℕ → (k : ℕ) → List Segment
loaded bytes zero = []
loaded bytes (suc k) = loaded bytes k ++ segments_of bytes (program_header bytes k)

-- the greatest of the ends of segments
abbrev pub top : List Segment → ℕ
top [] = 0
top (segment ∷ rest) = max (end_of segment) (top rest)

-- a segment may be loaded from a file of this size after those before it
pub record IsLoadable (size : ℕ) (before : List Segment) (header : ProgramHeader) : Type 0 where
  pub flags : header.flags ≤ 7
  pub holds : header.filesz ≤ header.memsz
  pub inside : header.offset + header.filesz ≤ size
  pub low : header.vaddr + header.memsz ≤ 2 ^ 47
  pub above : top before ≤ header.vaddr
  pub small : memory_size before + header.memsz ≤ 2 ^ 31

-- types 2 and 3 want a dynamic linker; all but these and 1 are passed over
pub record IsTaken (size : ℕ) (before : List Segment) (header : ProgramHeader) : Type 0 where
  pub not_dynamic : header.kind ≢ 2
  pub not_interpreted : header.kind ≢ 3
  pub loadable : header.kind ≡ 1 → IsLoadable size before header

abbrev pub TakenAt : List ℕ → (k : ℕ) → Type 0
TakenAt bytes k = IsTaken (length bytes) (loaded bytes k) (program_header bytes k)

-- the first n of them are taken
abbrev pub Taken : List ℕ → (n : ℕ) → Type 0
Taken bytes n = (k : ℕ) → k < n → TakenAt bytes k

-- The whole

-- the image in the file
abbrev pub image_of : List ℕ → Image
image_of bytes = record { entry = entry_of bytes; segments = loaded bytes (headers_count bytes) }

-- the bytes are a file of this image
pub record HoldsImage (bytes : List ℕ) (image : Image) : Type 0 where
  pub header : HasHeader bytes
  pub taken : Taken bytes (headers_count bytes)
  pub entry : IsEntry (loaded bytes (headers_count bytes)) (entry_of bytes)
  pub is : image ≡ image_of bytes

-- the first check that the bytes fail is this one's
abbrev pub Breaks : List ℕ → ElfErr → Type 0
Breaks bytes breaks.Short =
    (¬ IsLong bytes) ⊎ (IsLong bytes × HasMagic bytes × IsProgram bytes × (¬ HasHeaders bytes))
Breaks bytes breaks.Magic = IsLong bytes × (¬ HasMagic bytes)
Breaks bytes breaks.Kind = IsLong bytes × HasMagic bytes × (¬ IsProgram bytes)
Breaks bytes (breaks.Segment index) =
    HasHeader bytes × (index < headers_count bytes) × Taken bytes index × (¬ TakenAt bytes index)
Breaks bytes breaks.Entry =
    HasHeader bytes × Taken bytes (headers_count bytes)
    × (¬ IsEntry (loaded bytes (headers_count bytes)) (entry_of bytes))
Breaks bytes breaks.NoMemory = Unit {0}

-- bytes have one image or one first check that they fail, and not both
pub record OneAnswer (bytes : List ℕ) : Type 0 where
  pub image : (one other : Image) → HoldsImage bytes one → HoldsImage bytes other → one ≡ other
  pub whole : (image : Image) (err : ElfErr) → HoldsImage bytes image → Breaks bytes err → err ≡ breaks.NoMemory
  pub broken :
      (one other : ElfErr) → Breaks bytes one → Breaks bytes other
      → one ≢ breaks.NoMemory → other ≢ breaks.NoMemory → one ≡ other
