-- The fields of an ELF file (the ELF-64 object file format), by their places. All are little-endian.
use Rattle.std.specs.Prelude.{ℕ, ◌+◌, ◌*◌, List, drop, ◌∷◌, []}
use Rattle.byteorder.specs.Endian.{little_number}
use Rattle.elf_write.specs.declared.header.ProgramHeader.{ProgramHeader}

-- the number in so many bytes from a place on
abbrev pub number_at : (size at : ℕ) → List ℕ → ℕ
number_at size at bytes = little_number size (drop at bytes)

-- The file's header, 64 bytes

-- magic, class 2 (64 bits), data 1 (little-endian), version 1
abbrev pub ident : List ℕ
ident = 127 ∷ 69 ∷ 76 ∷ 70 ∷ 2 ∷ 1 ∷ 1 ∷ []

-- what the file is: 2 is a program; and the machine that it is for: 243 is RISC-V
abbrev pub type_of : List ℕ → ℕ
type_of bytes = number_at 2 16 bytes

abbrev pub machine_of : List ℕ → ℕ
machine_of bytes = number_at 2 18 bytes

abbrev pub version_of : List ℕ → ℕ
version_of bytes = number_at 4 20 bytes

abbrev pub entry_of : List ℕ → ℕ
entry_of bytes = number_at 8 24 bytes

-- where the program headers stand in the file
abbrev pub headers_place : List ℕ → ℕ
headers_place bytes = number_at 8 32 bytes

-- the sizes of this header and of a program header, and how many of these there are
abbrev pub header_size : List ℕ → ℕ
header_size bytes = number_at 2 52 bytes

abbrev pub program_header_size : List ℕ → ℕ
program_header_size bytes = number_at 2 54 bytes

abbrev pub headers_count : List ℕ → ℕ
headers_count bytes = number_at 2 56 bytes

-- Program headers, 56 bytes each

-- the one that stands at a place
abbrev pub header_at : (at : ℕ) → List ℕ → ProgramHeader
header_at at bytes =
    record {
      kind = number_at 4 at bytes;
      flags = number_at 4 (at + 4) bytes;
      offset = number_at 8 (at + 8) bytes;
      vaddr = number_at 8 (at + 16) bytes;
      filesz = number_at 8 (at + 32) bytes;
      memsz = number_at 8 (at + 40) bytes;
    }

-- program header k, counted from 0
abbrev pub program_header : List ℕ → (k : ℕ) → ProgramHeader
program_header bytes k = header_at (headers_place bytes + 56 * k) bytes
