-- The ELF file of an image (the ELF-64 object file format, little-endian): a header of 64 bytes, a
-- program header of 56 bytes for each segment, and the segments. Each segment stands at the least
-- multiple of 4,096 that is not below the end of what stands before it, with zeros between.
use Rattle.std.specs.Prelude.{ℕ, ◌+◌, ◌-◌, ◌*◌, ◌/◌, List, [], ◌∷◌, ◌++◌, length, replicate}
use Rattle.byteorder.specs.Endian.{little_bytes}
use Rattle.rv_form.specs.declared.image.Image.{Image}
use Rattle.rv_form.specs.declared.image.Segment.{Segment}
use Rattle.elf_write.specs.Fields.{ident}

-- magic, class, data and version with zeros after them; type 2 (executable), machine 243 (RISC-V),
-- version 1; the entry, the place of the program headers, no section headers, no flags; the sizes of the
-- header and of a program header, and how many of these there are; no section headers
abbrev pub header_bytes : (entry count : ℕ) → List ℕ
header_bytes entry count =
    ident ++ replicate 9 0
    ++ little_bytes 2 2 ++ little_bytes 2 243 ++ little_bytes 4 1
    ++ little_bytes 8 entry ++ little_bytes 8 64 ++ little_bytes 8 0 ++ little_bytes 4 0
    ++ little_bytes 2 64 ++ little_bytes 2 56 ++ little_bytes 2 count
    ++ little_bytes 2 0 ++ little_bytes 2 0 ++ little_bytes 2 0

-- type 1 (loaded), flags, offset, address twice, size in the file and in memory, alignment
abbrev pub program_header_bytes : (offset : ℕ) → Segment → List ℕ
program_header_bytes offset segment =
    little_bytes 4 1 ++ little_bytes 4 segment.flags
    ++ little_bytes 8 offset ++ little_bytes 8 segment.vaddr ++ little_bytes 8 segment.vaddr
    ++ little_bytes 8 (length segment.bytes) ++ little_bytes 8 segment.memsz ++ little_bytes 8 4096

-- the least multiple of 4,096 that is not below a place
abbrev pub page_from : ℕ → ℕ
page_from place = 4096 * ((place + 4095) / 4096)

-- the program headers of segments that stand from a place on
abbrev pub segment_headers : (place : ℕ) → List Segment → List ℕ
segment_headers place [] = []
segment_headers place (segment ∷ rest) =
    program_header_bytes (page_from place) segment ++ segment_headers (page_from place + length segment.bytes) rest

-- their bytes, with the zeros before each
abbrev pub segment_bytes : (place : ℕ) → List Segment → List ℕ
segment_bytes place [] = []
segment_bytes place (segment ∷ rest) =
    replicate (page_from place - place) 0
    ++ (segment.bytes ++ segment_bytes (page_from place + length segment.bytes) rest)

abbrev pub file_of : Image → List ℕ
file_of image =
    let count = length image.segments in
    let place = 64 + 56 * count in
    header_bytes image.entry count
    ++ (segment_headers place image.segments ++ segment_bytes place image.segments)
