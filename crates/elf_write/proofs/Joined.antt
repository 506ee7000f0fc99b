-- The parts of a file, put one after the other.
use Rattle.std.proofs.Common.{◌≡◌, ℕ, suc, ◌+◌, ◌*◌, ◌≤◌, List, [], ◌∷◌, ◌++◌, zero, length, drop, get_or, ◌<◌, ◌^◌, sym, ap, ap₂, subst, ◌∙◌, arith, append_assoc, length-append}
use Rattle.rv_form.specs.declared.image.Image.{Image}
use Rattle.rv_form.specs.declared.image.Segment.{Segment}
use Rattle.elf_write.specs.Valid.{IsSegment, AreSegments, memory_size, IsValid}
use Rattle.elf_write.specs.File.{header_bytes, program_header_bytes, page_from, segment_headers, segment_bytes, file_of}
use Rattle.elf_write.specs.Reading.{HoldsImage}
use Rattle.elf_write.proofs.WrittenIsRead.{reads_back, length_headers, page_near}

pub file_joined : (image : Image) (start head headers file : List ℕ) → start ≡ []
    → head ≡ start ++ header_bytes image.entry (length image.segments)
    → headers ≡ head ++ segment_headers (64 + 56 * length image.segments) image.segments
    → file ≡ headers ++ segment_bytes (length headers) image.segments → file ≡ file_of image
file_joined image start head headers file empty one two three =
    let count = length image.segments in
    let place = 64 + 56 * count in
    let first : head ≡ header_bytes image.entry count = one ∙ ap (λ s. s ++ header_bytes image.entry count) empty in
    let size : length headers ≡ place =
    ap length two
    ∙ (length-append head (segment_headers place image.segments)
    ∙ ap₂ ◌+◌ (ap length first) (length_headers place image.segments))
    in
    three
    ∙ (ap (λ n. headers ++ segment_bytes n image.segments) size
    ∙ (ap (λ h. h ++ segment_bytes place image.segments) (two ∙ ap (λ h. h ++ segment_headers place image.segments) first)
    ∙ append_assoc (header_bytes image.entry count) (segment_headers place image.segments) (segment_bytes place image.segments)))

pub read_joined : (image : Image) (file : List ℕ) → IsValid image → file ≡ file_of image → HoldsImage file image
read_joined image file valid is = subst (λ bytes. HoldsImage bytes image) (sym is) (reads_back image valid)

-- the segment at a place, and those after it
pub drop_more : (segments : List Segment) (i : ℕ) (segment : Segment) → i < length segments
    → segment ≡ get_or segments i segment → drop i segments ≡ segment ∷ drop (i + 1) segments
drop_more [] i segment below is = absurd (omega arith)
drop_more (first ∷ rest) zero segment below is = ap (λ s. s ∷ rest) (sym is)
drop_more (first ∷ rest) (suc i) segment below is =
    let next : suc (i + 1) ≡ suc i + 1 = omega arith in
    drop_more rest i segment (omega arith) is ∙ ap (λ n. segment ∷ drop n (first ∷ rest)) next

pub headers_more : (segments : List Segment) (i place offset size : ℕ) (segment : Segment) (file header now whole : List ℕ)
    → drop i segments ≡ segment ∷ drop (i + 1) segments → offset ≡ page_from place → size ≡ length segment.bytes
    → header ≡ program_header_bytes offset segment → now ≡ file ++ header
    → file ++ segment_headers place (drop i segments) ≡ whole
    → now ++ segment_headers (offset + size) (drop (i + 1) segments) ≡ whole
headers_more segments i place offset size segment file header now whole cut page sized is added was =
    let rest = drop (i + 1) segments in
    let one : header ≡ program_header_bytes (page_from place) segment = is ∙ ap (λ p. program_header_bytes p segment) page in
    let next : offset + size ≡ page_from place + length segment.bytes = ap₂ ◌+◌ page sized in
    ap₂ ◌++◌ added (ap (λ p. segment_headers p rest) next)
    ∙ (append_assoc file header (segment_headers (page_from place + length segment.bytes) rest)
    ∙ (ap (λ h. file ++ (h ++ segment_headers (page_from place + length segment.bytes) rest)) one
    ∙ (ap (λ s. file ++ segment_headers place s) (sym cut) ∙ was)))

pub each_more : (segments : List Segment) (i : ℕ) (segment : Segment) → drop i segments ≡ segment ∷ drop (i + 1) segments
    → AreSegments (drop i segments) → AreSegments (segment ∷ drop (i + 1) segments)
each_more segments i segment cut each = subst AreSegments cut each

pub room_more : (segments : List Segment) (i place offset size : ℕ) (segment : Segment)
    → drop i segments ≡ segment ∷ drop (i + 1) segments → offset ≡ page_from place → size ≡ length segment.bytes
    → IsSegment segment → place + 4096 * length (drop i segments) + memory_size (drop i segments) ≤ 2 ^ 33
    → offset + size + 4096 * length (drop (i + 1) segments) + memory_size (drop (i + 1) segments) ≤ 2 ^ 33
room_more segments i place offset size segment cut page sized is room =
    let near = page_near place in
    let holds = is.holds in
    let many = ap length cut in
    let much = ap memory_size cut in
    omega arith
