-- Reading the file that is written of an image gives the image.
use Rattle.std.proofs.Common.{◌≡◌, ℕ, suc, ◌+◌, ◌-◌, ◌*◌, ◌/◌, ◌%◌, ◌≤◌, ◌<◌, ◌^◌, true, List, [], ◌∷◌, ◌++◌, length, take, drop, replicate, refl, sym, ap, subst, ◌∙◌, arith, nat_eq, Bool, false, if◌then◌else◌, append_assoc, append-nil, zero-add, length-append}
use Rattle.std.proofs.lemmas.List.{drop-drop, drop_at, take_at, length-replicate}
use borrow.Author.Count.{below_more}
use Rattle.byteorder.specs.Endian.{little_number, little_bytes}
use Rattle.byteorder.specs.Numbers.{little_number-reads_back}
use Rattle.rv_form.specs.declared.image.Image.{Image}
use Rattle.rv_form.specs.declared.image.Segment.{Segment}
use Rattle.rv_form.specs.Image.{Executing, allows, lies_in, flags_at}
use Rattle.elf_write.specs.declared.header.ProgramHeader.{ProgramHeader}
use Rattle.elf_write.specs.Valid.{end_of, memory_size, IsSegment, AreSegments, EachFrom, Ascend, IsEntry, IsValid}
use Rattle.elf_write.specs.Fields.{entry_of, number_at, headers_place, headers_count, header_at, program_header}
use Rattle.elf_write.specs.File.{program_header_bytes, segment_headers, segment_bytes, page_from, file_of}
use Rattle.elf_write.specs.Reading.{segment_of, segments_of, loaded, top, IsTaken, TakenAt, Taken, HoldsImage}
use Rattle.elf_write.proofs.Loading.{top_append, memory_append}

-- One program header

-- what a file says of a segment whose bytes stand at a place
abbrev described : (offset : ℕ) → Segment → ProgramHeader
described offset segment =
    record {
      kind = 1;
      flags = segment.flags;
      offset = offset;
      vaddr = segment.vaddr;
      filesz = length segment.bytes;
      memsz = segment.memsz;
    }

-- a field of a header that stands at a place
field : (bytes header : List ℕ) (place within size x : ℕ) → drop place bytes ≡ header
    → drop within header ≡ little_bytes size x ++ drop (within + size) header → x < 256 ^ size
    → number_at size (place + within) bytes ≡ x
field bytes header place within size x stands is small =
    ap (little_number size) (sym (drop-drop within place bytes) ∙ (ap (drop within) stands ∙ is))
    ∙ little_number-reads_back size x (drop (within + size) header) small

header_back : (bytes rest : List ℕ) (place offset : ℕ) (segment : Segment)
    → drop place bytes ≡ program_header_bytes offset segment ++ rest → offset < 2 ^ 64 → IsSegment segment
    → header_at place bytes ≡ described offset segment
header_back bytes rest place offset segment stands far is =
    let holds = is.holds in
    let low = is.low in
    let header = program_header_bytes offset segment ++ rest in
    let flags : number_at 4 (place + 4) bytes ≡ segment.flags = field bytes header place 4 4 segment.flags stands refl (omega (arith, is.flags)) in
    let from : number_at 8 (place + 8) bytes ≡ offset = field bytes header place 8 8 offset stands refl (omega arith) in
    let vaddr : number_at 8 (place + 16) bytes ≡ segment.vaddr = field bytes header place 16 8 segment.vaddr stands refl (omega arith) in
    let filesz : number_at 8 (place + 32) bytes ≡ length segment.bytes = field bytes header place 32 8 (length segment.bytes) stands refl (omega arith) in
    let memsz : number_at 8 (place + 40) bytes ≡ segment.memsz = field bytes header place 40 8 segment.memsz stands refl (omega arith) in
    λ i.
    record {
      kind = ap (little_number 4) stands i;
      flags = flags i;
      offset = from i;
      vaddr = vaddr i;
      filesz = filesz i;
      memsz = memsz i;
    }

-- Bytes at a place

-- from a place on the file has these bytes, and no more
record Stands (bytes : List ℕ) (place : ℕ) (these : List ℕ) : Type 0 where
  is : drop place bytes ≡ these
  all : length bytes ≡ place + length these

past : (bytes front rest : List ℕ) (place : ℕ) → Stands bytes place (front ++ rest) → Stands bytes (place + length front) rest
past bytes front rest place stands =
    record {
      is = sym (drop-drop (length front) place bytes) ∙ ap (drop (length front)) stands.is ∙ drop_at front rest (length front) refl;
      all = omega (arith, stands.all, length-append front rest);
    }

-- the zeros before a segment
page_ahead : (place : ℕ) → place + (page_from place - place) ≡ page_from place
page_ahead place = omega arith

on_page : (bytes rest : List ℕ) (place : ℕ) → Stands bytes place (replicate (page_from place - place) 0 ++ rest)
    → Stands bytes (page_from place) rest
on_page bytes rest place stands =
    let pad = replicate (page_from place - place) 0 in
    let size : length pad ≡ page_from place - place = length-replicate (page_from place - place) 0 in
    subst (λ p. Stands bytes p rest) (ap (λ n. place + n) size ∙ page_ahead place) (past bytes pad rest place stands)

segment_back : (bytes rest : List ℕ) (offset : ℕ) (segment : Segment) → Stands bytes offset (segment.bytes ++ rest)
    → segment_of bytes (described offset segment) ≡ segment
segment_back bytes rest offset segment stands =
    let found : take (length segment.bytes) (drop offset bytes) ≡ segment.bytes =
    ap (take (length segment.bytes)) stands.is ∙ take_at segment.bytes rest (length segment.bytes) refl
    in
    λ i. record { vaddr = segment.vaddr; memsz = segment.memsz; flags = segment.flags; bytes = found i }

-- One segment after those before it

-- what is known where the first j program headers are read: the segments before, and those that are left
record At (bytes tail : List ℕ) (before segments : List Segment) (j place : ℕ) : Type 0 where
  headers : drop (64 + 56 * j) bytes ≡ segment_headers place segments ++ tail
  contents : Stands bytes place (segment_bytes place segments)
  room : place + 4096 * length segments + memory_size segments ≤ 2 ^ 33
  loads : loaded bytes j ≡ before
  taken : Taken bytes j
  each : AreSegments segments
  above : EachFrom (top before) segments
  ascend : Ascend segments
  small : memory_size before + memory_size segments ≤ 2 ^ 31

taken_more : (bytes : List ℕ) (j : ℕ) → Taken bytes j → TakenAt bytes j → Taken bytes (suc j)
taken_more bytes j taken here = λ k below. below_more (TakenAt bytes) j taken here k (omega arith)

each_from_zero : (segments : List Segment) → EachFrom 0 segments
each_from_zero [] = tt
each_from_zero (segment ∷ rest) = (omega arith, each_from_zero rest)

pub page_near : (place : ℕ) → page_from place ≤ place + 4095
page_near place = omega arith

one_at : (bytes tail : List ℕ) (before rest : List Segment) (segment : Segment) (j place : ℕ) → headers_place bytes ≡ 64
    → At bytes tail before (segment ∷ rest) j place → program_header bytes j ≡ described (page_from place) segment
one_at bytes tail before rest segment j place table at =
    let near = page_near place in
    let front = program_header_bytes (page_from place) segment in
    let left = segment_headers (page_from place + length segment.bytes) rest in
    let here : drop (headers_place bytes + 56 * j) bytes ≡ front ++ (left ++ tail) =
    ap (λ p. drop (p + 56 * j) bytes) table ∙ (at.headers ∙ append_assoc front left tail)
    in
    header_back bytes _ _ (page_from place) segment here (omega (arith, at.room)) at.each.0

contents_at : (bytes tail : List ℕ) (before rest : List Segment) (segment : Segment) (j place : ℕ)
    → At bytes tail before (segment ∷ rest) j place
    → Stands bytes (page_from place) (segment.bytes ++ segment_bytes (page_from place + length segment.bytes) rest)
contents_at bytes tail before rest segment j place at = on_page bytes _ place at.contents

taken_at : (bytes tail : List ℕ) (before rest : List Segment) (segment : Segment) (j place : ℕ)
    → At bytes tail before (segment ∷ rest) j place → IsTaken (length bytes) before (described (page_from place) segment)
taken_at bytes tail before rest segment j place at =
    let is = at.each.0 in
    let stands = contents_at bytes tail before rest segment j place at in
    record {
      not_dynamic = λ e. absurd (omega arith);
      not_interpreted = λ e. absurd (omega arith);
      loadable =
          λ kind.
          record {
            flags = is.flags;
            holds = is.holds;
            inside = omega (arith, stands.all, length-append segment.bytes (segment_bytes (page_from place + length segment.bytes) rest));
            low = is.low;
            above = at.above.0;
            small = omega (arith, at.small);
          };
    }

next_at : (bytes tail : List ℕ) (before rest : List Segment) (segment : Segment) (j place : ℕ) → headers_place bytes ≡ 64
    → At bytes tail before (segment ∷ rest) j place
    → At bytes tail (before ++ segment ∷ []) rest (suc j) (page_from place + length segment.bytes)
next_at bytes tail before rest segment j place table at =
    let header = one_at bytes tail before rest segment j place table at in
    let stands = contents_at bytes tail before rest segment j place at in
    let is = at.each.0 in
    let near = page_near place in
    let size = memory_append before segment in
    let top_now : top (before ++ segment ∷ []) ≡ end_of segment = top_append before segment at.above.0 in
    let front = program_header_bytes (page_from place) segment in
    let left = segment_headers (page_from place + length segment.bytes) rest in
    let moved : drop (64 + 56 * suc j) bytes ≡ drop 56 (drop (64 + 56 * j) bytes) =
    ap (λ n. drop n bytes) (omega arith) ∙ sym (drop-drop 56 (64 + 56 * j) bytes)
    in
    record {
      headers = moved ∙ (ap (drop 56) at.headers ∙ (ap (drop 56) (append_assoc front left tail) ∙ drop_at front (left ++ tail) 56 refl));
      contents = past bytes segment.bytes _ (page_from place) stands;
      room = omega (arith, at.room, is.holds);
      loads =
          ap (λ h. loaded bytes j ++ segments_of bytes h) header
          ∙ (ap (λ s. loaded bytes j ++ s ∷ []) (segment_back bytes _ (page_from place) segment stands)
          ∙ ap (λ b. b ++ segment ∷ []) at.loads);
      taken =
          taken_more bytes j at.taken
          (subst (λ h. IsTaken (length bytes) (loaded bytes j) h) (sym header)
          (subst (λ b. IsTaken (length bytes) b (described (page_from place) segment)) (sym at.loads)
          (taken_at bytes tail before rest segment j place at)));
      each = at.each.1;
      above = subst (λ low. EachFrom low rest) (sym top_now) at.ascend.0;
      ascend = at.ascend.1;
      small = omega (arith, at.small, size);
    }

-- All of them

record Done (bytes : List ℕ) (segments : List Segment) (n : ℕ) : Type 0 where
  loads : loaded bytes n ≡ segments
  taken : Taken bytes n

all_at : (bytes tail : List ℕ) (before segments : List Segment) (j place n : ℕ) → headers_place bytes ≡ 64
    → n ≡ j + length segments → At bytes tail before segments j place → Done bytes (before ++ segments) n
all_at bytes tail before [] j place n table count at =
    subst (λ k. Done bytes (before ++ []) k) (sym (count ∙ omega arith))
    (record { loads = at.loads ∙ sym (append-nil before); taken = at.taken })
all_at bytes tail before (segment ∷ rest) j place n table count at =
    subst (λ segments. Done bytes segments n) (append_assoc before (segment ∷ []) rest)
    (all_at bytes tail (before ++ segment ∷ []) rest (suc j) (page_from place + length segment.bytes) n table (omega arith)
    (next_at bytes tail before rest segment j place table at))

pub length_headers : (place : ℕ) (segments : List Segment) → length (segment_headers place segments) ≡ 56 * length segments
length_headers place [] = refl
length_headers place (segment ∷ rest) =
    let later = length_headers (page_from place + length segment.bytes) rest in
    let all = length-append (program_header_bytes (page_from place) segment) (segment_headers (page_from place + length segment.bytes) rest) in
    omega arith

starts_at : (image : Image) → IsValid image
    → At (file_of image) (segment_bytes (64 + 56 * length image.segments) image.segments) [] image.segments 0 (64 + 56 * length image.segments)
starts_at image valid =
    let place = 64 + 56 * length image.segments in
    let headers = segment_headers place image.segments in
    let contents = segment_bytes place image.segments in
    let size = length_headers place image.segments in
    let head : Stands (file_of image) 64 (headers ++ contents) = record { is = refl; all = omega arith } in
    record {
      headers = refl;
      contents = subst (λ p. Stands (file_of image) p contents) (ap (λ n. 64 + n) size) (past (file_of image) headers contents 64 head);
      room = omega (arith, valid.few, valid.small);
      loads = refl;
      taken = λ k below. absurd (omega arith);
      each = valid.each;
      above = each_from_zero image.segments;
      ascend = valid.ascend;
      small = omega (arith, valid.small);
    }

some_segment : (image : Image) → IsValid image → 1 ≤ length image.segments
some_segment image valid = at_least image.segments image.entry valid.entry.executed
  where
    at_least : (segments : List Segment) (entry : ℕ) → allows segments Executing entry ≡ true → 1 ≤ length segments
    at_least [] entry executed = cc
    at_least (segment ∷ rest) entry executed = omega arith

lies_low : (segment : Segment) (a : ℕ) → lies_in segment a ≡ true → a < end_of segment
lies_low segment a inside = grind arith

flags_low : (segment : Segment) (rest : List Segment) (a : ℕ) (inside : Bool) → lies_in segment a ≡ inside
    → IsSegment segment → (allows rest Executing a ≡ true → a < 2 ^ 47)
    → nat_eq ((if inside then segment.flags else flags_at rest a) / 1 % 2) 1 ≡ true → a < 2 ^ 47
flags_low segment rest a true is one later executed =
    let low = lies_low segment a is in omega (arith, one.low)
flags_low segment rest a false is one later executed = later executed

entry_low : (segments : List Segment) (a : ℕ) → AreSegments segments → allows segments Executing a ≡ true → a < 2 ^ 47
entry_low [] a each executed = cc
entry_low (segment ∷ rest) a each executed =
    flags_low segment rest a (lies_in segment a) refl each.0 (entry_low rest a each.1) executed

pub reads_back : (image : Image) → IsValid image → HoldsImage (file_of image) image
reads_back image valid =
    let count : headers_count (file_of image) ≡ length image.segments =
    little_number-reads_back 2 (length image.segments) (drop 58 (file_of image)) (omega (arith, valid.few))
    in
    let low = entry_low image.segments image.entry valid.each valid.entry.executed in
    let entry : entry_of (file_of image) ≡ image.entry =
    little_number-reads_back 8 image.entry (drop 32 (file_of image)) (omega arith)
    in
    let place = 64 + 56 * length image.segments in
    let headers = segment_headers place image.segments in
    let size = length_headers place image.segments in
    let inside = length-append headers (segment_bytes place image.segments) in
    let done =
    all_at (file_of image) _ [] image.segments 0 _ (headers_count (file_of image)) refl
    (count ∙ sym (zero-add (length image.segments)))
    (starts_at image valid)
    in
    record {
      header =
          record {
            long = omega arith;
            magic = refl;
            program =
                record {
                  type = refl;
                  machine = refl;
                  version = refl;
                  header = refl;
                  program_header = refl;
                  some = omega (arith, count, some_segment image valid);
                  few = omega (arith, count, valid.few);
                };
            headers = omega (arith, count, inside);
          };
      taken = done.taken;
      entry =
          subst (λ e. IsEntry (loaded (file_of image) (headers_count (file_of image))) e) (sym entry)
          (subst (λ s. IsEntry s image.entry) (sym done.loads) valid.entry);
      is = λ i. record { entry = sym entry i; segments = sym done.loads i };
    }
