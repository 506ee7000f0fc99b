-- What is read is an image that may be written and loaded.
use Rattle.std.proofs.Common.{◌≡◌, ℕ, zero, suc, ◌+◌, ◌*◌, ◌≤◌, ◌^◌, Bool, true, false, List, [], ◌∷◌, ◌++◌, length, drop, refl, sym, ap, subst, ◌∙◌, arith, nat_eq, if◌then◌else◌, append-nil, length-append, length-take, add-one}
use Rattle.rv_form.specs.declared.image.Image.{Image}
use Rattle.rv_form.specs.declared.image.Segment.{Segment}
use Rattle.elf_write.specs.declared.header.ProgramHeader.{ProgramHeader}
use Rattle.elf_write.specs.Valid.{memory_size, IsSegment, AreSegments, Ascend, IsValid}
use borrow.Author.Count.{below_more}
use Rattle.elf_write.specs.Fields.{headers_place, headers_count, header_at, program_header}
use Rattle.elf_write.specs.Reading.{segment_of, segments_of, loaded, IsLoadable, IsTaken, TakenAt, Taken, HoldsImage}
use Rattle.elf_write.proofs.Loading.{memory_append, are_segments_append, ascend_append}

record Front (segments : List Segment) (n : ℕ) : Type 0 where
  few : length segments ≤ n
  each : AreSegments segments
  ascend : Ascend segments
  small : memory_size segments ≤ 2 ^ 31

kind_is : (kind : ℕ) → nat_eq kind 1 ≡ true → kind ≡ 1
kind_is kind h = grind arith

fits : (bytes : List ℕ) (before : List Segment) (header : ProgramHeader) → IsLoadable (length bytes) before header
    → IsSegment (segment_of bytes header)
fits bytes before header room =
    let size = length-take header.filesz (drop header.offset bytes) in
    record { flags = room.flags; holds = omega arith; low = room.low }

one_more : (bytes : List ℕ) (before : List Segment) (n : ℕ) (header : ProgramHeader) (is : Bool) → nat_eq header.kind 1 ≡ is
    → Front before n → IsTaken (length bytes) before header
    → Front (before ++ (if is then segment_of bytes header ∷ [] else [])) (suc n)
one_more bytes before n header false is front taken =
    subst (λ segments. Front segments (suc n)) (sym (append-nil before))
    (record { few = omega (arith, front.few); each = front.each; ascend = front.ascend; small = front.small })
one_more bytes before n header true is front taken =
    let room = taken.loadable (kind_is header.kind is) in
    let segment = segment_of bytes header in
    let size = memory_append before segment in
    record {
      few = omega (arith, front.few, length-append before (segment ∷ []));
      each = are_segments_append before segment front.each (fits bytes before header room);
      ascend = ascend_append before segment front.ascend room.above;
      small = omega (arith, room.small, size);
    }

front_of : (bytes : List ℕ) (n : ℕ) → Taken bytes n → Front (loaded bytes n) n
front_of bytes zero taken = record { few = omega arith; each = tt; ascend = tt; small = omega arith }
front_of bytes (suc n) taken =
    one_more bytes (loaded bytes n) n (program_header bytes n) (nat_eq (program_header bytes n).kind 1) refl
    (front_of bytes n (λ k below. taken k (omega arith))) (taken n (omega arith))

pub valid : (bytes : List ℕ) (image : Image) → HoldsImage bytes image → IsValid image
valid bytes image reads =
    let front = front_of bytes (headers_count bytes) reads.taken in
    subst IsValid (sym reads.is)
    (record {
      few = omega (arith, front.few, reads.header.program.few);
      each = front.each;
      ascend = front.ascend;
      small = front.small;
      entry = reads.entry;
    })

-- one more program header is read
pub loaded_more : (bytes : List ℕ) (k place : ℕ) (header : ProgramHeader) (before after : List Segment)
    → place ≡ headers_place bytes → header ≡ header_at (place + 56 * k) bytes → before ≡ loaded bytes k
    → after ≡ before ++ segments_of bytes header → after ≡ loaded bytes (k + 1)
loaded_more bytes k place header before after table stands was now =
    let is : header ≡ program_header bytes k = stands ∙ ap (λ p. header_at (p + 56 * k) bytes) table in
    now
    ∙ (ap (λ b. b ++ segments_of bytes header) was
    ∙ (ap (λ h. loaded bytes k ++ segments_of bytes h) is ∙ ap (loaded bytes) (sym (add-one k))))

pub taken_more : (bytes : List ℕ) (k place : ℕ) (header : ProgramHeader) (before : List Segment)
    → place ≡ headers_place bytes → header ≡ header_at (place + 56 * k) bytes → before ≡ loaded bytes k
    → IsTaken (length bytes) before header → Taken bytes k → Taken bytes (k + 1)
taken_more bytes k place header before table stands was here taken =
    let is : header ≡ program_header bytes k = stands ∙ ap (λ p. header_at (p + 56 * k) bytes) table in
    let now : TakenAt bytes k = subst (λ b. IsTaken (length bytes) b (program_header bytes k)) was (subst (IsTaken (length bytes) before) is here) in
    below_more (TakenAt bytes) k taken now
