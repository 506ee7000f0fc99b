-- Segments with one more at the end.
use Rattle.std.proofs.Common.{◌≡◌, ℕ, ◌+◌, ◌≤◌, List, [], ◌∷◌, ◌++◌, arith}
use Rattle.rv_form.specs.declared.image.Segment.{Segment}
use Rattle.elf_write.specs.Valid.{end_of, memory_size, IsSegment, AreSegments, EachFrom, Ascend}
use Rattle.elf_write.specs.Reading.{top}

pub top_append : (before : List Segment) (segment : Segment) → top before ≤ segment.vaddr
    → top (before ++ segment ∷ []) ≡ end_of segment
top_append [] segment above = omega arith
top_append (one ∷ rest) segment above =
    let later : top (rest ++ segment ∷ []) ≡ end_of segment = top_append rest segment (omega arith) in omega arith

pub memory_append : (before : List Segment) (segment : Segment)
    → memory_size (before ++ segment ∷ []) ≡ memory_size before + segment.memsz
memory_append [] segment = omega arith
memory_append (one ∷ rest) segment = let later = memory_append rest segment in omega arith

pub are_segments_append : (before : List Segment) (segment : Segment) → AreSegments before → IsSegment segment
    → AreSegments (before ++ segment ∷ [])
are_segments_append [] segment each one = (one, tt)
are_segments_append (first ∷ rest) segment each one = (each.0, are_segments_append rest segment each.1 one)

each_from_append : (low : ℕ) (before : List Segment) (segment : Segment) → EachFrom low before → low ≤ segment.vaddr
    → EachFrom low (before ++ segment ∷ [])
each_from_append low [] segment each one = (one, tt)
each_from_append low (first ∷ rest) segment each one = (each.0, each_from_append low rest segment each.1 one)

pub ascend_append : (before : List Segment) (segment : Segment) → Ascend before → top before ≤ segment.vaddr
    → Ascend (before ++ segment ∷ [])
ascend_append [] segment each above = (tt, tt)
ascend_append (first ∷ rest) segment each above =
    (each_from_append (end_of first) rest segment each.0 (omega arith), ascend_append rest segment each.1 (omega arith))
