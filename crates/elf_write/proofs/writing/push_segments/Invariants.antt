use Rattle.std.proofs.Common.{◌≡◌, ◌++◌, drop, length}
use Rattle.elf_write.specs.File.{segment_bytes}
use Rattle.elf_write.proofs.writing.push_segments.Given as goal

abbrev pub invariant-loop-segment : goal.invariant-loop-segment
invariant-loop-segment l =
    l.file.items ++ segment_bytes (length l.file.items) (drop l.segment-index l.segments)
    ≡ l.initial.file.items ++ segment_bytes (length l.initial.file.items) l.segments
