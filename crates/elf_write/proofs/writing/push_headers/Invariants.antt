use Rattle.std.proofs.Common.{◌≡◌, ◌≤◌, ◌+◌, ◌*◌, ◌^◌, ◌++◌, drop, length}
use Rattle.elf_write.specs.Valid.{AreSegments, memory_size}
use Rattle.elf_write.specs.File.{segment_headers}
use Rattle.elf_write.proofs.writing.push_headers.Given as goal

abbrev pub invariant-loop-segment : goal.invariant-loop-segment
invariant-loop-segment l =
    let left = drop l.segment-index l.image.segments in
    record {
      bytes :
          l.file.items ++ segment_headers l.place left
          ≡ l.initial.file.items ++ segment_headers (64 + 56 * length l.image.segments) l.image.segments;
      each : AreSegments left;
      room : l.place + 4096 * length left + memory_size left ≤ 2 ^ 33;
    }
