use Rattle.std.proofs.Common.{◌≡◌}
use Rattle.elf_write.specs.Reading.{loaded, Taken}
use Rattle.elf_write.proofs.reading.read_segments.Given as goal

abbrev pub invariant-loop-index : goal.invariant-loop-index
invariant-loop-index l =
    record {
      segments : l.loaded.segments ≡ loaded l.bytes l.index;
      taken : Taken l.bytes l.index;
    }
