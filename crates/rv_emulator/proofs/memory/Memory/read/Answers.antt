use Rattle.std.proofs.Common.{◌≡◌}
use Rattle.rv_emulator.specs.Memory.{loaded_by}
use Rattle.rv_words.specs.Widths.{bytes_of}
use Rattle.rv_emulator.proofs.InsideMemory.{seen}
use Rattle.rv_emulator.proofs.memory.Memory.read.Goals as goal

pub read-requires-clause-laid : goal.read-requires-clause-laid
read-requires-clause-laid c = rw (c.deref.ensures.value, c.deref-2.ensures.value) c.self.invariant.0

pub read-requires-clause-front : goal.read-requires-clause-front
read-requires-clause-front c = rw c.deref.ensures.value c.self.invariant.1

pub returns-clause-value : goal.returns-clause-value
returns-clause-value c =
    seen (λ memory. c.read.result ≡ loaded_by memory.regions memory.bytes 4 (bytes_of c.args.width) c.args.a)
    c.args.self.now c.self.inside.regions.items c.deref.result.now c.self.inside.bytes.items c.deref-2.result.now
    c.self.view_is c.deref.ensures.value c.deref-2.ensures.value c.read.ensures.value
