use Rattle.std.proofs.Common.{◌≡◌}
use Rattle.rv_emulator.specs.Memory.{all_flagged}
use Rattle.rv_emulator.proofs.InsideMemory.{seen}
use Rattle.rv_emulator.proofs.memory.Memory.may.Goals as goal

pub may-requires-clause-laid : goal.may-requires-clause-laid
may-requires-clause-laid c = rw (c.deref.ensures.value, c.deref-2.ensures.value) c.self.invariant.0

pub returns : goal.returns
returns c =
    seen (λ memory. c.may.result ≡ all_flagged memory.regions c.args.flag c.args.count c.args.a)
    c.args.self.now c.self.inside.regions.items c.deref.result.now c.self.inside.bytes.items c.deref-2.result.now
    c.self.view_is c.deref.ensures.value c.deref-2.ensures.value c.may.ensures
