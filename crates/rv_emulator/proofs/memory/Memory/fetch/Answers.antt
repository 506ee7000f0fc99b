use Rattle.std.proofs.Common.{◌≡◌}
use Rattle.rv_form.specs.Machine.{fetch}
use Rattle.rv_emulator.specs.Memory.{cells}
use Rattle.rv_words.specs.Packed.{seen_as}
use Rattle.rv_emulator.specs.States.{no_env, world_with}
use Rattle.rv_emulator.proofs.InsideMemory.{seen}
use Rattle.rv_emulator.proofs.memory.Memory.fetch.Goals as goal

pub fetch-requires : goal.fetch-requires
fetch-requires c = rw (c.deref.ensures.value, c.deref-2.ensures.value) c.self.invariant.0

pub returns-clause-value : goal.returns-clause-value
returns-clause-value c =
    seen (λ memory. fetch (world_with memory.regions no_env) (cells memory) c.args.pc ≡ seen_as c.fetch.result)
    c.args.self.now c.self.inside.regions.items c.deref.result.now c.self.inside.bytes.items c.deref-2.result.now
    c.self.view_is c.deref.ensures.value c.deref-2.ensures.value c.fetch.ensures.value
