use Rattle.std.proofs.Common.{subst}
use Rattle.rv_emulator.specs.Loading.{LaysOut}
use Rattle.rv_emulator.proofs.LoadedImage.{starts_as}
use Rattle.rv_emulator.proofs.machine.load.Goals as goal

pub returns : goal.returns
returns c =
    starts_as c.args.image.now c.in_ok-memory.memory c.new.result
    (subst (λ segments. LaysOut segments c.in_ok-memory.memory) c.as_slice.ensures c.in_ok-memory.ensures)
    c.new.ensures
