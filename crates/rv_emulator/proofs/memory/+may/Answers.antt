use Rattle.std.proofs.Common.{arith}
use Rattle.rv_emulator.proofs.OnePlaceEach.{low_address}
use Rattle.rv_emulator.proofs.memory.+may.Goals as goal

pub overflow_add-a : goal.overflow_add-a
overflow_add-a t c =
    let low = low_address c.args.regions.now c.args.a c.in-Whole.at c.in-Whole.flags c.requires.laid.low c.in-Whole.ensures in
    omega arith
