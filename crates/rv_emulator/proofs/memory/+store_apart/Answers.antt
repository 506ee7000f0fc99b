use Rattle.std.proofs.Common.{ap, ◌∙◌, ◌/◌, ◌+◌, ◌-◌, arith}
use Rattle.rv_form.specs.Machine.{store}
use Rattle.rv_emulator.specs.Memory.{memory_of}
use Rattle.rv_emulator.proofs.OnePlaceEach.{low_address, whole_fits}
use Rattle.rv_emulator.proofs.StoredBytes.{one_store, store_then}
use Rattle.rv_emulator.proofs.memory.+store_apart.Goals as goal

pub bounds-bytes-at : goal.bounds-bytes-at
bounds-bytes-at t c =
    let fits = whole_fits c.args.regions.now c.args.bytes.now c.args.a 1 c.in-Whole.at c.in-Whole.flags c.requires.laid (omega arith) c.in-Whole.ensures in
    omega arith

pub overflow_add-a : goal.overflow_add-a
overflow_add-a t c =
    let low = low_address c.args.regions.now c.args.a c.in-Whole.at c.in-Whole.flags c.requires.laid.low c.in-Whole.ensures in
    omega arith

pub returns-in-Whole-clause-stored : goal.returns-in-Whole-clause-stored
returns-in-Whole-clause-stored t c =
    let fits = whole_fits c.args.regions.now c.args.bytes.now c.args.a 1 c.in-Whole.at c.in-Whole.flags c.requires.laid (omega arith) c.in-Whole.ensures in
    let one = one_store c.args.regions.now c.args.bytes.now c.args.a c.in-Whole.at c.in-Whole.flags c.args.value c.in-Whole.ensures (omega arith) in
    c.store_apart.ensures.stored
    ∙ (ap (λ m. store (c.args.count - 1) m (c.args.a + 1) (c.args.value / 256)) one
    ∙ store_then c.args.count (memory_of c.args.regions.now c.args.bytes.now) c.args.a c.args.value (omega arith))
