use Rattle.std.proofs.Common.{ap, ◌∙◌, ◌<◌, ◌+◌, ◌*◌, Some, arith}
use Rattle.rv_emulator.proofs.BytesOfNumbers.{digit_more, bytes_fit}
use Rattle.rv_emulator.proofs.OnePlaceEach.{low_address, whole_fits, loaded_more}
use Rattle.rv_emulator.proofs.memory.+load_apart.Goals as goal

pub overflow_add-a : goal.overflow_add-a
overflow_add-a t c =
    let low = low_address c.args.regions.now c.args.a c.in-Whole.at c.in-Whole.flags c.requires.laid.low c.in-Whole.ensures in
    omega arith

pub bounds-bytes-at : goal.bounds-bytes-at
bounds-bytes-at t c =
    let fits = whole_fits c.args.regions.now c.args.bytes.now c.args.a 1 c.in-Whole.at c.in-Whole.flags c.requires.laid (omega arith) c.in-Whole.ensures in
    omega arith

pub overflow_mul-result : goal.overflow_mul-result
overflow_mul-result t c =
    let more = digit_more c.args.count 0 c.in_ok-rest-in-Whole.rest (omega arith) (omega arith) c.in_ok-rest-in-Whole.ensures.below in
    let fits = bytes_fit c.args.count c.requires.count in
    omega arith

pub overflow_add-result : goal.overflow_add-result
overflow_add-result t c =
    let fits8 = c.type_inv.bytes c.in-Whole.at in
    let same = c.from.ensures in
    let byte : c.from.result < 256 = omega arith in
    let more = digit_more c.args.count c.from.result c.in_ok-rest-in-Whole.rest (omega arith) byte c.in_ok-rest-in-Whole.ensures.below in
    let fits = bytes_fit c.args.count c.requires.count in
    omega arith

pub returns-in_ok-rest-in-Whole-clause-value : goal.returns-in_ok-rest-in-Whole-clause-value
returns-in_ok-rest-in-Whole-clause-value t c =
    ap (λ b. Some (b + 256 * c.in_ok-rest-in-Whole.rest)) c.from.ensures
    ∙ loaded_more c.args.regions.now c.args.bytes.now c.args.flag c.args.count c.args.a c.in-Whole.at c.in-Whole.flags c.in_ok-rest-in-Whole.rest
    (omega arith) c.in-Whole.ensures (cc) c.in_ok-rest-in-Whole.ensures.value

pub returns-in_ok-rest-in-Whole-clause-below : goal.returns-in_ok-rest-in-Whole-clause-below
returns-in_ok-rest-in-Whole-clause-below t c =
    let fits8 = c.type_inv.bytes c.in-Whole.at in
    let same = c.from.ensures in
    let byte : c.from.result < 256 = omega arith in
    digit_more c.args.count c.from.result c.in_ok-rest-in-Whole.rest (omega arith) byte c.in_ok-rest-in-Whole.ensures.below
