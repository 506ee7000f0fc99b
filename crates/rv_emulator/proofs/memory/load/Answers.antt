use Rattle.std.proofs.Common.{subst}
use Rattle.rv_emulator.specs.Memory.{IsWhole}
use Rattle.rv_words.specs.Widths.{bytes_of}
use Rattle.rv_emulator.proofs.BytesOfNumbers.{some_bytes}
use Rattle.rv_emulator.proofs.OnePlaceEach.{whole_fits, whole_loaded, whole_refused}
use Rattle.rv_emulator.proofs.memory.load.Goals as goal

pub word_at-requires : goal.word_at-requires
word_at-requires c =
    whole_fits c.args.regions.now c.args.bytes.now c.args.a (bytes_of c.args.width) c.in-Whole.at c.in-Whole.flags c.requires.laid (some_bytes c.args.width)
    (subst (λ n. IsWhole c.args.regions.now c.args.a n c.in-Whole.at c.in-Whole.flags) c.count.ensures c.in-Whole.ensures)

pub returns-then-is_set-clause-value : goal.returns-then-is_set-clause-value
returns-then-is_set-clause-value c =
    whole_loaded c.args.regions.now c.args.bytes.now c.args.flag (bytes_of c.args.width) c.args.a c.in-Whole.at c.in-Whole.flags c.word_at.result (some_bytes c.args.width)
    (subst (λ n. IsWhole c.args.regions.now c.args.a n c.in-Whole.at c.in-Whole.flags) c.count.ensures c.in-Whole.ensures)
    (cc) c.word_at.ensures.value

pub returns-else-is_set-clause-value : goal.returns-else-is_set-clause-value
returns-else-is_set-clause-value c =
    whole_refused c.args.regions.now c.args.bytes.now c.args.flag (bytes_of c.args.width) c.args.a c.in-Whole.at c.in-Whole.flags (some_bytes c.args.width)
    (subst (λ n. IsWhole c.args.regions.now c.args.a n c.in-Whole.at c.in-Whole.flags) c.count.ensures c.in-Whole.ensures)
    (cc)
