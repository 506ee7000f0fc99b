use Rattle.rv_words.specs.Widths.{bytes_of}
use Rattle.rv_emulator.proofs.AtTheFront.{at_front}
use Rattle.rv_emulator.proofs.BytesOfNumbers.{some_bytes}
use Rattle.rv_emulator.proofs.OnePlaceEach.{whole_fits, whole_loaded}
use Rattle.rv_emulator.proofs.memory.read.Goals as goal

pub word_at-requires : goal.word_at-requires
word_at-requires c =
    whole_fits c.args.regions.now c.args.bytes.now c.args.a (bytes_of c.args.width) c.sub-at.result c.requires.front.flags c.requires.laid
    (some_bytes c.args.width)
    (at_front c.args.regions.now c.args.start c.args.room c.args.a c.sub-at.result c.args.width c.requires.laid.low
    c.ranges.a.fits c.ranges.start.fits c.requires.front c.sub-at.ensures c.if-at-room.true)

pub returns-then-at-room-clause-value : goal.returns-then-at-room-clause-value
returns-then-at-room-clause-value c =
    whole_loaded c.args.regions.now c.args.bytes.now 4 (bytes_of c.args.width) c.args.a c.sub-at.result c.requires.front.flags
    c.word_at.result (some_bytes c.args.width)
    (at_front c.args.regions.now c.args.start c.args.room c.args.a c.sub-at.result c.args.width c.requires.laid.low
    c.ranges.a.fits c.ranges.start.fits c.requires.front c.sub-at.ensures c.if-at-room.true)
    c.requires.front.reading c.word_at.ensures.value
