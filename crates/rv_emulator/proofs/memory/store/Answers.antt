use Rattle.std.proofs.Common.{◌≡◌, ◌∙◌, ℕ, sym, subst, arith}
use Rattle.std.specs.Prelude.{slice_index}
use Rattle.rv_form.specs.Machine.{store}
use Rattle.rv_words.specs.Widths.{bytes_of}
use Rattle.rv_emulator.proofs.AtTheFront.{at_front}
use Rattle.rv_emulator.proofs.BytesOfNumbers.{some_bytes}
use Rattle.rv_emulator.proofs.OnePlaceEach.{whole_fits, whole_flagged}
use Rattle.rv_emulator.proofs.StoredBytes.{whole_store, store_keeps}
use Rattle.rv_emulator.proofs.memory.store.Goals as goal

pub put_at-requires : goal.put_at-requires
put_at-requires c =
    let fits =
    whole_fits c.args.regions.now c.args.bytes.now c.args.a (bytes_of c.args.width) c.sub-at.result c.requires.front.flags c.requires.laid
    (some_bytes c.args.width)
    (at_front c.args.regions.now c.args.start c.args.room c.args.a c.sub-at.result c.args.width c.requires.laid.low
    c.ranges.a.fits c.ranges.start.fits c.requires.front c.sub-at.ensures c.if-at-room.true)
    in
    let same = c.count.ensures in omega arith

pub returns-then-at-room-clause-answer : goal.returns-then-at-room-clause-answer
returns-then-at-room-clause-answer c =
    sym
    (whole_flagged c.args.regions.now 2 (bytes_of c.args.width) c.args.a c.sub-at.result c.requires.front.flags (some_bytes c.args.width)
    (at_front c.args.regions.now c.args.start c.args.room c.args.a c.sub-at.result c.args.width c.requires.laid.low
    c.ranges.a.fits c.ranges.start.fits c.requires.front c.sub-at.ensures c.if-at-room.true)
    ∙ c.requires.front.writing)

pub returns-then-at-room-clause-stored : goal.returns-then-at-room-clause-stored
returns-then-at-room-clause-stored c =
    whole_store c.args.regions.now c.args.bytes.now c.put_at.new.bytes c.args.a (bytes_of c.args.width) c.sub-at.result c.requires.front.flags c.args.value
    (at_front c.args.regions.now c.args.start c.args.room c.args.a c.sub-at.result c.args.width c.requires.laid.low
    c.ranges.a.fits c.ranges.start.fits c.requires.front c.sub-at.ensures c.if-at-room.true)
    (subst (λ n. (k : ℕ) → slice_index c.put_at.new.bytes k ≡ store n (λ k. slice_index c.args.bytes.now k) c.sub-at.result c.args.value k) c.count.ensures c.put_at.ensures.written)

pub returns-then-at-room-clause-fixed : goal.returns-then-at-room-clause-fixed
returns-then-at-room-clause-fixed c =
    store_keeps c.args.regions.now c.args.bytes.now c.put_at.new.bytes (bytes_of c.args.width) c.args.a c.args.value
    (sym (returns-then-at-room-clause-answer c))
    (returns-then-at-room-clause-stored c)
