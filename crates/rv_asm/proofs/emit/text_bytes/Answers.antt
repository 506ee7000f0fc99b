use Rattle.std.proofs.Common.{◌+◌, ◌++◌, ap, ◌∙◌, arith, drop, subst, sym}
use Rattle.rv_asm.specs.Layout.{text_size, items_of, text_bytes, AreSound}
use Rattle.rv_asm.specs.Symbols.{placing_in}
use Rattle.rv_asm.proofs.Measured.{bytes_turn, left_turn, sound_now, sound_later}
use Rattle.rv_asm.proofs.emit.text_bytes.Goals as goal

pub push_items-requires-clause-sound : goal.push_items-requires-clause-sound
push_items-requires-clause-sound c =
    subst AreSound (sym c.as_slice.ensures)
    (sound_now c.as_slice-part-items.result.now c.loop-part.part-index c.part-item.result c.loop-part-test.true c.part-item.is c.loop-part.invariant.sound)

pub push_items-requires-clause-room : goal.push_items-requires-clause-room
push_items-requires-clause-room c =
    let parts = c.as_slice-part-items.result.now in
    let turn = left_turn parts c.loop-part.part-index c.loop-part.at c.part-item.result c.loop-part-test.true c.part-item.is in
    let part = ap text_size c.as_slice.ensures in
    let whole = ap (λ ps. text_size (items_of ps)) c.as_slice-part-items.ensures in
    let left = c.loop-part.invariant.left in
    let room = c.requires.room in
    omega arith

pub loop-part-preserved : goal.loop-part-preserved
loop-part-preserved c =
    let parts = c.as_slice-part-items.result.now in
    let i = c.loop-part.part-index in
    let at = c.loop-part.at in
    let part = c.part-item.result in
    let p = placing_in c.args.symbols.now in
    let rest = items_of (drop (i + 1) parts) in
    let end = c.in_ok-at.ensures.end ∙ ap (λ is. at + text_size is) c.as_slice.ensures in
    record {
      left = ap (λ n. n + text_size rest) end ∙ (left_turn parts i at part c.loop-part-test.true c.part-item.is ∙ c.loop-part.invariant.left);
      sound = sound_later parts i part c.loop-part-test.true c.part-item.is c.loop-part.invariant.sound;
      bytes =
          ap (λ a. c.push_items.new.bytes ++ text_bytes p a rest) end
          ∙ (ap (λ bs. bs ++ text_bytes p (at + text_size part) rest)
          (c.in_ok-at.ensures.text ∙ ap (λ is. c.loop-part.bytes ++ text_bytes p at is) c.as_slice.ensures)
          ∙ (bytes_turn p parts i at part c.loop-part.bytes c.loop-part-test.true c.part-item.is ∙ c.loop-part.invariant.bytes));
    }
