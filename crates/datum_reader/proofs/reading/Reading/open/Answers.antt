use Rattle.std.proofs.Common.{◌≡◌, true, false, refl, ◌∙◌, arith}
use Rattle.datum_reader.specs.declared.reading.Reading.{Reading}
use Rattle.datum_reader.specs.Machine.{room, open_one}
use Rattle.datum_reader.proofs.LevelsAfterToken.{refused, entered, too_deep, opens}
use Rattle.datum_reader.proofs.reading.Reading.open.Goals as goal

pub returns-then-not-has_room : goal.returns-then-not-has_room
returns-then-not-has_room c = λ n fs us f p h held.
    let none : c.has_room.result ≡ false = grind (arith, c.if-not-has_room.true, c.if-not-has_room.ensures) in
    refused (room fs) p (open_one n f fs us p) (c.has_room.ensures n fs us h ∙ none)

pub returns-then-len-ge-MAX_DEPTH : goal.returns-then-len-ge-MAX_DEPTH
returns-then-len-ge-MAX_DEPTH c = λ n fs us f p h held.
    let free : c.has_room.result ≡ true = grind (arith, c.if-not-has_room.false, c.if-not-has_room.ensures) in
    too_deep c.args.self.now n f fs us p (room fs) h (c.has_room.ensures n fs us h ∙ free)
    (omega (arith, c.if-len-ge-MAX_DEPTH.true, c.len.ensures))

pub returns : goal.returns
returns c = λ n fs us f p h held.
    let now = c.args.self.now in
    let next : Reading = record { nodes = now.nodes; tops = now.tops; levels = c.push.new.self } in
    let free : c.has_room.result ≡ true = grind (arith, c.if-not-has_room.false, c.if-not-has_room.ensures) in
    entered (room fs) p (open_one n f fs us p) next (c.has_room.ensures n fs us h ∙ free)
    (opens now next c.args.level n f fs us p h held (omega (arith, c.if-len-ge-MAX_DEPTH.false, c.len.ensures))
    c.in_ok-push.ensures.items refl refl)
