use Rattle.std.proofs.Common.{◌≡◌, true, false, refl, ◌∙◌, arith}
use Rattle.datum_form.specs.Syntax.Syntax.{Leaf}
use Rattle.datum_reader.specs.declared.reading.Reading.{Reading}
use Rattle.datum_reader.specs.Machine.{room, give}
use Rattle.datum_reader.proofs.LevelsAfterToken.{refused, entered, more_nodes}
use Rattle.datum_reader.proofs.reading.Reading.single.Goals as goal

pub returns-then-not-has_room : goal.returns-then-not-has_room
returns-then-not-has_room c = λ n fs us h.
    let none : c.has_room.result ≡ false = grind (arith, c.if-not-has_room.true, c.if-not-has_room.ensures) in
    refused (room fs) c.args.pos (give n fs us (Leaf c.args.pos c.args.atom))
    (c.has_room.ensures n fs us h ∙ none)

pub returns : goal.returns
returns c = λ n fs us h.
    let now = c.args.self.now in
    let leaf = Leaf c.args.pos c.args.atom in
    let next : Reading = record { nodes = c.single.new.nodes; tops = now.tops; levels = now.levels } in
    let free : c.has_room.result ≡ true = grind (arith, c.if-not-has_room.false, c.if-not-has_room.ensures) in
    let built = c.in_ok-id.ensures in
    entered (room fs) c.args.pos (give n fs us leaf) c.give.new.self (c.has_room.ensures n fs us h ∙ free)
    (c.in_ok-give.ensures n fs us leaf (more_nodes now next built.more n fs us h built.whole refl refl) built.stands)
