use Rattle.std.proofs.Common.{Option, Some, ap, subst, ◌∙◌}
use Rattle.std.specs.Option.{option_copied}
use Rattle.datum_reader.specs.declared.level.Level.{Level}
use Rattle.datum_reader.specs.Reading.{Innermost}
use Rattle.datum_reader.proofs.LevelsAfterToken.{no_room, room_else, room_outside}
use Rattle.datum_reader.proofs.reading.Reading.has_room.Goals as goal

pub returns-in_default : goal.returns-in_default
returns-in_default c = λ n fs us h.
    let P : Option Level → Type 0 = λ o. Innermost c.args.self.now.nodes o fs in
    room_outside fs (subst P (ap option_copied c.in_default.is) (c.innermost.ensures n fs us h))

pub returns-in-Tailed : goal.returns-in-Tailed
returns-in-Tailed c = λ n fs us h.
    let P : Option Level → Type 0 = λ o. Innermost c.args.self.now.nodes o fs in
    no_room c.args.self.now.nodes _ _ _ fs
    (subst P (ap option_copied c.in-Some.is ∙ ap Some c.in-Tailed.is) (c.innermost.ensures n fs us h))

pub returns-in_default-level : goal.returns-in_default-level
returns-in_default-level c = λ n fs us h.
    let P : Option Level → Type 0 = λ o. Innermost c.args.self.now.nodes o fs in
    room_else c.args.self.now.nodes c.in-Some.level.now fs
    (subst P (ap option_copied c.in-Some.is) (c.innermost.ensures n fs us h)) c.in_default-level.not-Tailed
