use Rattle.std.proofs.Common.{Option, ap, subst}
use Rattle.std.specs.Option.{option_copied}
use Rattle.datum_reader.specs.declared.level.Level.{Level}
use Rattle.datum_reader.specs.Reading.{Innermost}
use Rattle.datum_reader.proofs.LevelsAfterToken.{still_open}
use Rattle.datum_reader.proofs.reading.Reading.finish.Goals as goal

pub returns-in-Some : goal.returns-in-Some
returns-in-Some c = λ n fs us h.
    let P : Option Level → Type 0 = λ o. Innermost c.args.self.nodes o fs in
    still_open c.args.self.nodes c.in-Some.level.now fs us c.pos.result
    (subst P (ap option_copied c.in-Some.is) (c.innermost.ensures n fs us h)) (c.pos.ensures c.args.self.nodes)

pub returns-in-None : goal.returns-in-None
returns-in-None c = λ n fs us h.
    let P : Option Level → Type 0 = λ o. Innermost c.args.self.nodes o fs in
    (subst P (ap option_copied c.in-None.is) (c.innermost.ensures n fs us h), h.tops)
