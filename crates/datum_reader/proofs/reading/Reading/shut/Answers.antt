use Rattle.std.proofs.Common.{Option, ℕ, refl, subst}
use Rattle.datum_reader.specs.declared.reading.Reading.{Reading}
use Rattle.datum_reader.specs.Levels.{HoldsLevel, Closes}
use Rattle.datum_reader.specs.Machine.{Frame}
use Rattle.datum_reader.proofs.LevelsAfterDatum.{closes, last_level}
use Rattle.datum_reader.proofs.reading.Reading.shut.Goals as goal

pub returns : goal.returns
returns c = λ n fs us q h.
    let before = c.args.self.now in
    let nodes = c.closed.new.nodes in
    let level = c.in-Some.level in
    let between : Reading = record { nodes = nodes; tops = before.tops; levels = c.pop.new.self } in
    let P : Option ℕ → Type 0 = λ o. (f : Frame) → HoldsLevel before.nodes level f → Closes before.nodes nodes o f in
    closes before between c.give.new.self level c.pop.new.self.items c.in-Some-2.id n fs us q h c.in-Some.ensures.items
    refl refl (subst P c.in-Some-2.is c.in_ok-id.ensures) c.in_ok-give.ensures

pub closed-requires : goal.closed-requires
closed-requires c = last_level c.args.self.now c.in-Some.level c.pop.new.self.items c.requires c.in-Some.ensures.items
