use Rattle.std.proofs.Common.{subst}
use Rattle.datum_reader.specs.declared.level.Level.{Level}
use Rattle.datum_reader.specs.Levels.{HoldsLevel}
use Rattle.datum_reader.proofs.LevelTakesOrCloses.{listing_takes, vector_takes}
use Rattle.datum_reader.proofs.level.Level.with_item.Goals as goal

pub returns-in_ok-push-in-Listing : goal.returns-in_ok-push-in-Listing
returns-in_ok-push-in-Listing c = λ nodes f s h k.
    let P : Level → Type 0 = λ l. HoldsLevel nodes l f in
    listing_takes nodes c.in-Listing.pos c.in-Listing.items c.push.new.self c.args.id f s (subst P c.in-Listing.is h)
    c.in_ok-push-in-Listing.ensures.ok k

pub returns-in_ok-push-in-InVector : goal.returns-in_ok-push-in-InVector
returns-in_ok-push-in-InVector c = λ nodes f s h k.
    let P : Level → Type 0 = λ l. HoldsLevel nodes l f in
    vector_takes nodes c.in-InVector.pos c.in-InVector.items c.push-in-InVector.new.self c.args.id f s
    (subst P c.in-InVector.is h) c.in_ok-push-in-InVector.ensures.ok k
