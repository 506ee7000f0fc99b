use Rattle.std.proofs.Common.{subst}
use Rattle.datum_reader.specs.declared.level.Level.{Level}
use Rattle.datum_reader.specs.Levels.{HoldsLevel}
use Rattle.datum_reader.proofs.LevelTakesOrCloses.{tail_within, listing_closes, tailed_closes, vector_closes}
use Rattle.datum_reader.proofs.level.Level.closed.Goals as goal

pub returns-in-Listing : goal.returns-in-Listing
returns-in-Listing c = λ f h.
    let P : Level → Type 0 = λ l. HoldsLevel c.args.nodes.now l f in
    listing_closes c.args.nodes.now c.list-in-Listing.new.nodes c.in-Listing.pos c.in-Listing.items
    c.in_ok-id-in-Listing.id f (subst P c.in-Listing.is h) c.in_ok-id-in-Listing.ensures

pub returns-in-Tailed : goal.returns-in-Tailed
returns-in-Tailed c = λ f h.
    let P : Level → Type 0 = λ l. HoldsLevel c.args.nodes.now l f in
    tailed_closes c.args.nodes.now c.dotted.new.nodes c.in-Tailed.pos c.in-Tailed.items c.in-Tailed.tail
    c.in_ok-id-in-Tailed.id f (subst P c.in-Tailed.is h) c.in_ok-id-in-Tailed.ensures

pub returns-in-InVector : goal.returns-in-InVector
returns-in-InVector c = λ f h.
    let P : Level → Type 0 = λ l. HoldsLevel c.args.nodes.now l f in
    vector_closes c.args.nodes.now c.vector.new.nodes c.in-InVector.pos c.in-InVector.items c.in_ok-id-in-InVector.id f
    (subst P c.in-InVector.is h) c.in_ok-id-in-InVector.ensures

pub dotted-requires : goal.dotted-requires
dotted-requires c =
    let P : Level → Type 0 = λ l. HoldsLevel c.args.nodes.now l c.requires.0 in
    tail_within c.args.nodes.now c.in-Tailed.pos c.in-Tailed.items c.in-Tailed.tail c.requires.0
    (subst P c.in-Tailed.is c.requires.1)
