use Rattle.std.proofs.Common.{◌≡◌, length, min, take, sym, ap, ◌∙◌, refl, arith}
use Rattle.stalin_outside.specs.Stored.{grown, free_room}
use Rattle.stalin_outside.proofs.Finding.{place_is, stored_at, stored_none, changed_at}
use Rattle.stalin_outside.proofs.mem_shelf.find.append.Goals as goal

pub returns-in-Some-clause-count : goal.returns-in-Some-clause-count
returns-in-Some-clause-count c =
    c.append.ensures.count
    ∙ ap
    (λ file. min (free_room file) (length c.args.piece.now))
    (sym (stored_at c.args.files.now c.args.name.now c.in-Some.place c.index-files-place.result (place_is _ _ _ (sym c.place_of.ensures ∙ c.in-Some.is))))

pub returns-in-Some-clause-files : goal.returns-in-Some-clause-files
returns-in-Some-clause-files c =
    changed_at (grown (take c.append.result c.args.piece.now)) (λ file. refl) c.args.files.now c.args.name.now
    c.in-Some.place c.index-files-place.result c.append.new.self
    (place_is _ _ _ (sym c.place_of.ensures ∙ c.in-Some.is)) c.append.ensures.bytes

pub returns-in-None-clause-count : goal.returns-in-None-clause-count
returns-in-None-clause-count c =
    let none : 0 ≡ min 0 (length c.args.piece.now) = omega arith in
    none
    ∙ ap
    (λ file. min (free_room file) (length c.args.piece.now))
    (sym (stored_none c.args.files.now c.args.name.now (sym c.place_of.ensures ∙ c.in-None.is)))
