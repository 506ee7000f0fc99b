use Rattle.std.proofs.Common.{sym, ◌∙◌}
use Rattle.stalin_outside.proofs.Finding.{place_is, stored_at, stored_none}
use Rattle.stalin_outside.proofs.mem_shelf.find.bytes_of.Goals as goal

pub returns-in-Some : goal.returns-in-Some
returns-in-Some c =
    rw
    (stored_at c.args.files.now c.args.name.now c.in-Some.place c.index-files-place.result (place_is _ _ _ (sym c.place_of.ensures ∙ c.in-Some.is)))
    cc

pub returns-in-None : goal.returns-in-None
returns-in-None c = rw (stored_none c.args.files.now c.args.name.now (sym c.place_of.ensures ∙ c.in-None.is))
