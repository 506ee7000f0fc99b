use Rattle.std.proofs.Common.{sym, ◌∙◌, refl, rules}
use Rattle.stalin_outside.specs.Stored.{emptied}
use Rattle.stalin_outside.proofs.Finding.{place_is, stored_at, stored_none, changed_at, changed_none}
use Rattle.stalin_outside.proofs.mem_shelf.find.empty.Goals as goal

pub returns-in-Some-clause-there : goal.returns-in-Some-clause-there
returns-in-Some-clause-there c =
    rw
    (stored_at c.args.files.now c.args.name.now c.in-Some.place c.index-files-place.result (place_is _ _ _ (sym c.place_of.ensures ∙ c.in-Some.is)))
    (search rules)

pub returns-in-Some-clause-files : goal.returns-in-Some-clause-files
returns-in-Some-clause-files c =
    changed_at emptied (λ file. refl) c.args.files.now c.args.name.now c.in-Some.place c.index-files-place.result
    c.empty.new.self (place_is _ _ _ (sym c.place_of.ensures ∙ c.in-Some.is)) c.empty.ensures

pub returns-in-None-clause-there : goal.returns-in-None-clause-there
returns-in-None-clause-there c =
    rw (stored_none c.args.files.now c.args.name.now (sym c.place_of.ensures ∙ c.in-None.is)) (search rules)

pub returns-in-None-clause-files : goal.returns-in-None-clause-files
returns-in-None-clause-files c =
    changed_none emptied c.args.files.now c.args.name.now (stored_none c.args.files.now c.args.name.now (sym c.place_of.ensures ∙ c.in-None.is))
