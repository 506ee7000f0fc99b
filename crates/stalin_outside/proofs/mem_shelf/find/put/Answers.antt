use Rattle.std.proofs.Common.{List, sym, subst, ap, ◌∙◌, position}
use Rattle.stalin_outside.specs.Stored.{Stored, is_named, Puts}
use Rattle.std.specs.Prelude.{Some}
use Rattle.stalin_outside.proofs.Finding.{place_is, stored_none, puts_at, puts_end}
use Rattle.stalin_outside.proofs.mem_shelf.find.put.Goals as goal

pub returns-in-Some-clause-ok : goal.returns-in-Some-clause-ok
returns-in-Some-clause-ok c =
    puts_at
    c.args.files.now.items
    c.args.name.now
    c.in-Some.place
    c.args.file
    (place_is _ _ _
    (ap (position (is_named c.args.name.now)) (sym c.deref.ensures.value) ∙ sym c.place_of.ensures ∙ c.in-Some.is))
    c.requires

pub returns-in_ok-push-in-None-clause-ok : goal.returns-in_ok-push-in-None-clause-ok
returns-in_ok-push-in-None-clause-ok c =
    subst
    (λ (files : List Stored). Puts c.args.name.now (Some c.args.file) c.args.files.now.items files)
    (sym c.in_ok-push-in-None.ensures.items)
    (puts_end
    c.args.files.now.items
    c.args.name.now
    c.args.file
    (stored_none
    c.args.files.now.items
    c.args.name.now
    (ap (position (is_named c.args.name.now)) (sym c.deref.ensures.value) ∙ sym c.place_of.ensures ∙ c.in-None.is))
    c.requires)
