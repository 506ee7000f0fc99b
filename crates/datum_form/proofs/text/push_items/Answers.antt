use Rattle.std.proofs.Common.{List, ℕ, subst}
use Rattle.datum_form.specs.Stands.{StandAll}
use Rattle.datum_form.proofs.PrintedByParts.{no_items, none_left, items_pushed}
use Rattle.datum_form.proofs.text.push_items.Goals as goal

pub returns-in_default : goal.returns-in_default
returns-in_default c = λ nodes is rest h k.
    no_items nodes c.args.parts.now.items c.args.ids.now is rest (none_left c.args.ids.now c.in_default.ensures.cases) h k

pub returns : goal.returns
returns c = λ nodes is rest h k.
    let P : List ℕ → Type 0 = λ ids. StandAll nodes ids is in
    items_pushed nodes c.push_others.new.parts.items c.push.new.self.items c.in-Some.first.now c.in-Some.others.now is rest
    c.in_ok-push.ensures.items (subst P c.in-Some.ensures.cases.0 h)
    (λ js hs. c.in_ok-push_others.ensures nodes js rest hs k)
