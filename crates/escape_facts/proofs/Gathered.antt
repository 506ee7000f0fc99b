-- Whose the sites of a program are, by the tables that are made of it.
use Rattle.std.proofs.Common.{◌≡◌, ℕ, true, List, sym, ap, ◌∙◌, subst}
use Rattle.flow_constraints.specs.declared.flow.Flow.{Flow}
use Rattle.flow_form.specs.declared.rows.Rows.{Rows}
use Rattle.least_set.specs.declared.links.Link.{Link}
use Rattle.least_set.specs.Least.{links_below}
use Rattle.least_set.specs.Search.{IsNext, listed, targets}
use Rattle.named_form.specs.Code.{Written}
use Rattle.plan_facts.specs.declared.place.Place.{Place}
use Rattle.plan_facts.specs.Places.{facts}
use Rattle.escape_facts.specs.Owners.{owners_of, turned}
use Rattle.escape_facts.proofs.Bounded.{listed_targets, turned_below}
use Rattle.escape_facts.proofs.Owned.{Owned, is_owned}

pub others_below : (many : ℕ) (links others : List Link) → others ≡ turned links → links_below many links ≡ true
    → links_below many others ≡ true
others_below many links others is below = subst (λ ls. links_below many ls ≡ true) (sym is) (turned_below many links below)

pub owned_here : (ps : List Written) (f : Flow) (rows : Rows) (steps : List Place) (links others : List Link) (many : ℕ)
    (owners own : List (List ℕ)) → links ≡ owners_of f steps → others ≡ turned links → links_below many links ≡ true
    → IsNext many links owners → IsNext many others own → Owned (facts ps f rows steps) (listed owners) (listed own)
owned_here ps f rows steps links others many owners own is turns below n m =
    is_owned (facts ps f rows steps) (listed owners) (listed own)
    (λ s. listed_targets many links owners below n s ∙ ap (λ ls. targets ls s) is)
    (λ q. listed_targets many others own (others_below many links others turns below) m q ∙ ap (λ ls. targets ls q) (turns ∙ ap turned is))
