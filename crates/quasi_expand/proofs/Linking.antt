-- Items are put before a list's rest, the last one first.
use Rattle.std.proofs.Common.{ℕ, ◌≡◌, List as Seq, [], ◌∷◌, ◌++◌, sym, ap, ◌∙◌, append-nil}
use Rattle.datum_form.specs.declared.datums.Node.{Node}
use Rattle.datum_form.specs.Data.{Datum, Items}
use Rattle.datum_form.specs.Data.Items.{none, item}
use Rattle.datum_form.specs.Stands.{Stands, StandAll}
use Rattle.quasi_expand.specs.declared.template.Part.{Part}
use Rattle.quasi_expand.specs.Levels.{joined}
use Rattle.quasi_expand.specs.Making.{link, links}
use Rattle.quasi_expand.specs.Templates.{template, entries, entry}
use Rattle.quasi_expand.proofs.Listing.{joined_none, joined_assoc, longer_twice}
use Rattle.quasi_expand.proofs.TemplateEnds.{no_items, last_of}

-- the items behind those that are left are put
pub record SomeLinked (nodes : Seq Node) (rest : Seq ℕ) (n : ℕ) (a b : Seq Part) (ds : Items) : Type 0 where
  pub left : Items
  pub past : Items
  pub stand : StandAll nodes rest left
  pub are : ds ≡ joined left past
  pub longer : b ≡ a ++ links (entries past n)

pub none_linked : (nodes : Seq Node) (rest : Seq ℕ) (n : ℕ) (a : Seq Part) (ds : Items) → StandAll nodes rest ds
    → SomeLinked nodes rest n a a ds
none_linked nodes rest n a ds h =
    record { left = ds; past = none; stand = h; are = sym (joined_none ds); longer = sym (append-nil a) }

pub one_linked : (nodes : Seq Node) (rest others : Seq ℕ) (last n : ℕ) (p : Part) (a b c : Seq Part) (ds : Items)
    → SomeLinked nodes rest n a b ds → rest ≡ others ++ last ∷ [] → c ≡ b ++ p ∷ []
    → ((d : Datum) → Stands nodes last d → p ≡ link (entry d n (template d n))) → SomeLinked nodes others n a c ds
one_linked nodes rest others last n p a b c ds h split put is =
    let l = last_of nodes rest others last h.left split h.stand in
    let before : Seq Part = links (entries h.past n) in
    record {
      left = l.others;
      past = item l.datum h.past;
      stand = l.rest;
      are = h.are ∙ (ap (λ x. joined x h.past) l.are ∙ joined_assoc l.others (item l.datum none) h.past);
      longer =
          longer_twice a b c before (p ∷ []) h.longer put ∙ ap (λ x. a ++ (before ++ x ∷ [])) (is l.datum l.last);
    }

pub all_linked : (nodes : Seq Node) (rest : Seq ℕ) (n : ℕ) (a b : Seq Part) (ds : Items) → SomeLinked nodes rest n a b ds
    → rest ≡ [] → b ≡ a ++ links (entries ds n)
all_linked nodes rest n a b ds h empty =
    let front = no_items nodes rest h.left empty h.stand in
    h.longer ∙ ap (λ x. a ++ links (entries x n)) (sym (h.are ∙ ap (λ x. joined x h.past) front))
