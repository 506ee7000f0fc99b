-- Expressions that are put from one end to the other.
use Rattle.std.proofs.Common.{ℕ, ◌≡◌, List, [], ◌∷◌, ◌++◌, Option, None, refl, sym, ap, subst, ◌∙◌}
use Rattle.datum_form.specs.Data.{Datum, Items}
use Rattle.scheme_expand.specs.declared.source.Source.{Source}
use Rattle.scheme_expand.specs.declared.expander.Expander.{Expander}
use Rattle.scheme_expand.specs.Faults.{Fault}
use Rattle.scheme_expand.specs.Waiting.{earlier, Reads, ReadAll, Adds}
use Rattle.scheme_expand.proofs.Adding.{both, due, nothing}
use Rattle.scheme_expand.proofs.Due.{of, of_all, of_more, of_last}
use Rattle.scheme_expand.proofs.Least.{earlier_none, earlier_comm, earlier_assoc}
use Rattle.scheme_expand.proofs.Parts.{no_items, first_of, last_of}

-- what is left of some data, when the others are put
pub record Put (a b : Expander) (rest : List ℕ) (ds : Items) : Type 0 where
  pub left : Items
  pub read : ReadAll a.source rest left
  pub paid : Option Fault
  pub adds : Adds a b paid
  pub total : earlier paid (of_all left) ≡ of_all ds

pub none_put : (a : Expander) (ids : List ℕ) (ds : Items) → ReadAll a.source ids ds → Put a a ids ds
none_put a ids ds h = record { left = ds; read = h; paid = None; adds = nothing a; total = refl }

in_source : (s t : Source) (id : ℕ) (d : Datum) → s ≡ t → Reads s id d → Reads t id d
in_source s t id d e h = let P : Source → Type 0 = λ u. Reads u id d in subst P e h

pub last_put : (a b c : Expander) (rest others : List ℕ) (id : ℕ) (ds : Items) → Put a b rest ds
    → rest ≡ others ++ id ∷ [] → ((d : Datum) → Reads b.source id d → Adds b c (of d)) → Put a c others ds
last_put a b c rest others id ds i e put =
    let r = last_of a.source rest others id i.left e i.read in
    record {
      left = r.others;
      read = r.rest;
      paid = earlier i.paid (of r.datum);
      adds = both a b c i.paid (of r.datum) i.adds (put r.datum (in_source a.source b.source id r.datum (sym i.adds.source) r.last));
      total =
          earlier_assoc i.paid (of r.datum) (of_all r.others)
          ∙ (ap (earlier i.paid)
          (earlier_comm (of r.datum) (of_all r.others) ∙ (sym (of_last r.others r.datum) ∙ ap of_all (sym r.are)))
          ∙ i.total);
    }

pub first_put : (a b c : Expander) (rest others : List ℕ) (id : ℕ) (ds : Items) → Put a b rest ds
    → rest ≡ id ∷ others → ((d : Datum) → Reads b.source id d → Adds b c (of d)) → Put a c others ds
first_put a b c rest others id ds i e put =
    let r = first_of a.source rest id others i.left e i.read in
    record {
      left = r.others;
      read = r.rest;
      paid = earlier i.paid (of r.datum);
      adds = both a b c i.paid (of r.datum) i.adds (put r.datum (in_source a.source b.source id r.datum (sym i.adds.source) r.first));
      total =
          earlier_assoc i.paid (of r.datum) (of_all r.others)
          ∙ (ap (earlier i.paid) (sym (of_more r.datum r.others) ∙ ap of_all (sym r.are)) ∙ i.total);
    }

pub all_put : (a b : Expander) (rest : List ℕ) (ds : Items) → Put a b rest ds → rest ≡ [] → Adds a b (of_all ds)
all_put a b rest ds i e =
    due a b i.paid (of_all ds)
    (sym (earlier_none i.paid) ∙ (ap (λ l. earlier i.paid (of_all l)) (sym (no_items a.source rest i.left e i.read)) ∙ i.total))
    i.adds
