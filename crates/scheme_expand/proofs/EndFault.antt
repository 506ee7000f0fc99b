-- The fault that is noted when all forms are done is the least one in the data.
use Rattle.std.proofs.Common.{ℕ, ◌≡◌, List, [], ◌∷◌, Option, Some, None, Bool, true, false, refl, sym, ap, subst, ◌∙◌}
use Rattle.std.specs.Prelude.{if◌then◌else◌}
use Rattle.datum_form.specs.declared.datums.Node.{Node}
use Rattle.datum_form.specs.Data.{Items}
use Rattle.datum_form.specs.Stands.{StandAll}
use Rattle.scheme_expand.specs.declared.fault.Fault.{Fault as Found}
use Rattle.scheme_expand.specs.declared.source.Source.{Source}
use Rattle.scheme_expand.specs.declared.expander.Expander.{Expander}
use Rattle.scheme_expand.specs.Faults.{Fault, is_before, least, least_of}
use Rattle.scheme_expand.specs.Naming.{IsTable, Names, AreWordsOf}
use Rattle.scheme_expand.specs.Noted.{fault_of, noted}
use Rattle.scheme_expand.specs.Programs.{faults}
use Rattle.scheme_expand.specs.Waiting.{earlier, ReadAll, Done}
use Rattle.scheme_expand.proofs.Numbering.{source_named, table_grows}

-- What is noted

one_of_two : (f g : Fault) (b : Bool) → (if b then Some g else Some f) ≡ None → ⊥
one_of_two f g true e = cc
one_of_two f g false e = cc

a_least : (f : Fault) (x : Option Fault) → least_of f x ≡ None → ⊥
a_least f None e = cc
a_least f (Some g) e = one_of_two f g (is_before g f) e

least_none : (fs : List Fault) → least fs ≡ None → fs ≡ []
least_none [] e = refl
least_none (f ∷ fs) e = absurd (a_least f (least fs) e)

due_is : (a b : Expander) (due : Option Fault) → a.fault ≡ None → Done a b due → due ≡ noted b.fault
due_is a b due none d = sym (d.total ∙ ap (λ f. earlier (noted f) due) none)

pub fault_is : (a b : Expander) (ds : Items) (f : Found) → a.fault ≡ None → Done a b (least (faults ds)) → b.fault ≡ Some f
    → least (faults ds) ≡ Some (fault_of f)
fault_is a b ds f none d e = due_is a b (least (faults ds)) none d ∙ ap noted e

pub no_fault : (a b : Expander) (ds : Items) → a.fault ≡ None → Done a b (least (faults ds)) → b.fault ≡ None → faults ds ≡ []
no_fault a b ds none d e = least_none (faults ds) (due_is a b (least (faults ds)) none d ∙ ap noted e)

-- Data with the numbers of their names

-- the names of two texts are numbered behind those of a table, and the second text is read
pub second_read : (s : Source) (a b c : List (List ℕ)) (f g : List (Option ℕ)) (others nodes text : List Node) (tops : List ℕ)
    (ds : Items) → IsTable a → Names a b f others → Names b c g nodes → s.nodes.now ≡ nodes → s.words.now ≡ g
    → nodes ≡ text → StandAll text tops ds → ReadAll s tops ds
second_read s a b c f g others nodes text tops ds t p q n w same h =
    let P : List Node → Type 0 = λ l. AreWordsOf c g l in
    let Q : List (Option ℕ) → Type 0 = λ l. AreWordsOf c l s.nodes.now in
    let R : List Node → Type 0 = λ l. StandAll l tops ds in
    record {
      named =
          source_named s c (table_grows b c (table_grows a b t p.grows) q.grows)
          (subst Q (sym w) (subst P (sym n) q.words));
      stand = subst R (sym (n ∙ same)) h;
    }
