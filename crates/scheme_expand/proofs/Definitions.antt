-- The values of definitions, from the last to the first.
use Rattle.std.proofs.Common.{ℕ, ◌≡◌, List, [], ◌∷◌, ◌++◌, Option, None, Bool, true, false, refl, sym, ap, subst, ◌∙◌}
use Rattle.std.specs.Prelude.{◌&&◌}
use Rattle.datum_form.specs.Data.{Datum, Items}
use Rattle.datum_form.specs.Data.Items.{none, item}
use Rattle.scheme_expand.specs.declared.source.Source.{Source}
use Rattle.scheme_expand.specs.declared.expander.Expander.{Expander}
use Rattle.scheme_expand.specs.Forms.{no_binding}
use Rattle.quasi_expand.specs.Shapes.{all_items}
use Rattle.scheme_expand.specs.Grammar.{is_define, definitions_before, each_definition}
use Rattle.scheme_expand.specs.Faults.{Fault, least}
use Rattle.scheme_expand.specs.Waiting.{earlier, in_values, Reads, Adds}
use Rattle.scheme_expand.specs.Shapes.{AreDefinitions}
use Rattle.scheme_expand.proofs.Adding.{both, due, nothing}
use Rattle.scheme_expand.proofs.Defining.{values_before}
use Rattle.scheme_expand.proofs.Least.{earlier_none, earlier_comm, earlier_assoc}
use Rattle.scheme_expand.proofs.Parts.{no_items, last_of, joined}

abbrev pub value_of : Datum → Option Fault
value_of d = least (in_values (definitions_before d no_binding))

abbrev pub values_of : Items → Option Fault
values_of ds = least (in_values (each_definition ds no_binding))

each_joined : (ds : Items) (d : Datum) → each_definition (joined ds (item d none)) no_binding ≡ each_definition ds (definitions_before d no_binding)
each_joined none d = refl
each_joined (item e es) d = ap (definitions_before e) (each_joined es d)

all_joined : (ds : Items) (d : Datum) → all_items is_define (joined ds (item d none)) ≡ true
    → (all_items is_define ds ≡ true) × (is_define d ≡ true)
all_joined none d h = (refl, (and_split (is_define d) true h).0)
  where
    and_split : (a b : Bool) → (a && b) ≡ true → (a ≡ true) × (b ≡ true)
    and_split true b k = (refl, k)
    and_split false b k = absurd (cc)
all_joined (item e es) d h =
    let s = and_split (is_define e) (all_items is_define (joined es (item d none))) h in
    let t = all_joined es d s.1 in
    (both_true (is_define e) (all_items is_define es) s.0 t.0, t.1)
  where
    and_split : (a b : Bool) → (a && b) ≡ true → (a ≡ true) × (b ≡ true)
    and_split true b k = (refl, k)
    and_split false b k = absurd (cc)

    both_true : (a b : Bool) → a ≡ true → b ≡ true → (a && b) ≡ true
    both_true true b p q = q
    both_true false b p q = absurd (cc)

values_last : (ds : Items) (d : Datum) → all_items is_define ds ≡ true
    → values_of (joined ds (item d none)) ≡ earlier (values_of ds) (value_of d)
values_last ds d h =
    ap (λ bs. least (in_values bs)) (each_joined ds d) ∙ values_before ds (definitions_before d no_binding) h

-- what is left of some definitions, when the values of the others wait
pub record ValuesPut (a b : Expander) (rest : List ℕ) (ds : Items) : Type 0 where
  pub left : Items
  pub are : AreDefinitions a.source rest left
  pub paid : Option Fault
  pub adds : Adds a b paid
  pub total : earlier paid (values_of left) ≡ values_of ds

pub no_values_put : (a : Expander) (ids : List ℕ) (ds : Items) → AreDefinitions a.source ids ds → ValuesPut a a ids ds
no_values_put a ids ds h = record { left = ds; are = h; paid = None; adds = nothing a; total = refl }

pub last_value_put : (a b c : Expander) (rest others : List ℕ) (id : ℕ) (ds : Items) → ValuesPut a b rest ds
    → rest ≡ others ++ id ∷ []
    → ((d : Datum) → Reads b.source id d → is_define d ≡ true → Adds b c (value_of d)) → ValuesPut a c others ds
last_value_put a b c rest others id ds i e put =
    let r = last_of a.source rest others id i.left e i.are.read in
    let P : Items → Type 0 = λ l. all_items is_define l ≡ true in
    let all = all_joined r.others r.datum (subst P r.are i.are.define) in
    let Q : Source → Type 0 = λ s. Reads s id r.datum in
    record {
      left = r.others;
      are = record { read = r.rest; define = all.0 };
      paid = earlier i.paid (value_of r.datum);
      adds =
          both a b c i.paid (value_of r.datum) i.adds (put r.datum (subst Q (sym i.adds.source) r.last) all.1);
      total =
          earlier_assoc i.paid (value_of r.datum) (values_of r.others)
          ∙ (ap (earlier i.paid)
          (earlier_comm (value_of r.datum) (values_of r.others)
          ∙ (sym (values_last r.others r.datum all.0) ∙ ap values_of (sym r.are)))
          ∙ i.total);
    }

pub values_put : (a b : Expander) (rest : List ℕ) (ds : Items) → ValuesPut a b rest ds → rest ≡ [] → Adds a b (values_of ds)
values_put a b rest ds i e =
    due a b i.paid (values_of ds)
    (sym (earlier_none i.paid)
    ∙ (ap (λ l. earlier i.paid (values_of l)) (sym (no_items a.source rest i.left e i.are.read)) ∙ i.total))
    i.adds
