-- The values for the next turn of a `do`: those of the steps that are written.
use Rattle.std.proofs.Common.{ℕ, ◌≡◌, List, [], ◌∷◌, ◌++◌, Option, Some, None, refl, sym, ap, subst, ◌∙◌, length, arith}
use Rattle.std.proofs.lemmas.List.{append-nil}
use Rattle.datum_form.specs.Data.{Datum, Items}
use Rattle.datum_form.specs.Data.Items.{none, item}
use Rattle.scheme_expand.specs.declared.expander.Expander.{Expander}
use Rattle.scheme_expand.specs.declared.source.Source.{Source}
use Rattle.scheme_expand.specs.Shapes.{those}
use Rattle.scheme_expand.specs.Waiting.{IsNamed, Reads, ReadAll, Adds}
use Rattle.scheme_expand.proofs.Adding.{due}
use Rattle.scheme_expand.proofs.Backwards.{Put, last_put}
use Rattle.scheme_expand.proofs.Bodies.{then_none}
use Rattle.scheme_expand.proofs.Due.{of, of_all, of_one}
use Rattle.scheme_expand.proofs.Parts.{no_items, first_of, read_one}

pub those_behind : (os : List (Option ℕ)) (o : Option ℕ) → those (os ++ o ∷ []) ≡ those os ++ those (o ∷ [])
those_behind [] o = refl
those_behind (None ∷ os) o = those_behind os o
those_behind (Some id ∷ os) o = ap (λ l. id ∷ l) (those_behind os o)

and_other : (s : Source) (ids js : List ℕ) (ds : Items) → ids ≡ js → ReadAll s ids ds → ReadAll s js ds
and_other s ids js ds e h = let P : List ℕ → Type 0 = λ l. ReadAll s l ds in subst P e h

pub last_next_put : (a b c : Expander) (rest others : List (Option ℕ)) (o : Option ℕ) (ds : Items) → Put a b (those rest) ds
    → rest ≡ others ++ o ∷ [] → ((es : Items) → ReadAll b.source (those (o ∷ [])) es → Adds b c (of_all es))
    → Put a c (those others) ds
last_next_put a b c rest others (Some id) ds i e next =
    last_put a b c (those rest) (those others) id ds i (ap those e ∙ those_behind others (Some id))
    (λ d h. due b c (of_all (item d none)) (of d) (of_one d) (next (item d none) (read_one b.source id d h)))
last_next_put a b c rest others None ds i e next =
    let same : those rest ≡ those others = ap those e ∙ (those_behind others None ∙ append-nil (those others)) in
    let adds = i.adds in
    let empty : ReadAll b.source [] none = record { named = subst (λ s. IsNamed s) (sym adds.source) i.read.named; stand = refl } in
    record {
      left = i.left;
      read = and_other a.source (those rest) (those others) i.left same i.read;
      paid = i.paid;
      adds = then_none a b c i.paid adds (next none empty);
      total = i.total;
    }

pub one_next : (a b : Expander) (o : Option ℕ) (id : ℕ) (ds : Items) → ReadAll a.source (those (o ∷ [])) ds → o ≡ Some id
    → ((d : Datum) → Reads a.source id d → Adds a b (of d)) → Adds a b (of_all ds)
one_next a b o id ds h e k =
    let r = first_of a.source (those (o ∷ [])) id [] ds (ap (λ x. those (x ∷ [])) e) h in
    due a b (of r.datum) (of_all ds)
    (sym (of_one r.datum) ∙ ap of_all (sym (r.are ∙ ap (item r.datum) (no_items a.source [] r.others refl r.rest))))
    (k r.datum r.first)

pub no_next : (a b : Expander) (o : Option ℕ) (ds : Items) → ReadAll a.source (those (o ∷ [])) ds → o ≡ None → Adds a b None
    → Adds a b (of_all ds)
no_next a b o ds h e k = due a b None (of_all ds) (ap of_all (sym (no_items a.source _ ds (ap (λ x. those (x ∷ [])) e) h))) k

pub none_those : (os : List (Option ℕ)) → length os ≡ 0 → those os ≡ []
none_those [] e = refl
none_those (o ∷ os) e = absurd (omega (arith, e))

pub no_steps : (os : List (Option ℕ)) → length os ≡ 0 → os ≡ []
no_steps [] e = refl
no_steps (o ∷ os) e = absurd (omega (arith, e))

pub no_results : (a b : Expander) (ids : List ℕ) (ds : Items) → ReadAll a.source ids ds → ids ≡ [] → Adds a b None → Adds a b (of_all ds)
no_results a b ids ds h e k = due a b None (of_all ds) (ap of_all (sym (no_items a.source ids ds e h))) k
