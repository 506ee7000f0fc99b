-- The expressions of a template wait, from the last to the first.
use Rattle.std.proofs.Common.{ℕ, ◌≡◌, List, [], ◌∷◌, ◌++◌, length, None, refl, sym, ap, subst, ◌∙◌, append-nil, arith}
use Rattle.datum_form.specs.Data.{Datum, Items}
use Rattle.datum_form.specs.Data.Items.{none, item}
use Rattle.quasi_expand.specs.declared.template.Part.{Part}
use Rattle.quasi_expand.specs.declared.template.Part.TheVariants as part
use Rattle.quasi_expand.specs.Levels.{evaluated}
use Rattle.quasi_expand.specs.Steps.{exprs_in}
use Rattle.quasi_expand.proofs.Listing.{exprs_append}
use Rattle.scheme_base.specs.declared.pos.Pos.{Pos}
use Rattle.scheme_expand.specs.declared.expander.Expander.{Expander}
use Rattle.scheme_expand.specs.declared.source.Source.{Source}
use Rattle.scheme_expand.specs.Faults.{least, in_exp}
use Rattle.scheme_expand.specs.Grammar.{quasi_form}
use Rattle.scheme_expand.specs.Waiting.{IsNamed, Reads, ReadAll, Adds}
use Rattle.scheme_expand.proofs.Adding.{due}
use Rattle.scheme_expand.proofs.Backwards.{Put, last_put}
use Rattle.scheme_expand.proofs.Bodies.{then_none}
use Rattle.scheme_expand.proofs.Due.{of, of_all, of_one}
use Rattle.scheme_expand.proofs.Parts.{no_items, first_of, read_one}
use Rattle.scheme_expand.proofs.Templates.{in_datum}

and_other : (s : Source) (ids js : List ℕ) (ds : Items) → ids ≡ js → ReadAll s ids ds → ReadAll s js ds
and_other s ids js ds e h = let P : List ℕ → Type 0 = λ l. ReadAll s l ds in subst P e h

plain_put : (a b c : Expander) (ids js : List ℕ) (ds : Items) → Put a b ids ds → ids ≡ js
    → ((es : Items) → ReadAll b.source [] es → Adds b c (of_all es)) → Put a c js ds
plain_put a b c ids js ds i e next =
    let adds = i.adds in
    let empty : ReadAll b.source [] none = record { named = subst (λ s. IsNamed s) (sym adds.source) i.read.named; stand = refl } in
    record {
      left = i.left;
      read = and_other a.source ids js i.left e i.read;
      paid = i.paid;
      adds = then_none a b c i.paid adds (next none empty);
      total = i.total;
    }

no_more : (rest others : List Part) (p : Part) → rest ≡ others ++ p ∷ [] → exprs_in (p ∷ []) ≡ [] → exprs_in rest ≡ exprs_in others
no_more rest others p e q =
    ap exprs_in e ∙ (exprs_append others (p ∷ []) ∙ (ap (λ l. exprs_in others ++ l) q ∙ append-nil (exprs_in others)))

pub last_step_put : (a b c : Expander) (rest others : List Part) (p : Part) (ds : Items) → Put a b (exprs_in rest) ds
    → rest ≡ others ++ p ∷ [] → ((es : Items) → ReadAll b.source (exprs_in (p ∷ [])) es → Adds b c (of_all es))
    → Put a c (exprs_in others) ds
last_step_put a b c rest others (part.Expr id) ds i e next =
    last_put a b c (exprs_in rest) (exprs_in others) id ds i (ap exprs_in e ∙ exprs_append others (part.Expr id ∷ []))
    (λ d h. due b c (of_all (item d none)) (of d) (of_one d) (next (item d none) (read_one b.source id d h)))
last_step_put a b c rest others (part.Datum id) ds i e next =
    plain_put a b c (exprs_in rest) (exprs_in others) ds i (no_more rest others (part.Datum id) e refl) next
last_step_put a b c rest others (part.Rest node from) ds i e next =
    plain_put a b c (exprs_in rest) (exprs_in others) ds i (no_more rest others (part.Rest node from) e refl) next
last_step_put a b c rest others part.Cons ds i e next =
    plain_put a b c (exprs_in rest) (exprs_in others) ds i (no_more rest others part.Cons e refl) next
last_step_put a b c rest others part.Join ds i e next =
    plain_put a b c (exprs_in rest) (exprs_in others) ds i (no_more rest others part.Join e refl) next
last_step_put a b c rest others part.Vector ds i e next =
    plain_put a b c (exprs_in rest) (exprs_in others) ds i (no_more rest others part.Vector e refl) next

pub none_in : (ps : List Part) → length ps ≡ 0 → exprs_in ps ≡ []
none_in [] e = refl
none_in (p ∷ ps) e = absurd (omega (arith, e))

-- one step

pub one_step : (a b : Expander) (p : Part) (id : ℕ) (ds : Items) → ReadAll a.source (exprs_in (p ∷ [])) ds → p ≡ part.Expr id
    → ((d : Datum) → Reads a.source id d → Adds a b (of d)) → Adds a b (of_all ds)
one_step a b p id ds h e k =
    let r = first_of a.source (exprs_in (p ∷ [])) id [] ds (ap (λ x. exprs_in (x ∷ [])) e) h in
    due a b (of r.datum) (of_all ds)
    (sym (of_one r.datum) ∙ ap of_all (sym (r.are ∙ ap (item r.datum) (no_items a.source [] r.others refl r.rest))))
    (k r.datum r.first)

no_expr : (p : Part) → ((id : ℕ) → p ≡ part.Expr id → ⊥) → exprs_in (p ∷ []) ≡ []
no_expr (part.Expr id) h = absurd (h id refl)
no_expr (part.Datum id) h = refl
no_expr (part.Rest node from) h = refl
no_expr part.Cons h = refl
no_expr part.Join h = refl
no_expr part.Vector h = refl

pub no_step : (a b : Expander) (p : Part) (ds : Items) → ReadAll a.source (exprs_in (p ∷ [])) ds → ((id : ℕ) → p ≡ part.Expr id → ⊥)
    → Adds a b None → Adds a b (of_all ds)
no_step a b p ds h e k = due a b None (of_all ds) (ap of_all (sym (no_items a.source _ ds (no_expr p e) h))) k

-- a template has the faults of its expressions
pub template_due : (p : Pos) (ds : Items) (d : Datum) → ds ≡ item d none → of_all (evaluated d 0) ≡ least (in_exp (quasi_form p ds))
template_due p ds d e = ap least (sym (in_datum d 0)) ∙ ap (λ l. least (in_exp (quasi_form p l))) (sym e)
