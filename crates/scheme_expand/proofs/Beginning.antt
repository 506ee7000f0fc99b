-- The faults of a form by the keyword that begins it, and of a call.
use Rattle.std.proofs.Common.{ℕ, ◌≡◌, List, [], ◌∷◌, Option, Some, None, refl, sym, ap, subst, ◌∙◌}
use Rattle.scheme_base.specs.declared.pos.Pos.{Pos}
use Rattle.datum_form.specs.declared.token.Atom.TheVariants.{Integer, Boolean, Character, String, Symbol}
use Rattle.datum_form.specs.Data.{Datum, Datum as datum, Items}
use Rattle.datum_form.specs.Data.Items.{item}
use Rattle.scheme_expand.specs.declared.expander.Expander.{Expander}
use Rattle.datum_form.specs.Stands.{Stands}
use Rattle.scheme_expand.specs.declared.source.Source.{Source}
use Rattle.scheme_expand.specs.declared.words.Keyword.{Keyword}
use Rattle.scheme_expand.specs.Forms.{Exp, Application, Variable}
use Rattle.scheme_expand.specs.Grammar.{word, expr, exprs}
use Rattle.scheme_expand.specs.Faults.{fault, least, in_exp, in_exps}
use Rattle.scheme_expand.specs.Waiting.{earlier, keyword_of, name_of, Reads, ReadAll, Adds}
use Rattle.scheme_expand.proofs.Adding.{due}
use Rattle.scheme_expand.proofs.Due.{of, of_all}
use Rattle.scheme_expand.proofs.Least.{least_append}
use Rattle.scheme_expand.proofs.Named.{begins, calls, is_name, keyword_name}
use Rattle.scheme_expand.proofs.Parts.{no_items, first_of}

pub nothing_due : (a b : Expander) (p : Pos) (all : List ℕ) (ds : Items) → ReadAll a.source all ds → all ≡ []
    → Adds a b (least (fault p 13 ∷ [])) → Adds a b (least (in_exp (expr (datum.List p ds))))
nothing_due a b p all ds h e k =
    due a b (least (fault p 13 ∷ [])) (least (in_exp (expr (datum.List p ds))))
    (ap (λ l. least (in_exp (expr (datum.List p l)))) (sym (no_items a.source all ds e h))) k

-- the form that a keyword begins
pub form_due : (a b : Expander) (p : Pos) (d : Datum) (ds : Items) (k : Keyword) (form : Exp) → keyword_of d ≡ Some k
    → ((q : Pos) → expr (datum.List p (item (datum.Atomic q (Symbol (name_of k))) ds)) ≡ form) → Adds a b (least (in_exp form))
    → Adds a b (least (in_exp (expr (datum.List p (item d ds)))))
form_due a b p d ds k form word same add =
    due a b (least (in_exp form)) (least (in_exp (expr (datum.List p (item d ds)))))
    (ap (λ x. least (in_exp x)) (sym (begins p d ds k form word same))) add

-- a call of what is no operator
pub word_due : (a b : Expander) (p : Pos) (d : Datum) (ds : Items) (k : Keyword) → keyword_of d ≡ Some k
    → ((q : Pos) → expr (datum.List p (item (datum.Atomic q (Symbol (name_of k))) ds)) ≡ Application p (Variable (word q (name_of k))) (exprs ds))
    → Adds a b (earlier (of d) (of_all ds)) → Adds a b (least (in_exp (expr (datum.List p (item d ds)))))
word_due a b p d ds k e same add =
    let i = keyword_name d k e in
    let name : d ≡ datum.Atomic i.at (Symbol (name_of k)) = i.are ∙ ap (λ x. datum.Atomic i.at (Symbol x)) (is_name i.name k i.keyword) in
    due a b (earlier (of d) (of_all ds)) (least (in_exp (expr (datum.List p (item d ds)))))
    (ap (λ x. earlier (of x) (of_all ds)) name
    ∙ (sym (least_append (in_exp (Variable (word i.at (name_of k)))) (in_exps (exprs ds)))
    ∙ (ap (λ x. least (in_exp x)) (sym (same i.at)) ∙ ap (λ x. least (in_exp (expr (datum.List p (item x ds))))) (sym name))))
    add

-- the form of the first item's keyword
pub first_form : (a b : Expander) (p : Pos) (all ids : List ℕ) (id : ℕ) (ds : Items) (k : Keyword) (found : Option Keyword)
    → ReadAll a.source all ds → all ≡ id ∷ ids → ((d : Datum) → Reads a.source id d → found ≡ keyword_of d) → found ≡ Some k
    → ((d : Datum) (es : Items) → ReadAll a.source all (item d es) → ReadAll a.source ids es → keyword_of d ≡ Some k
    → Adds a b (least (in_exp (expr (datum.List p (item d es)))))) → Adds a b (least (in_exp (expr (datum.List p ds))))
first_form a b p all ids id ds k found h e word some add =
    let f = first_of a.source all id ids ds e h in
    let P : Items → Type 0 = λ l. ReadAll a.source all l in
    due a b (least (in_exp (expr (datum.List p (item f.datum f.others))))) (least (in_exp (expr (datum.List p ds))))
    (ap (λ l. least (in_exp (expr (datum.List p l)))) (sym f.are))
    (add f.datum f.others (subst P f.are h) f.rest (sym (word f.datum f.first) ∙ some))

is_call : (p : Pos) (d : Datum) (ds : Items) → keyword_of d ≡ None → expr (datum.List p (item d ds)) ≡ Application p (expr d) (exprs ds)
is_call p (datum.Atomic q (Symbol x)) ds e = calls p q x ds e
is_call p (datum.Atomic q (Integer z)) ds e = refl
is_call p (datum.Atomic q (Boolean b)) ds e = refl
is_call p (datum.Atomic q (Character c)) ds e = refl
is_call p (datum.Atomic q (String t)) ds e = refl
is_call p (datum.List q is) ds e = refl
is_call p (datum.Dotted q is d) ds e = refl
is_call p (datum.Vector q is) ds e = refl

pub call_due : (a b : Expander) (p : Pos) (all ids : List ℕ) (id : ℕ) (ds : Items) → ReadAll a.source all ds → all ≡ id ∷ ids
    → (found : Option Keyword) → ((d : Datum) → Reads a.source id d → found ≡ keyword_of d) → found ≡ None
    → ((d : Datum) (es : Items) → Reads a.source id d → ReadAll a.source ids es → Adds a b (earlier (of d) (of_all es)))
    → Adds a b (least (in_exp (expr (datum.List p ds))))
call_due a b p all ids id ds h e found word none_found add =
    let f = first_of a.source all id ids ds e h in
    due a b (earlier (of f.datum) (of_all f.others)) (least (in_exp (expr (datum.List p ds))))
    (sym (least_append (in_exp (expr f.datum)) (in_exps (exprs f.others)))
    ∙ ap (λ x. least (in_exp x)) (sym (is_call p f.datum f.others (sym (word f.datum f.first) ∙ none_found)) ∙ ap (λ l. expr (datum.List p l)) (sym f.are)))
    (add f.datum f.others f.first f.rest)

pub first_item : (s : Source) (all ids : List ℕ) (id : ℕ) (d : Datum) (ds : Items) → ReadAll s all (item d ds) → all ≡ id ∷ ids
    → Reads s id d
first_item s all ids id d ds h e =
    let f = h.stand in
    let whole : f.0 ∷ f.1 ≡ id ∷ ids = sym f.2 ∙ e in
    let same : f.0 ≡ id = cc in
    let P : ℕ → Type 0 = λ i. Stands s.nodes.now i d in
    record { named = h.named; stands = subst P same f.3 }
