-- Which good expressions are lambda expressions: the lists that begin with `lambda`.
use Rattle.std.proofs.Common.{◌≡◌, List, [], ◌∷◌, Option, Some, None, Bool, true, false, refl, sym, ap, ◌∙◌}
use Rattle.std.specs.Prelude.{not, ◌||◌}
use Rattle.quasi_expand.specs.Shapes.{are_clauses, is_case, is_list_of, is_step}
use Rattle.scheme_base.specs.declared.pos.Pos.{Pos}
use Rattle.datum_form.specs.declared.token.Atom.TheVariants.{Integer, Boolean, Character, String, Symbol}
use Rattle.datum_form.specs.Data.{Datum, Datum as datum, Items}
use Rattle.datum_form.specs.Data.Items.{none, item}
use Rattle.scheme_expand.specs.declared.words.Keyword.{Keyword}
use Rattle.scheme_expand.specs.declared.words.Keyword.TheVariants as keyword
use Rattle.scheme_expand.specs.Faults.{in_exp}
use Rattle.scheme_expand.specs.Forms.{Word, Exp, Bindings, Body, Procedure, Cond, Case, Let, LetStar, Letrec, Do, Named}
use Rattle.scheme_expand.specs.Grammar.{Check, rule, checked, word, twice, bound_words, step_words, defines_twice, is_no_body, is_binding, is_clause, are_formals, params_of, rest_of, and_rest, binding_of, procedure, expr, exprs, bindings, steps, body, clauses, cases, lambda_form, quote_form, quasi_form, if_form, set_form, begin_form, case_form, let_form, let_star_form, letrec_form, do_form}
use Rattle.scheme_expand.specs.Making.{IsRight}
use Rattle.scheme_expand.specs.Rewriting.{is_lambda}
use Rattle.scheme_expand.specs.Shapes.{begins_lambda}
use Rattle.scheme_expand.specs.Waiting.{keyword_of, head_of, name_of}
use Rattle.scheme_expand.proofs.Named.{is_name, keyword_name, calls}

-- Checks

checked_other : (p : Pos) (cs : List Check) (e : Exp) → is_lambda e ≡ false → is_lambda (checked p cs e) ≡ false
checked_other p [] e h = h
checked_other p (rule true n ∷ cs) e h = refl
checked_other p (rule false n ∷ cs) e h = checked_other p cs e h

-- a form that breaks no rule is what it was checked for
pub checked_is : (p : Pos) (cs : List Check) (e : Exp) → IsRight (checked p cs e) → checked p cs e ≡ e
checked_is p [] e r = refl
checked_is p (rule true n ∷ cs) e r = absurd (cc)
checked_is p (rule false n ∷ cs) e r = checked_is p cs e r

-- Forms

binding_other : (form : Pos → Bindings → Body → Exp) (p : Pos) (d : Datum) (ws : List Word) (ds : Items) (bs : Bindings) (b : Body)
    → is_lambda (form p bs b) ≡ false → is_lambda (binding_of form p d ws ds bs b) ≡ false
binding_other form p d ws ds bs b h =
    checked_other p
    (rule (is_no_body ds) 4 ∷ rule (not (is_list_of is_binding d)) 8 ∷ rule (twice ws || defines_twice b) 12 ∷ [])
    (form p bs b) h

quote_other : (p : Pos) (ds : Items) → is_lambda (quote_form p ds) ≡ false
quote_other p none = refl
quote_other p (item d none) = refl
quote_other p (item d (item e ds)) = refl

quasi_other : (p : Pos) (ds : Items) → is_lambda (quasi_form p ds) ≡ false
quasi_other p none = refl
quasi_other p (item d none) = refl
quasi_other p (item d (item e ds)) = refl

if_other : (p : Pos) (ds : Items) → is_lambda (if_form p ds) ≡ false
if_other p none = refl
if_other p (item d none) = refl
if_other p (item d (item e none)) = refl
if_other p (item d (item e (item f none))) = refl
if_other p (item d (item e (item f (item g ds)))) = refl

set_other : (p : Pos) (ds : Items) → is_lambda (set_form p ds) ≡ false
set_other p (item (datum.Atomic q (Symbol x)) (item e none)) = refl
set_other p ds = refl

begin_other : (p : Pos) (ds : Items) → is_lambda (begin_form p ds) ≡ false
begin_other p none = refl
begin_other p (item d ds) = refl

case_other : (p : Pos) (ds : Items) → is_lambda (case_form p ds) ≡ false
case_other p none = refl
case_other p (item d ds) =
    checked_other p (rule (not (are_clauses is_case ds)) 7 ∷ []) (Case p (expr d) (cases ds)) refl

let_other : (p : Pos) (ds : Items) → is_lambda (let_form p ds) ≡ false
let_other p none = refl
let_other p (item (datum.Atomic q (Symbol x)) none) = refl
let_other p (item (datum.Atomic q (Symbol x)) (item d ds)) =
    binding_other (λ r. Named r (word q x)) p d (bound_words (bindings d)) ds (bindings d) (body ds) refl
let_other p (item d ds) = binding_other Let p d (bound_words (bindings d)) ds (bindings d) (body ds) refl

star_other : (p : Pos) (ds : Items) → is_lambda (let_star_form p ds) ≡ false
star_other p none = refl
star_other p (item d ds) = binding_other LetStar p d [] ds (bindings d) (body ds) refl

rec_other : (p : Pos) (ds : Items) → is_lambda (letrec_form p ds) ≡ false
rec_other p none = refl
rec_other p (item d ds) = binding_other Letrec p d (bound_words (bindings d)) ds (bindings d) (body ds) refl

do_other : (p : Pos) (ds : Items) → is_lambda (do_form p ds) ≡ false
do_other p (item d (item (datum.List q (item e es)) ds)) =
    checked_other p (rule (not (is_list_of is_step d)) 9 ∷ rule (twice (step_words (steps d))) 12 ∷ [])
    (Do p (steps d) (expr e) (exprs es) (exprs ds)) refl
do_other p ds = refl

-- a good one is a procedure
pub good_lambda : (p : Pos) (ws : List Word) (r : Option Word) (ds : Items) → IsRight (procedure p ws r ds (body ds))
    → is_lambda (procedure p ws r ds (body ds)) ≡ true
good_lambda p ws r ds h =
    ap is_lambda
    (checked_is p (rule (is_no_body ds) 4 ∷ rule (twice (and_rest ws r) || defines_twice (body ds)) 12 ∷ [])
    (Procedure p ws r (body ds)) h)

lambda_is : (p : Pos) (ds : Items) → IsRight (lambda_form p ds) → is_lambda (lambda_form p ds) ≡ true
lambda_is p none r = absurd (cc)
lambda_is p (item f ds) r =
    let inner : Exp = procedure p (params_of f) (rest_of f) ds (body ds) in
    let whole : lambda_form p (item f ds) ≡ inner = checked_is p (rule (not (are_formals f)) 3 ∷ []) inner r in
    ap is_lambda whole ∙ good_lambda p (params_of f) (rest_of f) ds (sym (ap in_exp whole) ∙ r)

-- Heads

each_head : (p q : Pos) (ds : Items) (k : Keyword) → IsRight (expr (datum.List p (item (datum.Atomic q (Symbol (name_of k))) ds)))
    → is_lambda (expr (datum.List p (item (datum.Atomic q (Symbol (name_of k))) ds))) ≡ begins_lambda k
each_head p q ds keyword.Quote r = quote_other p ds
each_head p q ds keyword.Lambda r = lambda_is p ds r
each_head p q ds keyword.If r = if_other p ds
each_head p q ds keyword.Set r = set_other p ds
each_head p q ds keyword.Begin r = begin_other p ds
each_head p q ds keyword.Cond r = checked_other p (rule (not (are_clauses is_clause ds)) 6 ∷ []) (Cond p (clauses ds)) refl
each_head p q ds keyword.And r = refl
each_head p q ds keyword.Or r = refl
each_head p q ds keyword.Case r = case_other p ds
each_head p q ds keyword.Let r = let_other p ds
each_head p q ds keyword.LetStar r = star_other p ds
each_head p q ds keyword.Letrec r = rec_other p ds
each_head p q ds keyword.Do r = do_other p ds
each_head p q ds keyword.Delay r = refl
each_head p q ds keyword.Quasiquote r = quasi_other p ds
each_head p q ds keyword.Else r = refl
each_head p q ds keyword.Arrow r = refl
each_head p q ds keyword.Define r = refl
each_head p q ds keyword.Unquote r = refl
each_head p q ds keyword.Splice r = refl

list_head : (p : Pos) (d : Datum) (ds : Items) (k : Keyword) → keyword_of d ≡ Some k
    → IsRight (expr (datum.List p (item d ds))) → is_lambda (expr (datum.List p (item d ds))) ≡ begins_lambda k
list_head p d ds k e r =
    let i = keyword_name d k e in
    let s : d ≡ datum.Atomic i.at (Symbol (name_of k)) = i.are ∙ ap (λ x. datum.Atomic i.at (Symbol x)) (is_name i.name k i.keyword) in
    ap (λ y. is_lambda (expr (datum.List p (item y ds)))) s
    ∙ each_head p i.at ds k (sym (ap (λ y. in_exp (expr (datum.List p (item y ds)))) s) ∙ r)

pub lambda_begins : (d : Datum) (k : Keyword) → head_of d ≡ Some k → IsRight (expr d) → is_lambda (expr d) ≡ begins_lambda k
lambda_begins (datum.Atomic p a) k e r = absurd (cc)
lambda_begins (datum.List p none) k e r = absurd (cc)
lambda_begins (datum.List p (item d ds)) k e r = list_head p d ds k e r
lambda_begins (datum.Dotted p is f) k e r = absurd (cc)
lambda_begins (datum.Vector p is) k e r = absurd (cc)

no_lambda_list : (p : Pos) (d : Datum) (ds : Items) → keyword_of d ≡ None → is_lambda (expr (datum.List p (item d ds))) ≡ false
no_lambda_list p (datum.Atomic q (Symbol x)) ds e = ap is_lambda (calls p q x ds e)
no_lambda_list p (datum.Atomic q (Integer z)) ds e = refl
no_lambda_list p (datum.Atomic q (Boolean b)) ds e = refl
no_lambda_list p (datum.Atomic q (Character c)) ds e = refl
no_lambda_list p (datum.Atomic q (String t)) ds e = refl
no_lambda_list p (datum.List q is) ds e = refl
no_lambda_list p (datum.Dotted q is d) ds e = refl
no_lambda_list p (datum.Vector q is) ds e = refl

pub no_lambda_begins : (d : Datum) → head_of d ≡ None → is_lambda (expr d) ≡ false
no_lambda_begins (datum.Atomic p (Symbol x)) e = refl
no_lambda_begins (datum.Atomic p (Integer z)) e = refl
no_lambda_begins (datum.Atomic p (Boolean b)) e = refl
no_lambda_begins (datum.Atomic p (Character c)) e = refl
no_lambda_begins (datum.Atomic p (String t)) e = refl
no_lambda_begins (datum.List p none) e = refl
no_lambda_begins (datum.List p (item d ds)) e = no_lambda_list p d ds e
no_lambda_begins (datum.Dotted p is f) e = refl
no_lambda_begins (datum.Vector p is) e = refl
