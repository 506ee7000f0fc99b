-- Which calls are known, by what the operator is and means.
use Rattle.std.proofs.Common.{ℕ, ◌≡◌, List, [], ◌∷◌, Bool, true, false, not, Option, Some, None, MatchOption, is_some, slice_get, refl, sym, ap, subst, ◌∙◌}
use Rattle.std.specs.Prelude.{◌&&◌, ◌||◌, if◌then◌else◌, codes}
use Rattle.scheme_base.specs.declared.pos.Pos.{Pos}
use Rattle.datum_form.specs.declared.token.Atom.TheVariants.{Symbol}
use Rattle.datum_form.specs.Data.{Datum, Datum as datum, Items}
use Rattle.datum_form.specs.Data.Items.{none, item}
use Rattle.draft_form.specs.declared.draft.Variable.{Variable as Kept}
use Rattle.draft_form.specs.declared.draft.Variable.TheVariants as variable
use Rattle.draft_form.specs.Drafts.{Draft, Drafts, Top, Library, Call}
use Rattle.draft_form.specs.Drawn.{Names, name_of, word_name}
use Rattle.scheme_expand.specs.declared.source.Source.{Source}
use Rattle.scheme_expand.specs.declared.words.Known.{Known}
use Rattle.scheme_expand.specs.ByWord.{all_names}
use Rattle.scheme_expand.specs.Calls.{integrated}
use Rattle.scheme_expand.specs.Forms.{Word, Exp, Bindings, Body, Variable, Wrong, Application, Procedure, Cond, Case, And, Or, Let, LetStar, Letrec, Named, Do}
use Rattle.quasi_expand.specs.Shapes.{are_clauses, is_case, is_list_of, is_step}
use Rattle.scheme_expand.specs.Grammar.{Check, rule, checked, word, form, Reading, params_of, rest_of, are_formals, and_rest, twice, is_no_body, is_binding, is_clause, defines_twice, bound_words, step_words, procedure, binding_of, let_of, body, bindings, steps, clauses, cases, expr, exprs, quote_form, quasi_form, lambda_form, if_form, set_form, begin_form, case_form, let_form, let_star_form, letrec_form, do_form}
use Rattle.scheme_expand.specs.Making.{known_draft}
use Rattle.scheme_expand.specs.Noted.{level_in}
use Rattle.scheme_expand.specs.Rewriting.{Side, OfLibrary, OfProgram, Scope, level, has_name, free, found, local_or, meaning, call, call_of, call_or}
use Rattle.scheme_expand.specs.Viewed.{Fits, Spells}
use Rattle.scheme_expand.specs.Views.{Context, View, scope_of, height}
use Rattle.scheme_expand.specs.Waiting.{HasWord, Reads, named_datum}
use Rattle.scheme_expand.proofs.GoodCalls.{Each, begun_each}
use Rattle.scheme_expand.proofs.Expanding.{spelled}
use Rattle.scheme_expand.proofs.MadeClauses.{same_level}
use Rattle.scheme_expand.proofs.Operators.{name_read}

-- Operators that are no names

abbrev IsNoName : Exp → Type 0
IsNoName (Variable w) = ⊥
IsNoName e = Unit {0}

checked_no_name : (p : Pos) (checks : List Check) (e : Exp) → IsNoName e → IsNoName (checked p checks e)
checked_no_name p [] e h = h
checked_no_name p (rule true n ∷ checks) e h = tt
checked_no_name p (rule false n ∷ checks) e h = checked_no_name p checks e h

quote_no_name : (p : Pos) (ds : Items) → IsNoName (quote_form p ds)
quote_no_name p none = tt
quote_no_name p (item d none) = tt
quote_no_name p (item d (item e ds)) = tt

quasi_no_name : (p : Pos) (ds : Items) → IsNoName (quasi_form p ds)
quasi_no_name p none = tt
quasi_no_name p (item d none) = tt
quasi_no_name p (item d (item e ds)) = tt

lambda_no_name : (p : Pos) (ds : Items) → IsNoName (lambda_form p ds)
lambda_no_name p none = tt
lambda_no_name p (item f ds) =
    let ws : List Word = params_of f in
    let r : Option Word = rest_of f in
    let b : Body = body ds in
    checked_no_name p (rule (not (are_formals f)) 3 ∷ []) (procedure p ws r ds b)
    (checked_no_name p (rule (is_no_body ds) 4 ∷ rule (twice (and_rest ws r) || defines_twice b) 12 ∷ []) (Procedure p ws r b) tt)

if_no_name : (p : Pos) (ds : Items) → IsNoName (if_form p ds)
if_no_name p none = tt
if_no_name p (item d none) = tt
if_no_name p (item d (item e none)) = tt
if_no_name p (item d (item e (item f none))) = tt
if_no_name p (item d (item e (item f (item g ds)))) = tt

set_no_name : (p : Pos) (ds : Items) → IsNoName (set_form p ds)
set_no_name p (item (datum.Atomic q (Symbol x)) (item e none)) = tt
set_no_name p ds = tt

begin_no_name : (p : Pos) (ds : Items) → IsNoName (begin_form p ds)
begin_no_name p none = tt
begin_no_name p (item d ds) = tt

case_no_name : (p : Pos) (ds : Items) → IsNoName (case_form p ds)
case_no_name p none = tt
case_no_name p (item d ds) =
    checked_no_name p (rule (not (are_clauses is_case ds)) 7 ∷ []) (Case p (expr d) (cases ds)) tt

binding_no_name : (to : Pos → Bindings → Body → Exp) (p : Pos) (d : Datum) (ws : List Word) (ds : Items) (bs : Bindings) (b : Body)
    → IsNoName (to p bs b) → IsNoName (binding_of to p d ws ds bs b)
binding_no_name to p d ws ds bs b h =
    checked_no_name p
    (rule (is_no_body ds) 4 ∷ rule (not (is_list_of is_binding d)) 8 ∷ rule (twice ws || defines_twice b) 12 ∷ []) (to p bs b) h

plain_no_name : (p : Pos) (d : Datum) (ds : Items) → IsNoName (let_of p d ds (bindings d) (body ds))
plain_no_name p d ds = binding_no_name Let p d (bound_words (bindings d)) ds (bindings d) (body ds) tt

let_no_name : (p : Pos) (ds : Items) → IsNoName (let_form p ds)
let_no_name p none = tt
let_no_name p (item (datum.Atomic q (Symbol x)) none) = tt
let_no_name p (item (datum.Atomic q (Symbol x)) (item d ds)) =
    binding_no_name (λ r. Named r (word q x)) p d (bound_words (bindings d)) ds (bindings d) (body ds) tt
let_no_name p (item d ds) = plain_no_name p d ds

let_star_no_name : (p : Pos) (ds : Items) → IsNoName (let_star_form p ds)
let_star_no_name p none = tt
let_star_no_name p (item d ds) = binding_no_name LetStar p d [] ds (bindings d) (body ds) tt

letrec_no_name : (p : Pos) (ds : Items) → IsNoName (letrec_form p ds)
letrec_no_name p none = tt
letrec_no_name p (item d ds) = binding_no_name Letrec p d (bound_words (bindings d)) ds (bindings d) (body ds) tt

do_no_name : (p : Pos) (ds : Items) → IsNoName (do_form p ds)
do_no_name p (item d (item (datum.List q (item e es)) ds)) =
    checked_no_name p (rule (not (is_list_of is_step d)) 9 ∷ rule (twice (step_words (steps d))) 12 ∷ [])
    (Do p (steps d) (expr e) (exprs es) (exprs ds)) tt
do_no_name p ds = tt

-- the forms that words begin
abbrev word_forms : Pos → Items → List (Reading Exp)
word_forms p ds =
    form (codes "quote") (quote_form p ds)
    ∷ form (codes "quasiquote") (quasi_form p ds)
    ∷ form (codes "lambda") (lambda_form p ds)
    ∷ form (codes "if") (if_form p ds)
    ∷ form (codes "set!") (set_form p ds)
    ∷ form (codes "begin") (begin_form p ds)
    ∷ form (codes "cond") (checked p (rule (not (are_clauses is_clause ds)) 6 ∷ []) (Cond p (clauses ds)))
    ∷ form (codes "case") (case_form p ds)
    ∷ form (codes "and") (And p (exprs ds))
    ∷ form (codes "or") (Or p (exprs ds))
    ∷ form (codes "let") (let_form p ds)
    ∷ form (codes "let*") (let_star_form p ds)
    ∷ form (codes "letrec") (letrec_form p ds)
    ∷ form (codes "do") (do_form p ds)
    ∷ form (codes "define") (Wrong p 11)
    ∷ form (codes "unquote") (Wrong p 14)
    ∷ form (codes "unquote-splicing") (Wrong p 14)
    ∷ form (codes "delay") (Wrong p 16)
    ∷ []

no_word_name : (p : Pos) (ds : Items) → Each IsNoName (word_forms p ds)
no_word_name p ds = (
  quote_no_name p ds,
  (
    quasi_no_name p ds,
    (
      lambda_no_name p ds,
      (
        if_no_name p ds,
        (
          set_no_name p ds,
          (
            begin_no_name p ds,
            (
              checked_no_name p (rule (not (are_clauses is_clause ds)) 6 ∷ []) (Cond p (clauses ds)) tt,
              (
                case_no_name p ds,
                (
                  tt,
                  (
                    tt,
                    (
                      let_no_name p ds,
                      (
                        let_star_no_name p ds,
                        (
                          letrec_no_name p ds,
                          (do_no_name p ds, (tt, (tt, (tt, (tt, tt))))),
                        ),
                      ),
                    ),
                  ),
                ),
              ),
            ),
          ),
        ),
      ),
    ),
  ),
)

no_name : (d : Datum) → ((w : Word) → d ≡ named_datum w → ⊥) → IsNoName (expr d)
no_name (datum.Atomic p (Symbol x)) absent = absent (word p x) refl
no_name (datum.List p (item (datum.Atomic q (Symbol x)) ds)) absent =
    begun_each IsNoName x (word_forms p ds) (Application p (Variable (word q x)) (exprs ds)) (no_word_name p ds) tt
no_name d absent = tt

plain_call : (p : Pos) (s : Scope) (f : Exp) (e : Draft) (es : Drafts) → IsNoName f → call p s f e es ≡ Call p e es
plain_call p s (Variable w) e es h = absurd h
plain_call p s f e es h = refl

-- what has no number is no name
pub unnumbered_call : (c : Context) (s : Source) (id : ℕ) (d : Datum) (n : Option ℕ) (p : Pos) (e : Draft) (es : Drafts) (scope : Scope) → Fits c
    → Reads c.source id d → s ≡ c.source → n ≡ level_in (slice_get s.words.now id) → n ≡ None → call p scope (expr d) e es ≡ Call p e es
unnumbered_call c s id d n p e es scope fits read same is no_number =
    plain_call p scope (expr d) e es (no_name d absent)
  where
    absent : (w : Word) → d ≡ named_datum w → ⊥
    absent w are =
        let P : Datum → Type 0 = λ x. HasWord (all_names c.names) (level_in (slice_get c.source.words.now id)) x in
        let h = subst P are (fits.words id d read.stands) in
        let number : level_in (slice_get c.source.words.now id) ≡ None =
        ap (λ t. level_in (slice_get t.words.now id)) (sym same) ∙ (sym is ∙ no_number) in
        let some : Some h.0 ≡ None = sym h.1 ∙ number in
        cc

-- Names that are no library's

pub own_call : (names : Names) (v : Kept) (p : Pos) (s : Scope) (w : Word) (e : Draft) (es : Drafts)
    → ((u : ℕ) → v ≡ variable.Library u → ⊥) → name_of names v ≡ meaning s w.name → call p s (Variable w) e es ≡ Call p e es
own_call names v p s w e es absent means =
    ap (λ y. call_of p (level s) y e es) (sym means) ∙ by_variable v absent
  where
    by_variable : (x : Kept) → ((u : ℕ) → x ≡ variable.Library u → ⊥) → call_of p (level s) (name_of names x) e es ≡ Call p e es
    by_variable (variable.Local k u) h = refl
    by_variable (variable.Fresh k) h = refl
    by_variable (variable.Top u) h = refl
    by_variable (variable.Library u) h = absurd (h u refl)

-- Names of the library

free_library : (side : Side) (x y : List ℕ) → free side x ≡ Library y → x ≡ y
free_library OfLibrary x y h = cc
free_library (OfProgram public own) x y h = by_test (has_name public x && not (has_name own x)) h
  where
    by_test : (b : Bool) → (if b then Library x else Top x) ≡ Library y → x ≡ y
    by_test true e = cc
    by_test false e = absurd (cc)

means_library : (s : Scope) (x y : List ℕ) → meaning s x ≡ Library y → x ≡ y
means_library s x y h = by_level (found s.bound x) h
  where
    by_level : (o : Option ℕ) → local_or o x (free s.side x) ≡ Library y → x ≡ y
    by_level (Some k) e = absurd (cc)
    by_level None e = free_library s.side x y e

library_call : (c : Context) (v : View) (var : Kept) (u : ℕ) (p : Pos) (w : Word) (e : Draft) (es : Drafts) → var ≡ variable.Library u
    → name_of c.names var ≡ meaning (scope_of c v) w.name
    → call p (scope_of c v) (Variable w) e es ≡ call_or (Call p e es) (integrated p (height v) w.name es)
library_call c v var u p w e es is means =
    let s : Scope = scope_of c v in
    let m : meaning s w.name ≡ Library (word_name c.names u) = sym means ∙ ap (name_of c.names) is in
    let same : Library (word_name c.names u) ≡ Library w.name = ap Library (sym (means_library s w.name (word_name c.names u) m)) in
    ap (λ y. call_of p (level s) y e es) (m ∙ same)
    ∙ ap (λ k. call_or (Call p e es) (integrated p k w.name es)) (sym (same_level c v))

-- a name of the library whose calls are not known
pub unknown_call : (c : Context) (v : View) (var : Kept) (u : ℕ) (p : Pos) (w : Word) (e : Draft) (es : Drafts) → var ≡ variable.Library u
    → name_of c.names var ≡ meaning (scope_of c v) w.name → integrated p (height v) w.name es ≡ None
    → call p (scope_of c v) (Variable w) e es ≡ Call p e es
unknown_call c v var u p w e es is means h =
    library_call c v var u p w e es is means ∙ ap (call_or (Call p e es)) h

-- the draft of a call that is known, if it has as many operands as that takes
pub known_or_not : (c : Context) (v : View) (var : Kept) (u : ℕ) (p : Pos) (w : Word) (e : Draft) (es : Drafts) (k : Known) (takes : Bool)
    → var ≡ variable.Library u → name_of c.names var ≡ meaning (scope_of c v) w.name
    → integrated p (height v) w.name es ≡ known_draft p (height v) k es → takes ≡ is_some (known_draft p (height v) k es)
    → MatchOption (if takes then Some k else None) (call p (scope_of c v) (Variable w) e es ≡ Call p e es)
    (λ call_. (f : Draft) × (known_draft p (height v) call_ es ≡ Some f) × (call p (scope_of c v) (Variable w) e es ≡ f))
known_or_not c v var u p w e es k takes is means h t =
    by_draft (known_draft p (height v) k es) refl takes t
  where
    it : call p (scope_of c v) (Variable w) e es ≡ call_or (Call p e es) (known_draft p (height v) k es)
    it = library_call c v var u p w e es is means ∙ ap (call_or (Call p e es)) h

    by_draft : (o : Option Draft) → known_draft p (height v) k es ≡ o → (b : Bool) → b ≡ is_some o
        → MatchOption (if b then Some k else None) (call p (scope_of c v) (Variable w) e es ≡ Call p e es)
        (λ call_. (f : Draft) × (known_draft p (height v) call_ es ≡ Some f) × (call p (scope_of c v) (Variable w) e es ≡ f))
    by_draft None o true b = absurd (cc)
    by_draft None o false b = it ∙ ap (call_or (Call p e es)) o
    by_draft (Some f) o true b = (f, o, it ∙ ap (call_or (Call p e es)) o)
    by_draft (Some f) o false b = absurd (cc)

-- What is read of an operator

pub match_none : {A : Type 0} (o : Option A) (P : Type 0) (Q : A → Type 0) → o ≡ None → P → MatchOption o P Q
match_none None P Q e h = h
match_none (Some a) P Q e h = absurd (cc)

-- the datum is the name of a number
pub record IsNameOf (c : Context) (word : ℕ) (d : Datum) : Type 0 where
  pub name : Word
  pub are : d ≡ named_datum name
  pub spelled : Spells c.names word name.name
  pub listed : slice_get (all_names c.names) word ≡ Some name.name

pub name_at : (c : Context) (s : Source) (id : ℕ) (d : Datum) (n : Option ℕ) (number : ℕ) → Fits c → Reads c.source id d
    → s ≡ c.source → n ≡ level_in (slice_get s.words.now id) → n ≡ Some number → IsNameOf c number d
name_at c s id d n number fits read same is some =
    let here : n ≡ level_in (slice_get c.source.words.now id) = is ∙ ap (λ t. level_in (slice_get t.words.now id)) same in
    let r = name_read c.source id d number n read here some in
    let P : Datum → Type 0 = λ x. HasWord (all_names c.names) (level_in (slice_get c.source.words.now id)) x in
    let Q : Datum → Type 0 = λ x. Reads c.source id x in
    let h = subst P r.1 (fits.words id d read.stands) in
    let found : Some h.0 ≡ Some number = sym h.1 ∙ (sym here ∙ some) in
    let at : h.0 ≡ number = cc in
    record {
      name = r.0;
      are = r.1;
      spelled = spelled c id number r.0 fits (subst Q r.1 read) (sym some ∙ here);
      listed = ap (slice_get (all_names c.names)) (sym at) ∙ h.2;
    }

-- what a name means, whose number is looked up
means_name : (c : Context) (v : View) (var : Kept) (number : ℕ) (d : Datum) → (n : IsNameOf c number d)
    → name_of c.names var ≡ meaning (scope_of c v) (word_name c.names number) → name_of c.names var ≡ meaning (scope_of c v) n.name.name
means_name c v var number d n means = means ∙ ap (meaning (scope_of c v)) n.spelled.1

pub own_name : (c : Context) (v : View) (var : Kept) (number : ℕ) (d : Datum) (p : Pos) (e : Draft) (es : Drafts) → IsNameOf c number d
    → name_of c.names var ≡ meaning (scope_of c v) (word_name c.names number) → ((u : ℕ) → var ≡ variable.Library u → ⊥)
    → call p (scope_of c v) (expr d) e es ≡ Call p e es
own_name c v var number d p e es n means absent =
    ap (λ x. call p (scope_of c v) (expr x) e es) n.are
    ∙ own_call c.names var p (scope_of c v) n.name e es absent (means_name c v var number d n means)

pub unknown_name : (c : Context) (v : View) (var : Kept) (u number : ℕ) (d : Datum) (p : Pos) (e : Draft) (es : Drafts)
    → (n : IsNameOf c number d) → name_of c.names var ≡ meaning (scope_of c v) (word_name c.names number) → var ≡ variable.Library u
    → integrated p (height v) n.name.name es ≡ None → call p (scope_of c v) (expr d) e es ≡ Call p e es
unknown_name c v var u number d p e es n means is h =
    ap (λ x. call p (scope_of c v) (expr x) e es) n.are
    ∙ unknown_call c v var u p n.name e es is (means_name c v var number d n means) h

-- a call that is known, if it takes so many operands
abbrev IsKnownAs : Context → View → Pos → Datum → Draft → Drafts → Option Known → Type 0
IsKnownAs c v p d e es found =
    MatchOption found (call p (scope_of c v) (expr d) e es ≡ Call p e es)
    (λ k. (f : Draft) × (known_draft p (height v) k es ≡ Some f) × (call p (scope_of c v) (expr d) e es ≡ f))

pub known_name_call : (c : Context) (v : View) (var : Kept) (u number : ℕ) (d : Datum) (p : Pos) (e : Draft) (es : Drafts) (k : Known) (takes : Bool)
    → (n : IsNameOf c number d) → name_of c.names var ≡ meaning (scope_of c v) (word_name c.names number) → var ≡ variable.Library u
    → integrated p (height v) n.name.name es ≡ known_draft p (height v) k es → takes ≡ is_some (known_draft p (height v) k es)
    → IsKnownAs c v p d e es (if takes then Some k else None)
known_name_call c v var u number d p e es k takes n means is h t =
    let P : Datum → Type 0 = λ x. IsKnownAs c v p x e es (if takes then Some k else None) in
    subst P (sym n.are) (known_or_not c v var u p n.name e es k takes is (means_name c v var number d n means) h t)
