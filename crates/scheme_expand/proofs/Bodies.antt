-- The faults of bodies, and of what has one.
use Rattle.std.proofs.Common.{ℕ, ◌≡◌, List, [], ◌∷◌, Option, None, Bool, true, false, sym, ap, subst, ◌∙◌}
use Rattle.std.specs.Prelude.{not, ◌||◌}
use Rattle.std.proofs.lemmas.List.{append-nil}
use Rattle.scheme_base.specs.declared.pos.Pos.{Pos}
use Rattle.datum_form.specs.Data.{Datum, Items}
use Rattle.scheme_expand.specs.declared.source.Source.{Source}
use Rattle.scheme_expand.specs.declared.formals.Formals.{Formals}
use Rattle.scheme_expand.specs.declared.expander.Expander.{Expander}
use Rattle.scheme_expand.specs.declared.body.Body.{Body as Parts}
use Rattle.scheme_expand.specs.declared.body.Definition.{Definition}
use Rattle.scheme_expand.specs.declared.body.Defined.{Defined}
use Rattle.scheme_expand.specs.declared.body.Defined.TheVariants as defined
use Rattle.scheme_expand.specs.Forms.{Word, Exp, Body, Wrong, Procedure, no_binding, Of}
use Rattle.scheme_expand.specs.Grammar.{rule, checked, and_rest, is_no_body, twice, bound_words, defines_twice, are_formals, params_of, rest_of, procedure, lambda_form, exprs, body, definitions_before, each_definition}
use Rattle.scheme_expand.specs.Faults.{Fault, fault, least, in_exp, in_exps, in_body, in_words}
use Rattle.scheme_expand.specs.Shapes.{IsDefined, IsValue, AreDefinitions, AreFormals, IsBody}
use Rattle.scheme_expand.specs.Waiting.{earlier, place, in_values, named_data, Reads, ReadAll, Adds, Keeps}
use Rattle.scheme_expand.proofs.Adding.{both, both_kept, due}
use Rattle.scheme_expand.proofs.Defining.{body_apart}
use Rattle.scheme_expand.proofs.Definitions.{values_of, value_of}
use Rattle.scheme_expand.proofs.Due.{of, of_all}
use Rattle.scheme_expand.proofs.Least.{earlier_none, earlier_assoc, least_append}
use Rattle.scheme_expand.proofs.Parts.{no_items, first_of}

-- Calls with nothing due

pub then_none : (a b c : Expander) (x : Option Fault) → Adds a b x → Adds b c None → Adds a c x
then_none a b c x p q = due a c (earlier x None) x (earlier_none x) (both a b c x None p q)

pub none_then : (a b c : Expander) (x : Option Fault) → Adds a b None → Adds b c x → Adds a c x
none_then a b c x p q = both a b c None x p q

pub all_in : (s t : Source) (ids : List ℕ) (ds : Items) → s ≡ t → ReadAll s ids ds → ReadAll t ids ds
all_in s t ids ds e h = let P : Source → Type 0 = λ u. ReadAll u ids ds in subst P e h

pub body_in : (s t : Source) (parts : Parts) (b : Body) → s ≡ t → IsBody s parts b → IsBody t parts b
body_in s t parts b e h = let P : Source → Type 0 = λ u. IsBody u parts b in subst P e h

-- Bodies

pub only_expressions : (a b : Expander) (parts : Parts) (x : Body) → IsBody a.source parts x → parts.definitions.items ≡ []
    → ((ds : Items) → ReadAll a.source parts.exprs.now ds → Adds a b (of_all ds)) → Adds a b (least (in_body x))
only_expressions a b parts x i e k =
    let empty = no_items a.source parts.definitions.items i.defs e i.are.read in
    due a b (of_all i.items) (least (in_body x))
    (sym (ap (λ y. least (in_body y)) (i.is ∙ ap (λ l. Of (each_definition l no_binding) (exprs i.items)) empty)))
    (k i.items i.rest)

-- names, then values, then expressions
pub body_due : (a b c d e f g : Expander) (parts : Parts) (x : Body) → IsBody a.source parts x
    → ((ws : List Word) → ReadAll a.source parts.names.items (named_data ws) → Adds a b (least (in_words ws)))
    → Keeps b c → Adds c d None
    → ((ds : Items) → AreDefinitions d.source parts.definitions.items ds → Adds d e (values_of ds)) → Adds e f None
    → ((ds : Items) → ReadAll f.source parts.exprs.now ds → Adds f g (of_all ds)) → Adds a g (least (in_body x))
body_due a b c d e f g parts x i enter keep wait values leave exprs_due =
    let bs = each_definition i.defs no_binding in
    let w = least (in_words (bound_words bs)) in
    let v = values_of i.defs in
    let u = of_all i.items in
    let entered = then_none a c d w (both_kept a b c w (enter (bound_words bs) i.names) keep) wait in
    let P : Source → Type 0 = λ s. AreDefinitions s parts.definitions.items i.defs in
    let valued = both a d e w v entered (values i.defs (subst P (sym entered.source) i.are)) in
    let left = then_none a e f (earlier w v) valued leave in
    due a g (earlier (earlier w v) u) (least (in_body x))
    (earlier_assoc w v u
    ∙ (sym (body_apart bs (in_exps (exprs i.items))) ∙ ap (λ y. least (in_body y)) (sym i.is)))
    (both a f g (earlier w v) u left
    (exprs_due i.items (all_in a.source f.source parts.exprs.now i.items (sym left.source) i.rest)))

-- Procedures

wrong : (p : Pos) (n : ℕ) (e : Exp) → e ≡ Wrong p n → least (fault p n ∷ []) ≡ least (in_exp e)
wrong p n e h = ap (λ x. least (in_exp x)) (sym h)

pub wrong_due : (a b : Expander) (p : Pos) (n : ℕ) (e : Exp) → e ≡ Wrong p n → Adds a b (least (fault p n ∷ []))
    → Adds a b (least (in_exp e))
wrong_due a b p n e h k = due a b (least (fault p n ∷ [])) (least (in_exp e)) (wrong p n e h) k

pub no_body : (p : Pos) (ws : List Word) (r : Option Word) (ds : Items) (b : Body) → is_no_body ds ≡ true
    → procedure p ws r ds b ≡ Wrong p 4
no_body p ws r ds b e =
    ap (λ x. checked p (rule x 4 ∷ rule (twice (and_rest ws r) || defines_twice b) 12 ∷ []) (Procedure p ws r b)) e

has_body : (p : Pos) (ws : List Word) (r : Option Word) (ds : Items) (b : Body) → is_no_body ds ≡ false
    → procedure p ws r ds b ≡ checked p (rule (twice (and_rest ws r) || defines_twice b) 12 ∷ []) (Procedure p ws r b)
has_body p ws r ds b e =
    ap (λ x. checked p (rule x 4 ∷ rule (twice (and_rest ws r) || defines_twice b) 12 ∷ []) (Procedure p ws r b)) e

pub params_twice : (p : Pos) (ws : List Word) (r : Option Word) (ds : Items) (b : Body) → is_no_body ds ≡ false
    → twice (and_rest ws r) ≡ true → procedure p ws r ds b ≡ Wrong p 12
params_twice p ws r ds b e h =
    has_body p ws r ds b e ∙ ap (λ x. checked p (rule (x || defines_twice b) 12 ∷ []) (Procedure p ws r b)) h

pub body_twice : (p : Pos) (ws : List Word) (r : Option Word) (ds : Items) (b : Body) → is_no_body ds ≡ false
    → twice (and_rest ws r) ≡ false → defines_twice b ≡ true → procedure p ws r ds b ≡ Wrong p 12
body_twice p ws r ds b e h k =
    has_body p ws r ds b e
    ∙ (ap (λ x. checked p (rule (x || defines_twice b) 12 ∷ []) (Procedure p ws r b)) h
    ∙ ap (λ x. checked p (rule x 12 ∷ []) (Procedure p ws r b)) k)

pub good_procedure : (p : Pos) (ws : List Word) (r : Option Word) (ds : Items) (b : Body) → is_no_body ds ≡ false
    → twice (and_rest ws r) ≡ false → defines_twice b ≡ false → procedure p ws r ds b ≡ Procedure p ws r b
good_procedure p ws r ds b e h k =
    has_body p ws r ds b e
    ∙ (ap (λ x. checked p (rule (x || defines_twice b) 12 ∷ []) (Procedure p ws r b)) h
    ∙ ap (λ x. checked p (rule x 12 ∷ []) (Procedure p ws r b)) k)

-- names that a body defines are those of its definitions
pub body_names : (s : Source) (parts : Parts) (b : Body) (found : Bool) → IsBody s parts b
    → ((ws : List Word) → ReadAll s parts.names.items (named_data ws) → found ≡ twice ws) → defines_twice b ≡ found
body_names s parts b found i k =
    ap defines_twice i.is ∙ sym (k (bound_words (each_definition i.defs no_binding)) i.names)

pub procedure_due : (a b c d : Expander) (p : Pos) (ws : List Word) (r : Option Word) (ds : Items) (names : List ℕ)
    (parts : Parts) → procedure p ws r ds (body ds) ≡ Procedure p ws r (body ds)
    → ReadAll a.source names (named_data (and_rest ws r)) → IsBody a.source parts (body ds)
    → ((vs : List Word) → ReadAll a.source names (named_data vs) → Adds a b (least (in_words vs))) → Adds b c None
    → ((x : Body) → IsBody c.source parts x → Adds c d (least (in_body x)))
    → Adds a d (least (in_exp (procedure p ws r ds (body ds))))
procedure_due a b c d p ws r ds names parts e h i enter wait inner =
    let w = least (in_words (and_rest ws r)) in
    let v = least (in_body (body ds)) in
    let entered = then_none a b c w (enter (and_rest ws r) h) wait in
    due a d (earlier w v) (least (in_exp (procedure p ws r ds (body ds))))
    (sym (least_append (in_words (and_rest ws r)) (in_body (body ds))) ∙ ap (λ x. least (in_exp x)) (sym e))
    (both a c d w v entered (inner (body ds) (body_in a.source c.source parts (body ds) (sym entered.source) i)))

-- Lambda expressions

pub no_operands : (s : Source) (p : Pos) (ids : List ℕ) (ds : Items) → ReadAll s ids ds → ids ≡ [] → lambda_form p ds ≡ Wrong p 3
no_operands s p ids ds h e = ap (lambda_form p) (no_items s ids ds e h)

pub no_formals : (s : Source) (p : Pos) (ids others : List ℕ) (id : ℕ) (ds : Items) → ReadAll s ids ds → ids ≡ id ∷ others
    → ((f : Datum) → Reads s id f → are_formals f ≡ false) → lambda_form p ds ≡ Wrong p 3
no_formals s p ids others id ds h e k =
    let r = first_of s ids id others ds e h in
    ap (lambda_form p) r.are
    ∙ ap
    (λ b. checked p (rule (not b) 3 ∷ [])
    (procedure p (params_of r.datum) (rest_of r.datum) r.others (body r.others)))
    (k r.datum r.first)

pub lambda_due : (a b : Expander) (p : Pos) (ids others : List ℕ) (id : ℕ) (f : Formals) (ds : Items) → ReadAll a.source ids ds
    → ids ≡ id ∷ others
    → ((d : Datum) → Reads a.source id d → (are_formals d ≡ true) × AreFormals a.source f (params_of d) (rest_of d))
    → ((ws : List Word) (r : Option Word) (es : Items) → AreFormals a.source f ws r → ReadAll a.source others es
    → Adds a b (least (in_exp (procedure p ws r es (body es))))) → Adds a b (least (in_exp (lambda_form p ds)))
lambda_due a b p ids others id f ds h e formals k =
    let r = first_of a.source ids id others ds e h in
    let g = formals r.datum r.first in
    let whole = procedure p (params_of r.datum) (rest_of r.datum) r.others (body r.others) in
    due a b (least (in_exp whole)) (least (in_exp (lambda_form p ds)))
    (ap (λ x. least (in_exp (checked p (rule (not x) 3 ∷ []) whole))) (sym g.0) ∙ ap (λ l. least (in_exp (lambda_form p l))) (sym r.are))
    (k (params_of r.datum) (rest_of r.datum) r.others g.1 r.rest)

-- Values of definitions

value_is : (s : Source) (def : Definition) (d : Datum) (i : IsDefined s def (place d) (definitions_before d))
    → least (in_exp i.exp) ≡ value_of d
value_is s def d i =
    ap least (sym (append-nil (in_exp i.exp))) ∙ ap (λ bs. least (in_values bs)) (sym (i.binds no_binding))

pub expression_due : (a b : Expander) (def : Definition) (d : Datum) (id : ℕ)
    → IsDefined a.source def (place d) (definitions_before d) → def.value ≡ defined.Expr id
    → ((e : Datum) → Reads a.source id e → Adds a b (of e)) → Adds a b (value_of d)
expression_due a b def d id i v k =
    let P : Defined → Type 0 = λ x. IsValue a.source x (place d) i.exp in
    let h = subst P v i.is in
    due a b (of h.0) (value_of d) (ap (λ x. least (in_exp x)) (sym h.2) ∙ value_is a.source def d i) (k h.0 h.1)

pub lambda_value_due : (a b : Expander) (def : Definition) (d : Datum) (f : Formals) (slice : Defined) (ids : List ℕ) (p : Pos)
    → (i : IsDefined a.source def (place d) (definitions_before d)) → def.value ≡ slice
    → (IsValue a.source slice (place d) i.exp → (ws : List Word) × (r : Option Word) × (ds : Items)
    × AreFormals a.source f ws r × ReadAll a.source ids ds × (i.exp ≡ procedure (place d) ws r ds (body ds)))
    → p ≡ place d
    → ((ws : List Word) (r : Option Word) (ds : Items) → AreFormals a.source f ws r → ReadAll a.source ids ds
    → Adds a b (least (in_exp (procedure p ws r ds (body ds))))) → Adds a b (value_of d)
lambda_value_due a b def d f slice ids p i v parts q k =
    let P : Defined → Type 0 = λ x. IsValue a.source x (place d) i.exp in
    let h = parts (subst P v i.is) in
    due a b (least (in_exp (procedure p h.0 h.1 h.2 (body h.2)))) (value_of d)
    (ap (λ x. least (in_exp (procedure x h.0 h.1 h.2 (body h.2)))) q
    ∙ (ap (λ x. least (in_exp x)) (sym h.5) ∙ value_is a.source def d i))
    (k h.0 h.1 h.2 h.3 h.4)
