-- What the calls for the forms that bind variables turn a view to.
--
-- `right_bound`: the parts of a form, of which none is broken. `broken_form`: a form that is broken is not right.
-- `let_turns`, `star_turns`, `letrec_turns`, `named_turns`: the forms, call by call.
use Rattle.std.proofs.Common.{ℕ, ◌≡◌, List, [], ◌∷◌, ◌++◌, suc, slice_get, Option, Some, None, Bool, true, false, map, length, refl, sym, ap, subst, ◌∙◌, append-nil}
use Rattle.std.proofs.lemmas.List.{length-map}
use Rattle.scheme_base.specs.declared.pos.Pos.{Pos}
use Rattle.datum_form.specs.Data.{Datum, Items}
use Rattle.datum_form.specs.Data.Items.{none, item}
use Rattle.scheme_expand.specs.declared.binding.Bindings.{Bindings as Pairs}
use Rattle.scheme_expand.specs.declared.body.Body.{Body as Parts}
use Rattle.scheme_expand.specs.declared.expander.Expander.{Expander}
use Rattle.scheme_expand.specs.declared.make.Maker.{Maker}
use Rattle.scheme_expand.specs.declared.source.Source.{Source}
use Rattle.scheme_expand.specs.declared.step.Step.{Step}
use Rattle.scheme_expand.specs.declared.step.Step.TheVariants as step
use Rattle.scheme_expand.specs.Calls.{count, one}
use Rattle.scheme_expand.specs.Faults.{fault, in_word, in_exp, in_exps, in_bindings, in_body}
use Rattle.scheme_expand.specs.Forms.{Word, Exp, Bindings, Body, Wrong, Let, LetStar, Letrec, Named}
use Rattle.scheme_expand.specs.Grammar.{word, exprs, bound_words, bindings, body, checked, let_form, let_star_form, letrec_form}
use Rattle.scheme_expand.specs.Noted.{level_in}
use Rattle.scheme_expand.specs.Making.{from_level, AllCome, AreRight, ComesTo, IsRight}
use Rattle.scheme_expand.specs.Putting.{expr_steps, no_name_steps, nest_steps}
use Rattle.scheme_expand.specs.Rewriting.{Scope, level, within, body_scope, variable, variables, unnamed, names, are_lambdas, letrec, core, cores, values, body_core, let_star}
use Rattle.scheme_expand.specs.Shapes.{AreBindings, AreBound, IsBody, bound_checks, bound_form, named_form, value_exps}
use Rattle.scheme_expand.specs.Viewed.{AreWords, Fits, IsMade, IsScope, IsView, Leaves, Puts, Spells, Turns}
use Rattle.scheme_expand.specs.Views.{Context, View, Bound, scope_of, height, pushed, visit, seen, put_inside, bind}
use Rattle.scheme_expand.specs.Waiting.{Reads, ReadAll, named_datum, named_data}
use Rattle.scheme_expand.proofs.Bounds.{with_name, without_name}
use Rattle.scheme_expand.proofs.Coming.{Remade, Rescoped, rescoped, made_rescoped, remade, view_kept, puts_twice, turns_as, put_then_turn, leave_then_turn, leave_then_leave}
use Rattle.scheme_expand.proofs.Expanding.{right_parts}
use Rattle.scheme_expand.proofs.MadeLets.{right_values, values_are, count_values, count_read, level_height, let_comes, star_comes, letrec_comes, named_comes}
use Rattle.scheme_expand.proofs.Noting.{scope_bound, from_raised, from_bound}
use Rattle.scheme_expand.proofs.Operators.{name_read}
use Rattle.scheme_expand.proofs.Parameters.{not_named}
use Rattle.scheme_expand.proofs.Parts.{first_of, read_at, read_in, read_same}
use Rattle.scheme_expand.proofs.Scopes.{called_variable}
use Rattle.draft_form.specs.declared.draft.Variable.{Variable}
use Rattle.draft_form.specs.declared.draft.Variable.TheVariants as local
use Rattle.draft_form.specs.Drafts.{Name, Draft, Drafts, Local, Ref, Lambda, Call}
use Rattle.draft_form.specs.Drawn.{name_of, word_name}

-- Forms and their parts

-- a form of bindings and a body, where it has them
abbrev in_form : (Pos → Bindings → Body → Exp) → Pos → Items → Exp
in_form f p none = Wrong p 4
in_form f p (item d ds) = f p (bindings d) (body ds)

pub let_is : (p : Pos) (ds : Items) → bound_form true p ds ≡ checked p (bound_checks true ds) (in_form Let p ds)
let_is p none = refl
let_is p (item d ds) = refl

pub star_is : (p : Pos) (ds : Items) → let_star_form p ds ≡ checked p (bound_checks false ds) (in_form LetStar p ds)
star_is p none = refl
star_is p (item d ds) = refl

pub letrec_is : (p : Pos) (ds : Items) → letrec_form p ds ≡ checked p (bound_checks true ds) (in_form Letrec p ds)
letrec_is p none = refl
letrec_is p (item d ds) = refl

pub named_is : (p : Pos) (w : Word) (ds : Items)
    → named_form p w ds ≡ checked p (bound_checks true ds) (in_form (λ q. Named q w) p ds)
named_is p w none = refl
named_is p w (item d ds) = refl

-- a form that breaks a rule is not right
pub broken_form : (p : Pos) (t : Bool) (ds : Items) (f e : Exp) → f ≡ checked p (bound_checks t ds) e
    → ((x : Exp) → (n : ℕ) × (checked p (bound_checks t ds) x ≡ Wrong p n)) → IsRight f → ⊥
broken_form p t ds f e h wrong r =
    let w = wrong e in
    let faulty : fault p w.0 ∷ [] ≡ [] = sym (ap in_exp (h ∙ w.1)) ∙ r in
    cc

good_form : (s : Source) (t : Bool) (p : Pos) (ds : Items) (pairs : Pairs) (parts : Parts) (f : Pos → Bindings → Body → Exp)
    (e : Exp) → (g : AreBound s t ds pairs parts) → e ≡ checked p (bound_checks t ds) (in_form f p ds)
    → e ≡ f p (bindings g.first) (body g.others)
good_form s t p ds pairs parts f e g h = h ∙ (g.good p (in_form f p ds) ∙ ap (in_form f p) g.are)

-- bindings and a body, of which no part is broken
record RightBound (c : Context) (pairs : Pairs) (parts : Parts) (bs : Bindings) (o : Body) : Type 0 where
  named : ReadAll c.source pairs.names.items (named_data (bound_words bs))
  items : Items
  valued : ReadAll c.source pairs.values.items items
  exps : value_exps bs ≡ exprs items
  right : AreRight (exprs items)
  right_bindings : in_bindings bs ≡ []
  inner : IsBody c.source parts o
  right_body : in_body o ≡ []

right_bound : (c : Context) (s : Source) (t : Bool) (ds : Items) (pairs : Pairs) (parts : Parts)
    → (g : AreBound s t ds pairs parts) → s ≡ c.source → in_bindings (bindings g.first) ++ in_body (body g.others) ≡ []
    → RightBound c pairs parts (bindings g.first) (body g.others)
right_bound c s t ds pairs parts g e r =
    let bs : Bindings = bindings g.first in
    let P : Source → Type 0 = λ u. AreBindings u pairs bs in
    let Q : Source → Type 0 = λ u. IsBody u parts (body g.others) in
    let bound : AreBindings c.source pairs bs = subst P e g.bound in
    let right = right_parts (in_bindings bs) (in_body (body g.others)) r in
    record {
      named = bound.names;
      items = bound.items;
      valued = bound.values;
      exps = bound.exps;
      right = ap in_exps (sym bound.exps) ∙ right_values bs right.0;
      right_bindings = right.0;
      inner = subst Q e g.inner;
      right_body = right.1;
    }

-- there are as many names as numbers of them
pub count_named : (s : Source) (ids : List ℕ) (ws : List Word) → ReadAll s ids (named_data ws) → length ids ≡ length ws
count_named s [] [] h = refl
count_named s (i ∷ ids) [] h = absurd (let empty : i ∷ ids ≡ [] = h.stand in cc)
count_named s [] (w ∷ ws) h = absurd (let something = h.stand.2 in cc)
count_named s (i ∷ ids) (w ∷ ws) h =
    let others : h.stand.1 ≡ ids = let all : i ∷ ids ≡ h.stand.0 ∷ h.stand.1 = h.stand.2 in cc in
    ap suc (count_named s ids ws (read_at s ids h.stand.1 (named_data ws) (sym others) (record { named = h.named; stand = h.stand.4 })))

-- what a call for a body is turned to
abbrev BodyTurns : Context → Expander → Expander → Pos → Parts → Type 0
BodyTurns c f x p parts =
    (u : View) (o : Body) → IsView c f u → IsBody c.source parts o → in_body o ≡ []
    → Turns c f x (visit c (body_core o p (scope_of c u)) u)

-- what a call that enters names comes to
abbrev Enters : Context → Expander → Expander → View → Pairs → Type 0
Enters c z b v pairs =
    (ws : List Word) → IsView c z v → ReadAll c.source pairs.names.items (named_data ws) → Leaves c z b (bind (names ws) v)

-- a body is made in the scope of the variables around it
body_within : (c : Context) (f x : Expander) (p : Pos) (o : Body) (xs : List (List ℕ)) (v : View)
    → Turns c f x (visit c (body_core o p (scope_of c (bind xs v))) (bind xs v))
    → Turns c f x (visit c (body_core o p (within (scope_of c v) xs)) (bind xs v))
body_within c f x p o xs v t =
    let top : View = bind xs v in
    turns_as c f x (visit c (body_core o p (scope_of c top)) top) (visit c (body_core o p (within (scope_of c v) xs)) top)
    (ap (λ s. visit c (body_core o p s) top) (scope_bound c xs v)) t

-- the values of bindings in a scope
values_within : (bs : Bindings) (ds : Items) (s : Scope) → value_exps bs ≡ exprs ds → values bs s ≡ cores (exprs ds) s
values_within bs ds s e = values_are bs s ∙ ap (λ es. cores es s) e

-- `let`

pub let_turns : (c : Context) (a z b d e f x : Expander) (p : Pos) (k n : ℕ) (ids : List ℕ) (ds : Items) (pairs : Pairs)
    (parts : Parts) (v : View) → IsView c a v → IsRight (bound_form true p ds) → AreBound a.source true ds pairs parts
    → Puts a z [] → (IsScope c.names z.maker.scope v.bound → k ≡ height v) → Enters c z b v pairs
    → Puts b d (step.Call p n ∷ []) → n ≡ length pairs.values.items → Puts d e (expr_steps ids)
    → ids ≡ pairs.values.items → Puts e f (step.Lambda p k false ∷ []) → BodyTurns c f x p parts
    → Turns c a x (seen c (bound_form true p ds) v)
let_turns c a z b d e f x p k n ids ds pairs parts v i r g q at enter call many values same lambda inner =
    let bs : Bindings = bindings g.first in
    let o : Body = body g.others in
    let form : bound_form true p ds ≡ Let p bs o = good_form a.source true p ds pairs parts Let (bound_form true p ds) g (let_is p ds) in
    let w = right_bound c a.source true ds pairs parts g i.source (sym (ap in_exp form) ∙ r) in
    let s : Scope = scope_of c v in
    let xs : List (List ℕ) = names (bound_words bs) in
    let top : View = bind xs v in
    let here : IsView c z v = view_kept c a z v q.same i in
    let l = enter (bound_words bs) here w.named in
    let P : ℕ → Type 0 = λ j. Puts e f (step.Lambda p j false ∷ []) in
    let Q : List ℕ → Type 0 = λ js. Puts d e (expr_steps js) in
    let vs : List ℕ = pairs.values.items in
    let last : List Step = step.Lambda p (height v) false ∷ [] in
    let steps : List Step = step.Call p n ∷ (expr_steps vs ++ last) in
    let puts : Puts b f steps =
    puts_twice b d f (step.Call p n ∷ []) (expr_steps vs ++ last) call
    (puts_twice d e f (expr_steps vs) last (subst Q same values) (subst P (at here.made.scope) lambda)) in
    let made : Draft = body_core o p (within s xs) in
    let w_is : Draft = Call p (Lambda p (variables (level s) xs) None made) (cores (exprs w.items) s) in
    let t = body_within c f x p o xs v (inner top o (view_kept c b f top puts.same l.view) w.inner w.right_body) in
    turns_as c a x (visit c w_is v) (seen c (bound_form true p ds) v)
    (ap (λ es. visit c (Call p (Lambda p (variables (level s) xs) None made) es) v) (sym (values_within bs w.items s w.exps))
    ∙ ap (λ y. seen c y v) (sym form))
    (put_then_turn c a z x [] (visit c w_is v) (visit c w_is v) q
    (leave_then_turn c z b x top (visit c w_is v) l
    (put_then_turn c b f x steps (visit c made top) (visit c w_is v) puts t
    (let_comes c p n vs w.items xs made v w.valued w.right many)))
    refl)

-- `let*`

pub star_turns : (c : Context) (a z b d f x : Expander) (p : Pos) (k : ℕ) (words ids : List ℕ) (vars : List Variable) (ds : Items)
    (pairs : Pairs) (parts : Parts) (v : View) → IsView c a v → IsRight (let_star_form p ds)
    → AreBound a.source false ds pairs parts → Puts a z [] → (IsScope c.names z.maker.scope v.bound → k ≡ height v)
    → Enters c z b v pairs → Puts b d (no_name_steps p words k) → words ≡ pairs.names.items
    → Puts d f (nest_steps p k vars ids) → ids ≡ pairs.values.items
    → ((bs : List Bound) → AreWords c.names → IsScope c.names d.maker.scope bs
    → map (name_of c.names) vars ≡ variables k (from_level k bs)) → BodyTurns c f x p parts
    → Turns c a x (seen c (let_star_form p ds) v)
star_turns c a z b d f x p k words ids vars ds pairs parts v i r g q at enter none_put same_words nested same found inner =
    let bs : Bindings = bindings g.first in
    let o : Body = body g.others in
    let form : let_star_form p ds ≡ LetStar p bs o = good_form a.source false p ds pairs parts LetStar (let_star_form p ds) g (star_is p ds) in
    let w = right_bound c a.source false ds pairs parts g i.source (sym (ap in_exp form) ∙ r) in
    let s : Scope = scope_of c v in
    let xs : List (List ℕ) = names (bound_words bs) in
    let top : View = bind xs v in
    let here : IsView c z v = view_kept c a z v q.same i in
    let l = enter (bound_words bs) here w.named in
    let level_is : k ≡ height v = at here.made.scope in
    let inside : IsView c d top = view_kept c b d top none_put.same l.view in
    let vs : List ℕ = pairs.values.items in
    let P : List ℕ → Type 0 = λ js. Puts b d (no_name_steps p js k) in
    let Q : ℕ → Type 0 = λ j. Puts b d (no_name_steps p pairs.names.items j) in
    let R : List ℕ → Type 0 = λ js. Puts d f (nest_steps p k vars js) in
    let S : ℕ → Type 0 = λ j. Puts d f (nest_steps p j vars vs) in
    let first : List Step = no_name_steps p pairs.names.items (height v) in
    let last : List Step = nest_steps p (height v) vars vs in
    let puts : Puts b f (first ++ last) =
    puts_twice b d f first last (subst Q level_is (subst P same_words none_put)) (subst S level_is (subst R same nested)) in
    let bound_are : map (name_of c.names) vars ≡ variables (level s) xs =
    found top.bound inside.made.words inside.made.scope
    ∙ (ap (λ j. variables j (from_level j top.bound)) level_is
    ∙ (ap (variables (height v)) (sym (from_raised (height v) [] top.bound) ∙ from_bound [] xs v.bound)
    ∙ ap (λ j. variables j xs) (sym (level_height c v)))) in
    let made : Draft = body_core o p (within s xs) in
    let whole : View = visit c (let_star bs p (body_core o p) s) v in
    let t = body_within c f x p o xs v (inner top o (view_kept c b f top puts.same l.view) w.inner w.right_body) in
    turns_as c a x whole (seen c (let_star_form p ds) v) (ap (λ y. seen c y v) (sym form))
    (put_then_turn c a z x [] whole whole q
    (leave_then_turn c z b x top whole l
    (put_then_turn c b f x (first ++ last) (visit c made top) whole puts t
    (star_comes c p bs pairs.names.items vs w.items vars (body_core o p) v w.right_bindings w.named w.valued w.exps bound_are)))
    refl)

-- `letrec`

-- fresh variables are bound inside others
rebound : (c : Context) (b t : Expander) (v : View) (m : ℕ) → IsView c b v → Remade b t → Rescoped b.maker t.maker
    → t.steps.items ≡ b.steps.items
    → ((bs : List Bound) → AreWords c.names → IsScope c.names b.maker.scope bs
    → IsScope c.names t.maker.scope (put_inside (unnamed m) bs)) → Leaves c b t (bind (unnamed m) v)
rebound c b t v m i kept scope steps bound = record {
  steps = steps;
  view = rescoped c b t v (put_inside (unnamed m) v.bound) i kept scope (bound v.bound i.made.words i.made.scope);
}

pub letrec_turns : (c : Context) (a z b t d e f x : Expander) (p : Pos) (k inner m : ℕ) (lambdas : Bool) (ids : List ℕ) (ds : Items)
    (pairs : Pairs) (parts : Parts) (v : View) → IsView c a v → IsRight (letrec_form p ds)
    → AreBound a.source true ds pairs parts → Puts a z [] → (IsScope c.names z.maker.scope v.bound → k ≡ height v)
    → Enters c z b v pairs → ((bs : List Bound) → IsScope c.names b.maker.scope bs → inner ≡ length bs)
    → Puts t d (step.Letrec p k lambdas ∷ []) → Remade b t → Rescoped b.maker t.maker → t.steps.items ≡ b.steps.items
    → ((bs : List Bound) → AreWords c.names → IsScope c.names b.maker.scope bs
    → IsScope c.names t.maker.scope (put_inside (unnamed m) bs)) → m ≡ length pairs.names.items
    → ((bs : Bindings) (es : Items) → ReadAll t.source pairs.values.items es → value_exps bs ≡ exprs es → AreRight (exprs es)
    → lambdas ≡ are_lambdas bs)
    → Puts d e (expr_steps ids) → ids ≡ pairs.values.items → Puts e f (step.Leave inner ∷ []) → BodyTurns c f x p parts
    → Turns c a x (seen c (letrec_form p ds) v)
letrec_turns c a z b t d e f x p k inner m lambdas ids ds pairs parts v i r g q at enter next put kept scope steps fresh many which values same leaving turn =
    let bs : Bindings = bindings g.first in
    let o : Body = body g.others in
    let form : letrec_form p ds ≡ Letrec p bs o = good_form a.source true p ds pairs parts Letrec (letrec_form p ds) g (letrec_is p ds) in
    let w = right_bound c a.source true ds pairs parts g i.source (sym (ap in_exp form) ∙ r) in
    let s : Scope = scope_of c v in
    let xs : List (List ℕ) = names (bound_words bs) in
    let top : View = bind xs v in
    let high : View = bind (unnamed m) top in
    let here : IsView c z v = view_kept c a z v q.same i in
    let l = enter (bound_words bs) here w.named in
    let u = rebound c b t top m l.view kept scope steps fresh in
    let vs : List ℕ = pairs.values.items in
    let P : ℕ → Type 0 = λ j. Puts t d (step.Letrec p j lambdas ∷ []) in
    let Q : Bool → Type 0 = λ y. Puts t d (step.Letrec p (height v) y ∷ []) in
    let R : List ℕ → Type 0 = λ js. Puts d e (expr_steps js) in
    let S : Source → Type 0 = λ y. ReadAll y vs w.items in
    let all : Bool = are_lambdas bs in
    let first : List Step = step.Letrec p (height v) all ∷ [] in
    let last : List Step = step.Leave inner ∷ [] in
    let puts : Puts t f (first ++ (expr_steps vs ++ last)) =
    puts_twice t d f first (expr_steps vs ++ last)
    (subst Q (which bs w.items (subst S (sym u.view.source) w.valued) w.exps w.right) (subst P (at here.made.scope) put))
    (puts_twice d e f (expr_steps vs) last (subst R same values) leaving) in
    let number : m ≡ length xs =
    many ∙ (count_named c.source pairs.names.items (bound_words bs) w.named ∙ sym (length-map (bound_words bs) (λ y. y.name))) in
    let around : Scope = within s xs in
    let made : Draft = body_core o p (body_scope s xs) in
    let whole : View = visit c (core (Letrec p bs o) s) v in
    let es = values_within bs w.items around w.exps in
    let body_turns : Turns c f x (visit c made high) =
    turns_as c f x (visit c (body_core o p (within (scope_of c top) (unnamed m))) high) (visit c made high)
    (ap (λ y. visit c (body_core o p (within y (unnamed m))) high) (scope_bound c xs v)
    ∙ ap (λ j. visit c (body_core o p (within around (unnamed j))) high) number)
    (body_within c f x p o (unnamed m) top (turn high o (view_kept c t f high puts.same u.view) w.inner w.right_body)) in
    let sizes : length xs ≡ length vs =
    count_values bs around ∙ (ap (λ y. count (cores y around)) w.exps ∙ sym (count_read c.source vs w.items around w.valued)) in
    let comes : AllCome c (first ++ (expr_steps vs ++ last)) (visit c made high)
    (visit c (letrec p s xs all (cores (exprs w.items) around) made) v) =
    letrec_comes c p inner m all vs w.items xs made v w.valued w.right sizes (next top.bound l.view.made.scope) in
    turns_as c a x (visit c (letrec p s xs all (cores (exprs w.items) around) made) v) (seen c (letrec_form p ds) v)
    (ap (λ y. visit c (letrec p s xs all y made) v) (sym es) ∙ ap (λ y. seen c y v) (sym form))
    (let result : View = visit c (letrec p s xs all (cores (exprs w.items) around) made) v in
    put_then_turn c a z x [] result result q
    (leave_then_turn c z t x high result (leave_then_leave c z b t top high l u)
    (put_then_turn c t f x (first ++ (expr_steps vs ++ last)) (visit c made high) result puts body_turns comes))
    refl)

-- `let` with a name

pub named_turns : (c : Context) (a z y u b d e f x : Expander) (m : Maker) (p : Pos) (k inner n word id : ℕ) (ids : List ℕ) (w : Word)
    (ds : Items) (pairs : Pairs) (parts : Parts) (v : View) → IsView c a v → Reads c.source id (named_datum w)
    → IsRight (named_form p w ds) → AreBound a.source true ds pairs parts → Puts a z []
    → (IsScope c.names z.maker.scope v.bound → k ≡ height v)
    → (Puts z y [] × ((o : Context) (w1 : Word) → Fits o → Reads o.source id (named_datum w1) → z.source ≡ o.source
    → Spells o.names word w1.name))
    → ((v1 v2 : View) → IsMade c m v1 → ComesTo c (step.Reference p (local.Local k word)) v1 v2 → IsMade c u.maker v2)
    → ((ws : List Word) (v1 : View) → IsView c u v1 → ReadAll c.source pairs.names.items (named_data ws)
    → Leaves c u b (bind (names ws) v1))
    → Remade y u → Rescoped y.maker m → u.steps.items ≡ y.steps.items
    → ((bs : List Bound) (xs : List ℕ) → AreWords c.names → IsScope c.names y.maker.scope bs → Spells c.names word xs
    → IsScope c.names m.scope (put_inside (xs ∷ []) bs))
    → ((bs : List Bound) → IsScope c.names m.scope bs → inner ≡ length bs)
    → Puts b d (step.Call p n ∷ []) → n ≡ length pairs.values.items → Puts d e (expr_steps ids) → ids ≡ pairs.values.items
    → Puts e f (step.Letrec p k true ∷ step.Lambda p inner false ∷ []) → BodyTurns c f x p parts
    → Turns c a x (seen c (named_form p w ds) v)
named_turns c a z y u b d e f x m p k inner n word id ids w ds pairs parts v i reads r g q at name add enter kept scope steps bound next call many values same last turn =
    let bs : Bindings = bindings g.first in
    let o : Body = body g.others in
    let form : named_form p w ds ≡ Named p w bs o =
    good_form a.source true p ds pairs parts (λ j. Named j w) (named_form p w ds) g (named_is p w ds) in
    let faults = right_parts (in_word w) (in_bindings bs ++ in_body o) (sym (ap in_exp form) ∙ r) in
    let h = right_bound c a.source true ds pairs parts g i.source faults.1 in
    let s : Scope = scope_of c v in
    let here : List (List ℕ) = w.name ∷ [] in
    let xs : List (List ℕ) = names (bound_words bs) in
    let view_z : IsView c z v = view_kept c a z v q.same i in
    let level_is : k ≡ height v = at view_z.made.scope in
    let view_y : IsView c y v = view_kept c z y v name.0.same view_z in
    let spells : Spells c.names word w.name = name.1 c w i.fits reads view_z.source in
    let inside : View = bind here v in
    let made_m : IsMade c m inside =
    made_rescoped c y.maker m v (put_inside here v.bound) view_y.made scope
    (bound v.bound w.name view_y.made.words view_y.made.scope spells) in
    let ref : Name = variable (level s) w.name in
    let ref_is : Local k (word_name c.names word) ≡ ref =
    called_variable c.names word k w.name view_y.made.words spells
    ∙ ap (λ j. variable j w.name) (level_is ∙ sym (level_height c v)) in
    let below : View = pushed (Ref p (Local k (word_name c.names word))) inside in
    let view_u : IsView c u below = remade c y u v below view_y kept refl (add inside below made_m refl) in
    let l = enter (bound_words bs) below view_u h.named in
    let top : View = bind xs below in
    let leaves : Leaves c a b top = record {
      steps = l.steps ∙ (steps ∙ (name.0.steps ∙ (append-nil z.steps.items ∙ (q.steps ∙ append-nil a.steps.items))));
      view = l.view;
    } in
    let vs : List ℕ = pairs.values.items in
    let P : ℕ → Type 0 = λ j. Puts e f (step.Letrec p j true ∷ step.Lambda p inner false ∷ []) in
    let Q : List ℕ → Type 0 = λ js. Puts d e (expr_steps js) in
    let end : List Step = step.Letrec p (height v) true ∷ step.Lambda p inner false ∷ [] in
    let put : List Step = step.Call p n ∷ (expr_steps vs ++ end) in
    let puts : Puts b f put =
    puts_twice b d f (step.Call p n ∷ []) (expr_steps vs ++ end) call
    (puts_twice d e f (expr_steps vs) end (subst Q same values) (subst P level_is last)) in
    let made : Draft = body_core o p (within (within s here) xs) in
    let procedure : List (List ℕ) → Draft = λ all.
    Lambda p (variables (level (within s here)) xs) None (body_core o p (within (within s here) all)) in
    let whole : List (List ℕ) → Name → Drafts → View = λ all to es.
    visit c (Call p (letrec p s here true (one (procedure all)) (Ref p to)) es) v in
    let es : Drafts = cores (exprs h.items) s in
    let own : Name = Local k (word_name c.names word) in
    let body_turns : Turns c f x (visit c made top) =
    body_within c f x p o xs below (turn top o (view_kept c b f top puts.same l.view) h.inner h.right_body) in
    turns_as c a x (whole xs own es) (seen c (named_form p w ds) v)
    (ap (λ all. whole all own es) (sym (append-nil xs))
    ∙ (ap (λ to. whole (xs ++ []) to es) ref_is
    ∙ (ap (whole (xs ++ []) ref) (sym (values_within bs h.items s h.exps)) ∙ ap (λ j. seen c j v) (sym form))))
    (leave_then_turn c a b x top (whole xs own es) leaves
    (put_then_turn c b f x put (visit c made top) (whole xs own es) puts body_turns
    (named_comes c p n inner vs h.items w.name own xs made v h.valued h.right many (next inside.bound made_m.scope))))

-- `let`, with a name or without

pub wrong_form : (p : Pos) (n : ℕ) (e : Exp) → e ≡ Wrong p n → IsRight e → ⊥
wrong_form p n e h r = let faulty : fault p n ∷ [] ≡ [] = sym (ap in_exp h) ∙ r in cc

pub plain_turns : (c : Context) (a b : Expander) (p : Pos) (ids others : List ℕ) (id : ℕ) (ds : Items) (found : Option ℕ) (v : View)
    → IsView c a v → ReadAll c.source ids ds → ids ≡ id ∷ others → found ≡ level_in (slice_get a.source.words.now id)
    → found ≡ None → IsRight (let_form p ds)
    → (IsRight (bound_form true p ds) → Turns c a b (seen c (bound_form true p ds) v))
    → Turns c a b (seen c (let_form p ds) v)
plain_turns c a b p ids others id ds found v i h e f g r turn =
    let l = first_of a.source ids id others ds e (read_same c.source a.source ids ids ds ds (sym i.source) refl refl h) in
    let same : bound_form true p ds ≡ let_form p ds =
    ap (bound_form true p) l.are
    ∙ (sym (without_name p l.datum l.others (not_named a.source id l.datum found l.first f g)) ∙ ap (let_form p) (sym l.are)) in
    turns_as c a b (seen c (bound_form true p ds) v) (seen c (let_form p ds) v) (ap (λ y. seen c y v) same)
    (turn (ap in_exp same ∙ r))

pub with_name_turns : (c : Context) (a b : Expander) (p : Pos) (ids others : List ℕ) (id w : ℕ) (ds : Items) (found : Option ℕ)
    (v : View) → IsView c a v → ReadAll c.source ids ds → ids ≡ id ∷ others
    → found ≡ level_in (slice_get a.source.words.now id) → found ≡ Some w → IsRight (let_form p ds)
    → ((y : Word) (es : Items) → Reads c.source id (named_datum y) → ReadAll c.source others es → IsRight (named_form p y es)
    → Turns c a b (seen c (named_form p y es) v))
    → Turns c a b (seen c (let_form p ds) v)
with_name_turns c a b p ids others id w ds found v i h e f g r turn =
    let l = first_of a.source ids id others ds e (read_same c.source a.source ids ids ds ds (sym i.source) refl refl h) in
    let n = name_read a.source id l.datum w found l.first f g in
    let y : Word = word n.0.place n.0.name in
    let P : Datum → Type 0 = λ d. Reads a.source id d in
    let same : named_form p y l.others ≡ let_form p ds =
    with_name p n.0 l.others ∙ (ap (λ d. let_form p (item d l.others)) (sym n.1) ∙ ap (let_form p) (sym l.are)) in
    turns_as c a b (seen c (named_form p y l.others) v) (seen c (let_form p ds) v) (ap (λ j. seen c j v) same)
    (turn y l.others (read_in a.source c.source id (named_datum y) i.source (subst P n.1 l.first))
    (read_same a.source c.source others others l.others l.others i.source refl refl l.rest) (ap in_exp same ∙ r))
