-- What bodies come to, and the definitions at their heads.
--
-- `good_of`: a definition that is right. `defined_put`: values that a loop puts. `defined_come`: what they come to.
-- `expressions_come`, `body_comes`: the expressions of a body, and the whole.
use Rattle.std.proofs.Common.{ℕ, ◌≡◌, Option, Some, None, is_some, suc, if◌then◌else◌, List, [], ◌∷◌, ◌++◌, Bool, true, false, length, arith, refl, sym, ap, subst, ◌∙◌, append_assoc, append-nil}
use Rattle.std.specs.Prelude.{not, ◌&&◌}
use Rattle.scheme_base.specs.declared.pos.Pos.{Pos}
use Rattle.datum_form.specs.Data.{Datum, Items}
use Rattle.datum_form.specs.Data.Items.{none as no_items_left, item as datum_item}
use Rattle.quasi_expand.specs.Shapes.{all_items}
use Rattle.scheme_expand.specs.declared.expander.Expander.{Expander}
use Rattle.scheme_expand.specs.declared.body.Body.{Body as Parts}
use Rattle.scheme_expand.specs.declared.body.Definition.{Definition}
use Rattle.scheme_expand.specs.declared.body.Defined.{Defined}
use Rattle.scheme_expand.specs.declared.body.Defined.TheVariants as defined
use Rattle.scheme_expand.specs.declared.formals.Formals.{Formals}
use Rattle.scheme_expand.specs.declared.source.Source.{Source}
use Rattle.scheme_expand.specs.declared.step.Step.{Step}
use Rattle.scheme_expand.specs.declared.step.Step.TheVariants as step
use Rattle.scheme_expand.specs.Calls.{count}
use Rattle.scheme_expand.specs.Faults.{Fault, fault, in_exp, in_exps, in_word, in_bindings, in_body}
use Rattle.scheme_expand.specs.Forms.{Word, Exp, Bindings, Body, Of, Wrong, Procedure, no_binding, binding, broken}
use Rattle.scheme_expand.specs.Grammar.{rule, checked, and_rest, bound_words, are_formals, params_of, rest_of, expr, exprs, body, procedure, lambda_form, is_define, definitions_before, each_definition}
use Rattle.scheme_expand.specs.Making.{makes, sequenced, AllCome, Defines, IsRight, AreRight}
use Rattle.scheme_expand.specs.Putting.{defined_steps}
use Rattle.scheme_expand.specs.Rewriting.{Scope, are_lambdas, is_lambda, body_core, body_scope, core, cores, is_empty, letrec, names, sequence, unnamed, values, within}
use Rattle.scheme_expand.specs.Shapes.{AreDefinitions, AreFormals, IsBody, IsDefined, IsRest, IsValue}
use Rattle.scheme_expand.specs.Viewed.{IsScope, IsView, Leaves, Puts, Same, Turns}
use Rattle.scheme_expand.specs.Views.{Context, View, scope_of, height, visit, visit_all, seen, values_seen, put_inside, bind, leave}
use Rattle.scheme_expand.specs.Waiting.{Reads, ReadAll, named_data, place}
use Rattle.scheme_expand.proofs.Bodies.{all_in}
use Rattle.scheme_expand.proofs.Coming.{Remade, Rescoped, come_append, come_as, next_comes, one_comes, puts_nothing, puts_twice, puts_turn, view_kept, leave_then_turn, put_then_turn, rescoped, turns_as}
use Rattle.scheme_expand.proofs.Defining.{Shape, good, bad, shape}
use Rattle.scheme_expand.proofs.Expanding.{right_parts}
use Rattle.scheme_expand.proofs.LambdaHeads.{good_lambda}
use Rattle.scheme_expand.proofs.LastClause.{and_split}
use Rattle.scheme_expand.proofs.MadeLambdas.{has_word, procedure_comes}
use Rattle.scheme_expand.proofs.MadeLets.{letrec_standing}
use Rattle.scheme_expand.proofs.Noting.{leave_visit, scope_bound, sequence_standing, visit_scope}
use Rattle.scheme_expand.proofs.Parts.{joined, first_of, last_of, no_items, read_in}
use Rattle.draft_form.specs.Drafts.{Draft, Seq}

-- Definitions

abbrev pub AreRightDefinitions : Items → Type 0
AreRightDefinitions ds = in_bindings (each_definition ds no_binding) ≡ []

-- a definition of a name as a value, in which nothing is broken
pub record IsGood (d : Datum) : Type 0 where
  pub word : Word
  pub exp : Exp
  pub binds : (bs : Bindings) → definitions_before d bs ≡ binding (place d) word exp bs
  pub named : in_word word ≡ []
  pub right : in_exp exp ≡ []

pub record GoodBefore (d : Datum) (bs : Bindings) : Type 0 where
  pub first : IsGood d
  pub others : in_bindings bs ≡ []

good_shape : (d : Datum) (bs : Bindings) → Shape (definitions_before d) (place d) → in_bindings (definitions_before d bs) ≡ []
    → GoodBefore d bs
good_shape d bs (good w e same) r =
    let p = right_parts (in_word w) (in_exp e ++ in_bindings bs) (sym (ap in_bindings (same bs)) ∙ r) in
    let q = right_parts (in_exp e) (in_bindings bs) p.1 in
    record { first = record { word = w; exp = e; binds = same; named = p.0; right = q.0 }; others = q.1 }
good_shape d bs (bad n same) r =
    let broken_one : in_bindings (broken (place d) n bs) ≡ [] = sym (ap in_bindings (same bs)) ∙ r in absurd (cc)

-- before others
pub good_before : (d : Datum) (bs : Bindings) → is_define d ≡ true → in_bindings (definitions_before d bs) ≡ []
    → GoodBefore d bs
good_before d bs h r = good_shape d bs (shape d h) r

pub good_of : (d : Datum) → is_define d ≡ true → in_bindings (definitions_before d no_binding) ≡ [] → IsGood d
good_of d h r = let g = good_before d no_binding h r in g.first

-- a broken definition is not right
pub not_good : (d : Datum) (p : Pos) (n : ℕ) → ((bs : Bindings) → definitions_before d bs ≡ broken p n bs)
    → in_bindings (definitions_before d no_binding) ≡ [] → ⊥
not_good d p n h r = let none : fault p n ∷ [] ≡ [] = sym (ap in_bindings (h no_binding)) ∙ r in absurd (cc)

pub good_alone : (d : Datum) → IsGood d → in_bindings (definitions_before d no_binding) ≡ []
good_alone d g =
    ap in_bindings (g.binds no_binding)
    ∙ (ap (λ fs. fs ++ (in_exp g.exp ++ [])) g.named ∙ (append-nil (in_exp g.exp) ∙ g.right))

pub record LastGood (ds : Items) (d : Datum) : Type 0 where
  pub others : AreRightDefinitions ds
  pub define : all_items is_define ds ≡ true
  pub last : is_define d ≡ true
  pub good : IsGood d

pub last_good : (ds : Items) (d : Datum) → all_items is_define (joined ds (datum_item d no_items_left)) ≡ true
    → AreRightDefinitions (joined ds (datum_item d no_items_left)) → LastGood ds d
last_good no_items_left d h r =
    let t = and_split (is_define d) true h in
    record { others = refl; define = refl; last = t.0; good = good_of d t.0 r }
last_good (datum_item e es) d h r =
    let more : Items = joined es (datum_item d no_items_left) in
    let t = and_split (is_define e) (all_items is_define more) h in
    let g = good_before e (each_definition more no_binding) t.0 r in
    let l = last_good es d t.1 g.others in
    record {
      others = here e es g.first l.others;
      define = both_true (is_define e) (all_items is_define es) t.0 l.define;
      last = l.last;
      good = l.good;
    }
  where
    here : (a : Datum) (is : Items) → IsGood a → AreRightDefinitions is → AreRightDefinitions (datum_item a is)
    here a is g k =
        ap in_bindings (g.binds (each_definition is no_binding))
        ∙ (ap (λ fs. fs ++ (in_exp g.exp ++ in_bindings (each_definition is no_binding))) g.named
        ∙ (ap (λ fs. fs ++ in_bindings (each_definition is no_binding)) g.right ∙ k))

    both_true : (a b : Bool) → a ≡ true → b ≡ true → (a && b) ≡ true
    both_true true b p q = q
    both_true false b p q = absurd (cc)

-- Values that a loop puts, from the last to the first

pub record DefinedPut (a b : Expander) (rest all : List ℕ) (ds : Items) : Type 0 where
  pub left : Items
  pub are : AreDefinitions a.source rest left
  pub right : AreRightDefinitions left
  pub done : List ℕ
  pub whole : all ≡ rest ++ done
  pub puts : Puts a b (defined_steps done)

pub same_self : (a : Expander) → Same a a
same_self a = record { source = refl; library = refl; changed = refl; maker = refl }

pub none_defined_put : (a : Expander) (ids : List ℕ) (ds : Items) → AreDefinitions a.source ids ds → AreRightDefinitions ds
    → DefinedPut a a ids ids ds
none_defined_put a ids ds h r = record {
  left = ds;
  are = h;
  right = r;
  done = [];
  whole = sym (append-nil ids);
  puts = puts_nothing a a (same_self a) refl;
}

pub last_defined_put : (a b c : Expander) (rest others all : List ℕ) (id : ℕ) (ds : Items) → DefinedPut a b rest all ds
    → rest ≡ others ++ id ∷ []
    → ((d : Datum) → Reads b.source id d → is_define d ≡ true → in_bindings (definitions_before d no_binding) ≡ []
    → Puts b c (step.Defined id ∷ []))
    → DefinedPut a c others all ds
last_defined_put a b c rest others all id ds i e put =
    let r = last_of a.source rest others id i.left e i.are.read in
    let P : Items → Type 0 = λ l. all_items is_define l ≡ true in
    let Q : Items → Type 0 = λ l. AreRightDefinitions l in
    let g = last_good r.others r.datum (subst P r.are i.are.define) (subst Q r.are i.right) in
    let R : Source → Type 0 = λ s. Reads s id r.datum in
    record {
      left = r.others;
      are = record { read = r.rest; define = g.define };
      right = g.others;
      done = id ∷ i.done;
      whole = i.whole ∙ (ap (λ l. l ++ i.done) e ∙ append_assoc others (id ∷ []) i.done);
      puts =
          puts_twice a b c (defined_steps i.done) (step.Defined id ∷ []) i.puts
          (put r.datum (subst R (sym i.puts.same.source) r.last) g.last (good_alone r.datum g.good));
    }

pub defined_put : (a b : Expander) (rest all : List ℕ) (ds : Items) → DefinedPut a b rest all ds → rest ≡ []
    → Puts a b (defined_steps all)
defined_put a b rest all ds i e =
    let P : List ℕ → Type 0 = λ l. Puts a b (defined_steps l) in
    subst P (sym (i.whole ∙ ap (λ l. l ++ i.done) e)) i.puts

-- What these values come to

pub values_seen_are : (c : Context) (bs : Bindings) (s : Scope) (v : View) → scope_of c v ≡ s
    → values_seen c bs v ≡ visit_all c (values bs s) v
values_seen_are c no_binding s v h = refl
values_seen_are c (binding p w e bs) s v h =
    ap (λ t. values_seen c bs (visit c (core e t) v)) h
    ∙ values_seen_are c bs s (visit c (core e s) v) (visit_scope c (core e s) v ∙ h)
values_seen_are c (broken p n bs) s v h = values_seen_are c bs s v h

defines_good : (d : Datum) → is_define d ≡ true → (g : IsGood d) → Defines d g.exp
defines_good d h g = record { define = h; place = place d; word = g.word; binds = g.binds no_binding }

pub defined_come : (c : Context) (ids : List ℕ) (ds : Items) (v : View) → AreDefinitions c.source ids ds
    → AreRightDefinitions ds → AllCome c (defined_steps ids) v (values_seen c (each_definition ds no_binding) v)
defined_come c [] ds v h r =
    ap (λ is. values_seen c (each_definition is no_binding) v) (no_items c.source [] ds refl h.read)
defined_come c (id ∷ ids) ds v h r =
    let f = first_of c.source (id ∷ ids) id ids ds refl h.read in
    let P : Items → Type 0 = λ l. all_items is_define l ≡ true in
    let Q : Items → Type 0 = λ l. AreRightDefinitions l in
    let t = and_split (is_define f.datum) (all_items is_define f.others) (subst P f.are h.define) in
    let bs : Bindings = each_definition f.others no_binding in
    let g = good_before f.datum bs t.0 (subst Q f.are r) in
    let u : View = seen c g.first.exp v in
    come_as c (defined_steps (id ∷ ids)) v (values_seen c bs u) (values_seen c (each_definition ds no_binding) v)
    (sym
    (ap (λ is. values_seen c (each_definition is no_binding) v) f.are
    ∙ ap (λ l. values_seen c l v) (g.first.binds bs)))
    (come_append c (defined_steps ids) (step.Defined id ∷ []) v u (values_seen c bs u)
    (one_comes c (step.Defined id) v u (f.datum, g.first.exp, f.first, defines_good f.datum t.0 g.first, g.first.right, refl))
    (defined_come c ids f.others u (record { read = f.rest; define = t.1 }) g.others))

-- Expressions and procedures

pub not_right : (p : Pos) (n : ℕ) (e : Exp) → e ≡ Wrong p n → IsRight e → ⊥
not_right p n e h r = let none : fault p n ∷ [] ≡ [] = sym (ap in_exp h) ∙ r in absurd (cc)

-- several expressions are a `Seq`
pub several : (p : Pos) (s : Source) (ids : List ℕ) (ds : Items) (t : Scope) → ReadAll s ids ds → (length ids ≡ 1 → ⊥)
    → sequence p (cores (exprs ds) t) ≡ Seq p (cores (exprs ds) t)
several p s ids no_items_left t h n = refl
several p s ids (datum_item d no_items_left) t h n =
    absurd (n (ap (λ l. length l) (h.stand.2 ∙ ap (λ l. h.stand.0 ∷ l) h.stand.4)))
several p s ids (datum_item d (datum_item e ds)) t h n = refl

-- formals have a rest parameter where the words have
pub rest_there : (s : Source) (rest : Option ℕ) (r : Option Word) → IsRest s rest r → is_some rest ≡ has_word r
rest_there s None r h = ap has_word (sym h)
rest_there s (Some id) r h = ap has_word (sym h.2)

pub procedure_turns : (c : Context) (a b d e : Expander) (p : Pos) (level : ℕ) (has_rest : Bool) (ws : List Word)
    (r : Option Word) (x : Body) (v : View) → Leaves c a b (bind (names (and_rest ws r)) v)
    → Puts b d (step.Lambda p level has_rest ∷ []) → level ≡ height v → has_rest ≡ has_word r
    → (IsView c d (bind (names (and_rest ws r)) v)
    → Turns c d e (visit c (body_core x p (scope_of c (bind (names (and_rest ws r)) v))) (bind (names (and_rest ws r)) v)))
    → Turns c a e (seen c (Procedure p ws r x) v)
procedure_turns c a b d e p level has_rest ws r x v enter put at rest inner =
    let u : View = bind (names (and_rest ws r)) v in
    let made : View = visit c (body_core x p (scope_of c u)) u in
    leave_then_turn c a b e u (seen c (Procedure p ws r x) v) enter
    (put_then_turn c b d e (step.Lambda p level has_rest ∷ []) made (seen c (Procedure p ws r x) v) put
    (inner (view_kept c b d u put.same enter.view))
    (one_comes c (step.Lambda p level has_rest) made (seen c (Procedure p ws r x) v)
    (sym
    (ap (λ k. makes c (step.Lambda p k has_rest) made) at
    ∙ (ap (λ y. makes c (step.Lambda p (height v) y) made) rest
    ∙ procedure_comes c p ws r (λ s. body_core x p s) v)))))

pub formals_in : (s t : Source) (f : Formals) (ws : List Word) (r : Option Word) → s ≡ t → AreFormals s f ws r → AreFormals t f ws r
formals_in s t f ws r e h = let P : Source → Type 0 = λ u. AreFormals u f ws r in subst P e h

pub lambda_turns : (c : Context) (a b : Expander) (p : Pos) (ids others : List ℕ) (id : ℕ) (f : Formals) (v : View) (ds : Items)
    → IsView c a v → ReadAll c.source ids ds → IsRight (lambda_form p ds) → ids ≡ id ∷ others
    → ((d : Datum) → Reads a.source id d → (are_formals d ≡ true) × AreFormals a.source f (params_of d) (rest_of d))
    → ((c : Context) (v : View) (ws : List Word) (r : Option Word) (es : Items) → IsView c a v → AreFormals c.source f ws r
    → ReadAll c.source others es → IsRight (procedure p ws r es (body es)) → Turns c a b (seen c (procedure p ws r es (body es)) v))
    → Turns c a b (seen c (lambda_form p ds) v)
lambda_turns c a b p ids others id f v ds i h k split formals inner =
    let r = first_of c.source ids id others ds split h in
    let g = formals r.datum (read_in c.source a.source id r.datum (sym i.source) r.first) in
    let whole : Exp = procedure p (params_of r.datum) (rest_of r.datum) r.others (body r.others) in
    let same : lambda_form p ds ≡ whole =
    ap (lambda_form p) r.are ∙ ap (λ x. checked p (rule (not x) 3 ∷ []) whole) g.0
    in
    turns_as c a b (seen c whole v) (seen c (lambda_form p ds) v) (ap (λ e. seen c e v) (sym same))
    (inner c v (params_of r.datum) (rest_of r.datum) r.others i (formals_in a.source c.source f _ _ i.source g.1) r.rest
    (sym (ap in_exp same) ∙ k))

-- Values of definitions

value_same : (d : Datum) (e exp : Exp) (p : Pos) (w : Word) → Defines d e
    → definitions_before d no_binding ≡ binding p w exp no_binding → exp ≡ e
value_same d e exp p w g h = let same : binding p w exp no_binding ≡ binding g.place g.word e no_binding = sym h ∙ g.binds in cc

pub not_defined : (d : Datum) (e : Exp) (p : Pos) (n : ℕ) → Defines d e
    → ((bs : Bindings) → definitions_before d bs ≡ broken p n bs) → ⊥
not_defined d e p n g h =
    let same : broken p n no_binding ≡ binding g.place g.word e no_binding = sym (h no_binding) ∙ g.binds in absurd (cc)

pub value_turns : (c : Context) (a b : Expander) (def : Definition) (d : Datum) (id : ℕ) (e : Exp) (v : View) → IsView c a v
    → Defines d e → IsRight e → IsDefined a.source def (place d) (definitions_before d) → def.value ≡ defined.Expr id
    → Puts a b (step.Expr id ∷ []) → Turns c a b (seen c e v)
value_turns c a b def d id e v i g k is value put =
    let P : Defined → Type 0 = λ x. IsValue a.source x (place d) is.exp in
    let h = subst P value is.is in
    let same : expr h.0 ≡ e = sym h.2 ∙ value_same d e is.exp (place d) is.word g (is.binds no_binding) in
    puts_turn c a b v (seen c e v) (step.Expr id ∷ []) i put
    (one_comes c (step.Expr id) v (seen c e v)
    (h.0, read_in a.source c.source id h.0 i.source h.1, ap in_exp same ∙ k, ap (λ x. seen c x v) (sym same)))

pub procedure_value_turns : (c : Context) (a b : Expander) (def : Definition) (d : Datum) (f : Formals) (slice : Defined)
    (ids : List ℕ) (p : Pos) (e : Exp) (v : View) → IsView c a v → Defines d e → IsRight e
    → (is : IsDefined a.source def (place d) (definitions_before d)) → def.value ≡ slice
    → (IsValue a.source slice (place d) is.exp → (ws : List Word) × (r : Option Word) × (ds : Items)
    × AreFormals a.source f ws r × ReadAll a.source ids ds × (is.exp ≡ procedure (place d) ws r ds (body ds)))
    → p ≡ place d
    → ((c : Context) (v : View) (ws : List Word) (r : Option Word) (es : Items) → IsView c a v → AreFormals c.source f ws r
    → ReadAll c.source ids es → IsRight (procedure p ws r es (body es)) → Turns c a b (seen c (procedure p ws r es (body es)) v))
    → Turns c a b (seen c e v)
procedure_value_turns c a b def d f slice ids p e v i g k is value parts at inner =
    let P : Defined → Type 0 = λ x. IsValue a.source x (place d) is.exp in
    let h = parts (subst P value is.is) in
    let same : procedure p h.0 h.1 h.2 (body h.2) ≡ e =
    ap (λ q. procedure q h.0 h.1 h.2 (body h.2)) at
    ∙ (sym h.5 ∙ value_same d e is.exp (place d) is.word g (is.binds no_binding))
    in
    turns_as c a b (seen c (procedure p h.0 h.1 h.2 (body h.2)) v) (seen c e v) (ap (λ x. seen c x v) same)
    (inner c v h.0 h.1 h.2 i (formals_in a.source c.source f h.0 h.1 i.source h.3) (all_in a.source c.source ids h.2 i.source h.4)
    (ap in_exp same ∙ k))

pub only_turns : (c : Context) (a b : Expander) (p : Pos) (id : ℕ) (d : Datum) (ds : Items) (v : View) → IsView c a v
    → ds ≡ datum_item d no_items_left → Reads c.source id d → AreRight (exprs ds) → Puts a b (step.Expr id ∷ [])
    → Turns c a b (visit c (sequence p (cores (exprs ds) (scope_of c v))) v)
only_turns c a b p id d ds v i e h k put =
    let P : Items → Type 0 = λ is. AreRight (exprs is) in
    let right = right_parts (in_exp (expr d)) [] (subst P e k) in
    turns_as c a b (seen c (expr d) v) (visit c (sequence p (cores (exprs ds) (scope_of c v))) v)
    (ap (λ is. visit c (sequence p (cores (exprs is) (scope_of c v))) v) (sym e))
    (puts_turn c a b v (seen c (expr d) v) (step.Expr id ∷ []) i put
    (one_comes c (step.Expr id) v (seen c (expr d) v) (d, h, right.0, refl)))

pub several_turn : (c : Context) (a b : Expander) (p : Pos) (ids : List ℕ) (ds : Items) (v : View) → ReadAll c.source ids ds
    → (length ids ≡ 1 → ⊥) → Turns c a b (sequenced c p (exprs ds) v)
    → Turns c a b (visit c (sequence p (cores (exprs ds) (scope_of c v))) v)
several_turn c a b p ids ds v h n t =
    turns_as c a b (sequenced c p (exprs ds) v) (visit c (sequence p (cores (exprs ds) (scope_of c v))) v)
    (sequence_standing c p (exprs ds) v
    ∙ ap (λ d. visit c d v) (sym (several p c.source ids ds (scope_of c v) h n)))
    t

-- Bodies

pub length_named : (s : Source) (ids : List ℕ) (ws : List Word) → ReadAll s ids (named_data ws) → length ids ≡ length (names ws)
length_named s ids [] h = ap (λ l. length l) h.stand
length_named s ids (w ∷ ws) h =
    let f = first_of s ids h.stand.0 h.stand.1 (named_data (w ∷ ws)) h.stand.2 h in
    ap (λ l. length l) h.stand.2 ∙ ap suc (length_named s h.stand.1 ws (record { named = h.named; stand = h.stand.4 }))

count_values : (bs : Bindings) (s : Scope) → length (names (bound_words bs)) ≡ count (values bs s)
count_values no_binding s = refl
count_values (binding p w e bs) s = ap suc (count_values bs s)
count_values (broken p n bs) s = count_values bs s

not_empty : (d : Datum) (ds : Items) → all_items is_define (datum_item d ds) ≡ true → AreRightDefinitions (datum_item d ds)
    → is_empty (each_definition (datum_item d ds) no_binding) ≡ false
not_empty d ds h r =
    let t = and_split (is_define d) (all_items is_define ds) h in
    let g = good_before d (each_definition ds no_binding) t.0 r in
    ap is_empty (g.first.binds (each_definition ds no_binding))

-- some definitions are no empty bindings
some_bindings : (s : Source) (ids : List ℕ) (ds : Items) → AreDefinitions s ids ds → AreRightDefinitions ds → (ids ≡ [] → ⊥)
    → is_empty (each_definition ds no_binding) ≡ false
some_bindings s ids no_items_left h r n = absurd (n h.read.stand)
some_bindings s ids (datum_item d ds) h r n = not_empty d ds h.define r

pub bodies_right : (parts : Parts) (s : Source) (b : Body) (i : IsBody s parts b) → in_body b ≡ []
    → AreRightDefinitions i.defs × AreRight (exprs i.items)
bodies_right parts s b i r =
    right_parts (in_bindings (each_definition i.defs no_binding)) (in_exps (exprs i.items)) (sym (ap in_body i.is) ∙ r)

pub plain_body_turns : (c : Context) (a b : Expander) (p : Pos) (parts : Parts) (x : Body) (v : View) → IsBody c.source parts x
    → in_body x ≡ [] → parts.definitions.items ≡ []
    → ((ds : Items) → ReadAll c.source parts.exprs.now ds → AreRight (exprs ds)
    → Turns c a b (visit c (sequence p (cores (exprs ds) (scope_of c v))) v))
    → Turns c a b (visit c (body_core x p (scope_of c v)) v)
plain_body_turns c a b p parts x v i r empty turn =
    let k = bodies_right parts c.source x i r in
    let none = no_items c.source parts.definitions.items i.defs empty i.are.read in
    turns_as c a b (visit c (sequence p (cores (exprs i.items) (scope_of c v))) v) (visit c (body_core x p (scope_of c v)) v)
    (sym
    (ap (λ y. visit c (body_core y p (scope_of c v)) v)
    (i.is ∙ ap (λ l. Of (each_definition l no_binding) (exprs i.items)) none)))
    (turn i.items i.rest k.1)

-- what is put before the expressions of a body
abbrev pub body_steps : Pos → (level inner : ℕ) → Bool → (ids : List ℕ) → List Step
body_steps p level inner lambdas ids = step.Letrec p level lambdas ∷ (defined_steps ids ++ step.Leave inner ∷ [])

body_comes : (c : Context) (p : Pos) (inner m : ℕ) (lambdas : Bool) (ids : List ℕ) (ds : Items) (xs : List (List ℕ)) (e : Draft)
    (v : View) → AreDefinitions c.source ids ds → AreRightDefinitions ds → xs ≡ names (bound_words (each_definition ds no_binding))
    → inner ≡ height (bind xs v)
    → AllCome c (body_steps p (height v) inner lambdas ids) (visit c e (bind (unnamed m) (bind xs v)))
    (visit c (letrec p (scope_of c v) xs lambdas (values (each_definition ds no_binding) (within (scope_of c v) xs)) e) v)
body_comes c p inner m lambdas ids ds xs e v h r same i =
    let bs : Bindings = each_definition ds no_binding in
    let t : Scope = within (scope_of c v) xs in
    let made : View = visit c e (bind (unnamed m) (bind xs v)) in
    let u : View = visit c e (bind xs v) in
    let w : View = visit_all c (values bs t) u in
    let z : View = visit c (letrec p (scope_of c v) xs lambdas (values bs t) e) v in
    next_comes c (step.Letrec p (height v) lambdas) (defined_steps ids ++ step.Leave inner ∷ []) made w z
    (come_append c (defined_steps ids) (step.Leave inner ∷ []) made u w
    (one_comes c (step.Leave inner) made u (sym (ap (λ k. leave k made) i ∙ leave_visit c (unnamed m) e (bind xs v))))
    (come_as c (defined_steps ids) u (values_seen c bs u) w
    (values_seen_are c bs t u (visit_scope c e (bind xs v) ∙ scope_bound c xs v)) (defined_come c ids ds u h r)))
    (sym (letrec_standing c p lambdas xs (values bs t) e v (ap (λ l. length l) same ∙ count_values bs t)))

pub body_turns : (c : Context) (a b d e f g h : Expander) (p : Pos) (level inner many : ℕ) (lambdas : Bool) (parts : Parts)
    (x : Body) (v : View) → (i : IsBody c.source parts x) → in_body x ≡ [] → (parts.definitions.items ≡ [] → ⊥)
    → Leaves c a b (bind (names (bound_words (each_definition i.defs no_binding))) v)
    → Leaves c b d (bind (unnamed many) (bind (names (bound_words (each_definition i.defs no_binding))) v))
    → many ≡ length parts.names.items → Puts d e (step.Letrec p level lambdas ∷ [])
    → Puts e f (defined_steps parts.definitions.items) → Puts f g (step.Leave inner ∷ [])
    → level ≡ height v → inner ≡ height (bind (names (bound_words (each_definition i.defs no_binding))) v)
    → lambdas ≡ are_lambdas (each_definition i.defs no_binding)
    → ((u : View) → IsView c g u → AreRight (exprs i.items)
    → Turns c g h (visit c (sequence p (cores (exprs i.items) (scope_of c u))) u))
    → Turns c a h (visit c (body_core x p (scope_of c v)) v)
body_turns c a b d e f g h p level inner many lambdas parts x v i r some enter fresh count_of put values_put leave_put at inner_at all turn =
    let k = bodies_right parts c.source x i r in
    let bs : Bindings = each_definition i.defs no_binding in
    let xs : List (List ℕ) = names (bound_words bs) in
    let s : Scope = scope_of c v in
    let u : View = bind (unnamed many) (bind xs v) in
    let ids : List ℕ = parts.definitions.items in
    let made : Draft = sequence p (cores (exprs i.items) (scope_of c u)) in
    let inside_it : scope_of c u ≡ body_scope s xs =
    scope_bound c (unnamed many) (bind xs v)
    ∙ (ap (λ t. within t (unnamed many)) (scope_bound c xs v)
    ∙ ap (λ n. within (within s xs) (unnamed n)) (count_of ∙ length_named c.source parts.names.items (bound_words bs) i.names))
    in
    let target : Draft = letrec p s xs (are_lambdas bs) (values bs (within s xs)) (sequence p (cores (exprs i.items) (body_scope s xs))) in
    let is_letrec : body_core x p s ≡ target =
    ap (λ y. body_core y p s) i.is
    ∙ ap (λ y. if y then sequence p (cores (exprs i.items) s) else target) (some_bindings c.source ids i.defs i.are k.0 some)
    in
    let puts = puts_twice d e g (step.Letrec p level lambdas ∷ []) (defined_steps ids ++ step.Leave inner ∷ []) put
    (puts_twice e f g (defined_steps ids) (step.Leave inner ∷ []) values_put leave_put) in
    leave_then_turn c a b h (bind xs v) (visit c (body_core x p s) v) enter
    (leave_then_turn c b d h u (visit c (body_core x p s) v) fresh
    (put_then_turn c d g h (body_steps p level inner lambdas ids) (visit c made u) (visit c (body_core x p s) v) puts
    (turn u (view_kept c d g u puts.same fresh.view) k.1)
    (come_as c (body_steps p level inner lambdas ids) (visit c made u)
    (visit c (letrec p s xs lambdas (values bs (within s xs)) made) v) (visit c (body_core x p s) v)
    (ap (λ l. visit c (letrec p s xs l (values bs (within s xs)) made) v) all
    ∙ (ap (λ t. visit c (letrec p s xs (are_lambdas bs) (values bs (within s xs)) (sequence p (cores (exprs i.items) t))) v) inside_it
    ∙ ap (λ y. visit c y v) (sym is_letrec)))
    (let P : ℕ → Type 0 = λ j. AllCome c (body_steps p j inner lambdas ids) (visit c made u)
    (visit c (letrec p s xs lambdas (values bs (within s xs)) made) v) in
    subst P (sym at) (body_comes c p inner many lambdas ids i.defs xs made v i.are k.0 refl inner_at)))))

-- variables that are bound at once
pub fresh_bound : (c : Context) (a b : Expander) (n : ℕ) (v : View) → IsView c a v → b.steps.items ≡ a.steps.items
    → Remade a b → Rescoped a.maker b.maker → IsScope c.names b.maker.scope (put_inside (unnamed n) v.bound)
    → Leaves c a b (bind (unnamed n) v)
fresh_bound c a b n v i e r m s = record { steps = e; view = rescoped c a b v (put_inside (unnamed n) v.bound) i r m s }

-- Whether all definitions define lambda expressions

pub value_at : (s : Source) (x y : Defined) (p : Pos) (e : Exp) → x ≡ y → IsValue s x p e → IsValue s y p e
value_at s x y p e h i = let P : Defined → Type 0 = λ z. IsValue s z p e in subst P h i

pub procedure_at : (p : Pos) (ws : List Word) (r : Option Word) (ds : Items) (e : Exp) → e ≡ procedure p ws r ds (body ds)
    → IsRight e → is_lambda e ≡ true
procedure_at p ws r ds e h k = ap is_lambda h ∙ good_lambda p ws r ds (sym (ap in_exp h) ∙ k)

pub record Asked (s : Source) (rest : List ℕ) (ds : Items) : Type 0 where
  pub left : Items
  pub are : AreDefinitions s rest left
  pub right : AreRightDefinitions left
  pub same : are_lambdas (each_definition ds no_binding) ≡ are_lambdas (each_definition left no_binding)

pub none_asked : (s : Source) (ids : List ℕ) (ds : Items) → AreDefinitions s ids ds → AreRightDefinitions ds → Asked s ids ds
none_asked s ids ds h r = record { left = ds; are = h; right = r; same = refl }

pub record FirstAsked (s : Source) (others : List ℕ) (id : ℕ) (ds : Items) : Type 0 where
  pub datum : Datum
  pub read : Reads s id datum
  pub define : is_define datum ≡ true
  pub good : IsGood datum
  pub left : Items
  pub are : AreDefinitions s others left
  pub right : AreRightDefinitions left
  pub same : are_lambdas (each_definition ds no_binding)
      ≡ (is_lambda good.exp && are_lambdas (each_definition left no_binding))

pub first_asked : (s : Source) (rest others : List ℕ) (id : ℕ) (ds : Items) → Asked s rest ds → rest ≡ id ∷ others
    → FirstAsked s others id ds
first_asked s rest others id ds i e =
    let f = first_of s rest id others i.left e i.are.read in
    let P : Items → Type 0 = λ l. all_items is_define l ≡ true in
    let Q : Items → Type 0 = λ l. AreRightDefinitions l in
    let t = and_split (is_define f.datum) (all_items is_define f.others) (subst P f.are i.are.define) in
    let g = good_before f.datum (each_definition f.others no_binding) t.0 (subst Q f.are i.right) in
    record {
      datum = f.datum;
      read = f.first;
      define = t.0;
      good = g.first;
      left = f.others;
      are = record { read = f.rest; define = t.1 };
      right = g.others;
      same =
          i.same
          ∙ (ap (λ l. are_lambdas (each_definition l no_binding)) f.are
          ∙ ap are_lambdas (g.first.binds (each_definition f.others no_binding)));
    }

-- one that defines a lambda expression, and one that defines another
pub lambda_asked : (s : Source) (others : List ℕ) (id : ℕ) (ds : Items) → (f : FirstAsked s others id ds)
    → is_lambda f.good.exp ≡ true → Asked s others ds
lambda_asked s others id ds f e = record {
  left = f.left;
  are = f.are;
  right = f.right;
  same = f.same ∙ ap (λ b. b && are_lambdas (each_definition f.left no_binding)) e;
}

pub other_asked : (s : Source) (others : List ℕ) (id : ℕ) (ds : Items) → (f : FirstAsked s others id ds)
    → is_lambda f.good.exp ≡ false → are_lambdas (each_definition ds no_binding) ≡ false
other_asked s others id ds f e = f.same ∙ ap (λ b. b && are_lambdas (each_definition f.left no_binding)) e

pub all_asked : (s : Source) (rest : List ℕ) (ds : Items) → Asked s rest ds → rest ≡ [] → true ≡ are_lambdas (each_definition ds no_binding)
all_asked s rest ds i e =
    sym (i.same ∙ ap (λ l. are_lambdas (each_definition l no_binding)) (no_items s rest i.left e i.are.read))

-- whether a definition that is read defines a lambda expression
pub asked : (s : Source) (def : Definition) (d : Datum) (g : IsGood d) (found : Bool)
    → IsDefined s def (place d) (definitions_before d)
    → ((p : Pos) (e : Exp) → IsValue s def.value p e → IsRight e → found ≡ is_lambda e) → is_lambda g.exp ≡ found
asked s def d g found i k =
    let same : binding (place d) i.word i.exp no_binding ≡ binding (place d) g.word g.exp no_binding =
    sym (i.binds no_binding) ∙ g.binds no_binding
    in
    let exps : i.exp ≡ g.exp = cc in
    sym (k (place d) i.exp i.is (ap in_exp exps ∙ g.right) ∙ ap is_lambda exps)

pub definitions_in : (s t : Source) (ids : List ℕ) (ds : Items) → s ≡ t → AreDefinitions s ids ds → AreDefinitions t ids ds
definitions_in s t ids ds e h = let P : Source → Type 0 = λ u. AreDefinitions u ids ds in subst P e h

pub puts_as : (a b : Expander) (xs ys : List Step) → xs ≡ ys → Puts a b xs → Puts a b ys
puts_as a b xs ys e h = let P : List Step → Type 0 = λ l. Puts a b l in subst P e h

-- One expression, or several

pub record Only (s : Source) (id : ℕ) (ds : Items) : Type 0 where
  pub only : Datum
  pub are : ds ≡ datum_item only no_items_left
  pub read : Reads s id only

pub only_first : (s : Source) (ids others : List ℕ) (id : ℕ) (ds : Items) → ids ≡ id ∷ others → others ≡ [] → ReadAll s ids ds
    → Only s id ds
only_first s ids others id ds e none h =
    let f = first_of s ids id others ds e h in
    record { only = f.datum; are = f.are ∙ ap (datum_item f.datum) (no_items s others f.others none f.rest); read = f.first }

pub not_alone : (ids others : List ℕ) (id : ℕ) → ids ≡ id ∷ others → (others ≡ [] → ⊥) → length ids ≡ 1 → ⊥
not_alone ids [] id e some one = some refl
not_alone ids (x ∷ others) id e some one =
    let many : length ids ≡ suc (suc (length others)) = ap (λ l. length l) e in omega (arith, many, one)
