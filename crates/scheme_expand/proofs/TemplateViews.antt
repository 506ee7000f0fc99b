-- The steps of a template come to its core, one after another.
--
-- `steps_come`: steps that make templates. `quasi_turns`: a quasiquote. `no_parts_put`, `last_part_put`, `parts_put`:
-- the steps that a loop puts.
use Rattle.std.proofs.Common.{ℕ, ◌≡◌, List, [], ◌∷◌, ◌++◌, Some, None, refl, sym, ap, subst, ◌∙◌, append-nil, append_assoc, length, arith}
use Rattle.scheme_base.specs.declared.pos.Pos.{Pos}
use Rattle.datum_form.specs.Data.{Datum, Items}
use Rattle.datum_form.specs.Data.Items.{none as no_items_left, item as datum_item}
use Rattle.datum_form.specs.Stands.{Stands}
use Rattle.quasi_expand.specs.declared.template.Part.{Part}
use Rattle.quasi_expand.specs.declared.template.Part.TheVariants as part
use Rattle.quasi_expand.specs.Making.{Makes, MakeAll}
use Rattle.quasi_expand.specs.Templates as quasi
use Rattle.scheme_expand.specs.declared.expander.Expander.{Expander}
use Rattle.scheme_expand.specs.declared.source.Source.{Source}
use Rattle.scheme_expand.specs.declared.step.Step.{Step}
use Rattle.scheme_expand.specs.declared.step.Step.TheVariants as step
use Rattle.scheme_expand.specs.Calls.{one, two}
use Rattle.scheme_expand.specs.Faults.{in_exp, in_template}
use Rattle.scheme_expand.specs.Forms.{Quasi}
use Rattle.scheme_expand.specs.Grammar.{expr, quasi_form, template}
use Rattle.scheme_expand.specs.Making.{makes, AllCome, ComesTo, IsRight}
use Rattle.scheme_expand.specs.Putting.{part_step, part_steps}
use Rattle.scheme_expand.specs.Rewriting.{Scope, core, template_core}
use Rattle.scheme_expand.specs.Viewed.{IsView, Puts, Turns}
use Rattle.scheme_expand.specs.Views.{Context, View, scope_of, pushed, visit, seen}
use Rattle.scheme_expand.specs.Waiting.{IsNamed, Reads}
use Rattle.scheme_expand.proofs.Coming.{come_append, come_as, one_comes, puts_nothing, puts_twice, puts_turn, turns_as}
use Rattle.scheme_expand.proofs.Expanding.{right_parts}
use Rattle.scheme_expand.proofs.MadeBodies.{same_self}
use Rattle.scheme_expand.proofs.MadeTemplates.{read, read_template}
use Rattle.scheme_expand.proofs.Noting.{Alike, alike, alike_held, alike_referred, alike_sym, alike_twice, noting_alike, noting_none, standing, standing_one, visit_scope}
use Rattle.draft_form.specs.Drafts.{Draft, Const, parts}

-- Templates on the stack

abbrev drawn : Context → Pos → View → quasi.Template → Draft
drawn c p v t = template_core (read t) p (scope_of c v)

-- these templates are made, the last one first
abbrev pub stacked : Context → Pos → View → List quasi.Template → View
stacked c p v [] = v
stacked c p v (t ∷ ts) = visit c (drawn c p v t) (stacked c p v ts)

stacked_scope : (c : Context) (p : Pos) (v : View) (ts : List quasi.Template) → scope_of c (stacked c p v ts) ≡ scope_of c v
stacked_scope c p v [] = refl
stacked_scope c p v (t ∷ ts) = visit_scope c (drawn c p v t) (stacked c p v ts) ∙ stacked_scope c p v ts

abbrev pub AreRightTemplates : List quasi.Template → Type 0
AreRightTemplates [] = Unit {0}
AreRightTemplates (t ∷ ts) = (in_template (read t) ≡ []) × AreRightTemplates ts

-- no expression of a template is broken before it is made where none is in what is made
step_right : (c : Context) (x : Part) (a b : List quasi.Template) → Makes c.source.nodes.now x a b → AreRightTemplates b
    → AreRightTemplates a
step_right c (part.Datum id) a b h r = let P : List quasi.Template → Type 0 = λ l. AreRightTemplates l in (subst P h.2 r).1
step_right c (part.Rest id from) a b h r = let P : List quasi.Template → Type 0 = λ l. AreRightTemplates l in (subst P h.2 r).1
step_right c (part.Expr id) a b h r = let P : List quasi.Template → Type 0 = λ l. AreRightTemplates l in (subst P h.2 r).1
step_right c part.Cons a b h r =
    let P : List quasi.Template → Type 0 = λ l. AreRightTemplates l in
    let made = subst P h.4 r in
    let two_right = right_parts (in_template (read h.0)) (in_template (read h.1)) made.0 in
    subst P (sym h.3) (two_right.1, (two_right.0, made.1))
step_right c part.Join a b h r =
    let P : List quasi.Template → Type 0 = λ l. AreRightTemplates l in
    let made = subst P h.4 r in
    let two_right = right_parts (in_exp (expr h.0)) (in_template (read h.1)) made.0 in
    subst P (sym h.3) (two_right.1, (two_right.0, made.1))
step_right c part.Vector a b h r =
    let P : List quasi.Template → Type 0 = λ l. AreRightTemplates l in
    let made = subst P h.3 r in
    subst P (sym h.2) (made.0, made.1)

all_right : (c : Context) (xs : List Part) (a b : List quasi.Template) → MakeAll c.source.nodes.now xs a b
    → AreRightTemplates b → AreRightTemplates a
all_right c [] a b h r = let P : List quasi.Template → Type 0 = λ l. AreRightTemplates l in subst P h r
all_right c (x ∷ xs) a b h r = step_right c x a h.0 h.1 (all_right c xs h.0 b h.2 r)

-- Steps

-- a draft that changes nothing is only made
pub only_made : (c : Context) (d : Draft) (v : View) → Alike (parts d) [] → visit c d v ≡ pushed d v
only_made c d v a = ap (pushed d) (noting_alike c (parts d) [] v a ∙ noting_none c v)

step_comes : (c : Context) (p : Pos) (v : View) (x : Part) (a b : List quasi.Template) → IsNamed c.source
    → Makes c.source.nodes.now x a b → AreRightTemplates b
    → ComesTo c (part_step p x) (stacked c p v a) (stacked c p v b)
step_comes c p v (part.Datum id) a b n h r =
    (h.0, h.1, ap (stacked c p v) h.2 ∙ only_made c (Const p h.0) (stacked c p v a) (alike_held h.0 []))
step_comes c p v (part.Rest id from) a b n h r =
    (h.0, h.1, ap (stacked c p v) h.2 ∙ only_made c (Const p h.0) (stacked c p v a) (alike_held h.0 []))
step_comes c p v (part.Expr id) a b n h r =
    let P : List quasi.Template → Type 0 = λ l. AreRightTemplates l in (
      h.0,
      record { named = n; stands = h.1 },
      (subst P h.2 r).0,
      ap (stacked c p v) h.2
          ∙ ap (λ s. visit c (core (expr h.0) s) (stacked c p v a)) (sym (stacked_scope c p v a)),
    )
step_comes c p v part.Cons a b n h r =
    let car = drawn c p v h.0 in
    let cdr = drawn c p v h.1 in
    let u = stacked c p v h.2 in
    ap (stacked c p v) h.4
    ∙ sym
    (ap (λ l. makes c (step.Template p part.Cons) (stacked c p v l)) h.3
    ∙ standing c (two car cdr) (drawn c p v (quasi.Pair h.0 h.1)) u (alike _ _ refl))
step_comes c p v part.Join a b n h r =
    let items = drawn c p v (quasi.Unquoted h.0) in
    let rest = drawn c p v h.1 in
    let u = stacked c p v h.2 in
    ap (stacked c p v) h.4
    ∙ sym
    (ap (λ l. makes c (step.Template p part.Join) (stacked c p v l)) h.3
    ∙ standing c (two items rest) (drawn c p v (quasi.Spliced h.0 h.1)) u (alike_sym _ _ (alike_referred _ _)))
step_comes c p v part.Vector a b n h r =
    let items = drawn c p v h.0 in
    let u = stacked c p v h.1 in
    ap (stacked c p v) h.3
    ∙ sym
    (ap (λ l. makes c (step.Template p part.Vector) (stacked c p v l)) h.2
    ∙ standing_one c items (drawn c p v (quasi.Vector h.0)) u
    (alike_twice _ _ _ (alike _ _ (sym (append-nil (parts items)))) (alike_sym _ _ (alike_referred _ _))))

steps_come : (c : Context) (p : Pos) (v : View) (xs : List Part) (a b : List quasi.Template) → IsNamed c.source
    → MakeAll c.source.nodes.now xs a b → AreRightTemplates b → AllCome c (part_steps p xs) (stacked c p v a) (stacked c p v b)
steps_come c p v [] a b n h r = ap (stacked c p v) h
steps_come c p v (x ∷ xs) a b n h r =
    let u : View = stacked c p v h.0 in
    come_append c (part_steps p xs) (part_step p x ∷ []) (stacked c p v a) u (stacked c p v b)
    (one_comes c (part_step p x) (stacked c p v a) u (step_comes c p v x a h.0 n h.1 (all_right c xs h.0 b h.2 r)))
    (steps_come c p v xs h.0 b n h.2 r)

-- The whole

pub quasi_turns : (c : Context) (a b : Expander) (p : Pos) (xs : List Part) (d : Datum) (ds : Items) (v : View) → IsView c a v
    → IsNamed c.source → ds ≡ datum_item d no_items_left → IsRight (quasi_form p ds)
    → MakeAll c.source.nodes.now xs [] (quasi.template d 0 ∷ []) → Puts a b (part_steps p xs)
    → Turns c a b (seen c (quasi_form p ds) v)
quasi_turns c a b p xs d ds v i n e r h put =
    let form : quasi_form p ds ≡ Quasi p (template d 0) = ap (quasi_form p) e in
    let right : in_template (read (quasi.template d 0)) ≡ [] =
    ap in_template (read_template d 0) ∙ (sym (ap in_exp form) ∙ r)
    in
    let same : stacked c p v (quasi.template d 0 ∷ []) ≡ seen c (quasi_form p ds) v =
    ap (λ t. visit c (template_core t p (scope_of c v)) v) (read_template d 0) ∙ ap (λ f. seen c f v) (sym form)
    in
    puts_turn c a b v (seen c (quasi_form p ds) v) (part_steps p xs) i put
    (come_as c (part_steps p xs) v (stacked c p v (quasi.template d 0 ∷ [])) (seen c (quasi_form p ds) v) same
    (steps_come c p v xs [] (quasi.template d 0 ∷ []) n h (right, tt)))

-- Steps that a loop puts, from the last to the first

pub record PartsPut (a b : Expander) (p : Pos) (rest all : List Part) : Type 0 where
  pub done : List Part
  pub whole : all ≡ rest ++ done
  pub puts : Puts a b (part_steps p done)

pub no_parts_put : (a : Expander) (p : Pos) (xs : List Part) → PartsPut a a p xs xs
no_parts_put a p xs = record { done = []; whole = sym (append-nil xs); puts = puts_nothing a a (same_self a) refl }

pub last_part_put : (a b e : Expander) (p : Pos) (rest others all : List Part) (x : Part) → PartsPut a b p rest all
    → rest ≡ others ++ x ∷ [] → Puts b e (part_step p x ∷ []) → PartsPut a e p others all
last_part_put a b e p rest others all x i split put = record {
  done = x ∷ i.done;
  whole = i.whole ∙ (ap (λ l. l ++ i.done) split ∙ append_assoc others (x ∷ []) i.done);
  puts = puts_twice a b e (part_steps p i.done) (part_step p x ∷ []) i.puts put;
}

pub parts_put : (a b : Expander) (p : Pos) (rest all : List Part) → PartsPut a b p rest all → rest ≡ [] → Puts a b (part_steps p all)
parts_put a b p rest all i e =
    let P : List Part → Type 0 = λ l. Puts a b (part_steps p l) in subst P (sym (i.whole ∙ ap (λ l. l ++ i.done) e)) i.puts

pub none_unread : (xs : List Part) → length xs ≡ 0 → xs ≡ []
none_unread [] e = refl
none_unread (x ∷ xs) e = absurd (omega (arith, e))

-- a step that is no expression
pub other_step : (p : Pos) (x : Part) → ((id : ℕ) → x ≡ part.Expr id → ⊥) → part_step p x ≡ step.Template p x
other_step p (part.Expr id) h = absurd (h id refl)
other_step p (part.Datum id) h = refl
other_step p (part.Rest id from) h = refl
other_step p part.Cons h = refl
other_step p part.Join h = refl
other_step p part.Vector h = refl

pub made_in : (s t : Source) (xs : List Part) (d : Datum) → s ≡ t → MakeAll s.nodes.now xs [] (quasi.template d 0 ∷ [])
    → MakeAll t.nodes.now xs [] (quasi.template d 0 ∷ [])
made_in s t xs d e h = let P : Source → Type 0 = λ u. MakeAll u.nodes.now xs [] (quasi.template d 0 ∷ []) in subst P e h
