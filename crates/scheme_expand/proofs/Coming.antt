-- What calls come to, one after another: `Puts`, `Leaves` and `Turns`, and the steps that come to a view.
--
-- `one_comes`, `next_comes`, `come_append`, `last_comes`, `come_as`: lists of steps, of which the last is done first.
-- `puts_nothing`, `puts_twice`: calls that put steps. `view_kept`: they keep the view. `puts_turn`, `leaves_turn`:
-- what such calls turn a view to. `put_then_turn`, `leave_then_turn`, `leave_then_leave`, `leave_then_put`: a call
-- that turns the view is the last. `nothing_turns`: a call that does nothing.
-- `turns_as`, `leaves_as`: the same view, written otherwise. `rescoped`, `remade`:
-- other variables are bound, or drafts made. `step_reached`, `all_reached`: what is left to be done, turn by turn.
use Rattle.std.proofs.Common.{ℕ, ◌≡◌, List, [], ◌∷◌, ◌++◌, length, refl, sym, ap, subst, ◌∙◌, append_assoc, append-nil}
use Rattle.scheme_expand.specs.declared.expander.Expander.{Expander}
use Rattle.scheme_expand.specs.declared.step.Step.{Step}
use Rattle.scheme_expand.specs.declared.make.Maker.{Maker}
use Rattle.scheme_expand.specs.declared.words.Helpers.{Helpers}
use Rattle.scheme_expand.specs.Making.{ComesTo, AllCome}
use Rattle.scheme_expand.specs.Viewed.{AreFree, AreHelpers, AreMade, IsMade, IsScope, IsView, Same, Puts, Leaves, Turns}
use Rattle.scheme_expand.specs.Views.{Context, View, Bound}
use Rattle.scheme_expand.proofs.Noting.{view_of}
use Rattle.draft_form.specs.declared.draft.Drafts.{Drafts as Table}

-- Steps

pub comes_as : (c : Context) (x : Step) (v w z : View) → w ≡ z → ComesTo c x v w → ComesTo c x v z
comes_as c x v w z e h = let P : View → Type 0 = λ u. ComesTo c x v u in subst P e h

pub come_as : (c : Context) (xs : List Step) (v w z : View) → w ≡ z → AllCome c xs v w → AllCome c xs v z
come_as c xs v w z e h = let P : View → Type 0 = λ u. AllCome c xs v u in subst P e h

pub come_from : (c : Context) (xs : List Step) (u v w : View) → u ≡ v → AllCome c xs u w → AllCome c xs v w
come_from c xs u v w e h = let P : View → Type 0 = λ z. AllCome c xs z w in subst P e h

pub one_comes : (c : Context) (x : Step) (v w : View) → ComesTo c x v w → AllCome c (x ∷ []) v w
one_comes c x v w h = (v, refl, h)

-- a step that is done after others
pub next_comes : (c : Context) (x : Step) (xs : List Step) (v u w : View) → AllCome c xs v u → ComesTo c x u w
    → AllCome c (x ∷ xs) v w
next_comes c x xs v u w h i = (u, h, i)

-- the second steps are done first
pub come_append : (c : Context) (xs ys : List Step) (v u w : View) → AllCome c ys v u → AllCome c xs u w
    → AllCome c (xs ++ ys) v w
come_append c [] ys v u w h i = come_as c ys v u w (sym i) h
come_append c (x ∷ xs) ys v u w h i = (i.0, come_append c xs ys v u i.0 h i.1, i.2)

pub record LastComes (c : Context) (xs : List Step) (one : Step) (v w : View) : Type 0 where
  pub between : View
  pub first : ComesTo c one v between
  pub others : AllCome c xs between w

-- the last step is done, then the others
pub last_comes : (c : Context) (xs : List Step) (one : Step) (v w : View) → AllCome c (xs ++ one ∷ []) v w
    → LastComes c xs one v w
last_comes c [] one v w h = record {
  between = w;
  first = let P : View → Type 0 = λ u. ComesTo c one u w in subst P h.1 h.2;
  others = refl;
}
last_comes c (x ∷ xs) one v w h =
    let r = last_comes c xs one v h.0 h.1 in
    record { between = r.between; first = r.first; others = (h.0, r.others, h.2) }

-- Calls that put steps

pub puts_nothing : (a b : Expander) → Same a b → b.steps.items ≡ a.steps.items → Puts a b []
puts_nothing a b s e = record { same = s; steps = e ∙ sym (append-nil a.steps.items) }

pub same_twice : (a b d : Expander) → Same a b → Same b d → Same a d
same_twice a b d p q = record {
  source = q.source ∙ p.source;
  library = q.library ∙ p.library;
  changed = q.changed ∙ p.changed;
  maker = q.maker ∙ p.maker;
}

longer : (a b d p q : List Step) → b ≡ a ++ p → d ≡ b ++ q → d ≡ a ++ (p ++ q)
longer a b d p q e f = f ∙ (ap (λ l. l ++ q) e ∙ append_assoc a p q)

pub puts_twice : (a b d : Expander) (ps qs : List Step) → Puts a b ps → Puts b d qs → Puts a d (ps ++ qs)
puts_twice a b d ps qs p q = record {
  same = same_twice a b d p.same q.same;
  steps = longer a.steps.items b.steps.items d.steps.items ps qs p.steps q.steps;
}

-- such a call keeps the view
pub view_kept : (c : Context) (a b : Expander) (v : View) → Same a b → IsView c a v → IsView c b v
view_kept c a b v s i = record {
  fits = i.fits;
  source = s.source ∙ i.source;
  library = subst (λ l. AreFree c.names c.side l.now) (sym s.library) i.library;
  flags = ap (λ f. f.items) s.changed ∙ i.flags;
  size = i.size;
  made = subst (λ (m : Maker). IsMade c m v) (sym s.maker) i.made;
}

-- all but what is made and bound, and what is noted, stays
pub record Remade (before after : Expander) : Type 0 where
  pub source : after.source ≡ before.source
  pub library : after.library ≡ before.library
  pub changed : after.changed ≡ before.changed

pub remade : (c : Context) (a b : Expander) (v w : View) → IsView c a v → Remade a b → w.flags ≡ v.flags
    → IsMade c b.maker w → IsView c b w
remade c a b v w i s e m = record {
  fits = i.fits;
  source = s.source ∙ i.source;
  library = subst (λ l. AreFree c.names c.side l.now) (sym s.library) i.library;
  flags = ap (λ f. f.items) s.changed ∙ (i.flags ∙ sym e);
  size = ap (λ fs. length fs) e ∙ i.size;
  made = m;
}

-- all but the variables that are bound stays
pub record Rescoped (before after : Maker) : Type 0 where
  pub made : after.made ≡ before.made
  pub drafts : after.drafts ≡ before.drafts
  pub helpers : after.helpers ≡ before.helpers

pub made_rescoped : (c : Context) (m n : Maker) (v : View) (bs : List Bound) → IsMade c m v → Rescoped m n
    → IsScope c.names n.scope bs → IsMade c n (view_of v.made bs v.flags)
made_rescoped c m n v bs i s scope =
    let P : Table → Type 0 = λ t. AreMade c.names c.source.nodes.now t n.made.items v.made in
    let Q : List ℕ → Type 0 = λ ids. AreMade c.names c.source.nodes.now m.drafts ids v.made in
    let R : Helpers → Type 0 = λ h. AreHelpers c.names h in
    record {
      words = i.words;
      scope = scope;
      made = subst P (sym s.drafts) (subst Q (sym (ap (λ v. v.items) s.made)) i.made);
      helpers = subst R (sym s.helpers) i.helpers;
    }

-- other variables are bound
pub rescoped : (c : Context) (a b : Expander) (v : View) (bs : List Bound) → IsView c a v → Remade a b
    → Rescoped a.maker b.maker → IsScope c.names b.maker.scope bs → IsView c b (view_of v.made bs v.flags)
rescoped c a b v bs i s t scope =
    remade c a b v (view_of v.made bs v.flags) i s refl (made_rescoped c a.maker b.maker v bs i.made t scope)

-- What calls turn a view to

pub turns_as : (c : Context) (a b : Expander) (w z : View) → w ≡ z → Turns c a b w → Turns c a b z
turns_as c a b w z e t = let P : View → Type 0 = λ u. Turns c a b u in subst P e t

pub leaves_as : (c : Context) (a b : Expander) (w z : View) → w ≡ z → Leaves c a b w → Leaves c a b z
leaves_as c a b w z e l = let P : View → Type 0 = λ u. Leaves c a b u in subst P e l

pub puts_turn : (c : Context) (a b : Expander) (v w : View) (ps : List Step) → IsView c a v → Puts a b ps
    → AllCome c ps v w → Turns c a b w
puts_turn c a b v w ps i p h = record {
  put = ps;
  steps = p.steps;
  now = v;
  view = view_kept c a b v p.same i;
  comes = h;
}

pub leaves_turn : (c : Context) (a b : Expander) (w : View) → Leaves c a b w → Turns c a b w
leaves_turn c a b w l = record {
  put = [];
  steps = l.steps ∙ sym (append-nil a.steps.items);
  now = w;
  view = l.view;
  comes = refl;
}

-- nothing is done
pub stays : (c : Context) (a : Expander) (v : View) → IsView c a v → Leaves c a a v
stays c a v i = record { steps = refl; view = i }

pub nothing_turns : (c : Context) (a : Expander) (v w : View) → IsView c a v → v ≡ w → Turns c a a w
nothing_turns c a v w i e = turns_as c a a v w e (leaves_turn c a a v (stays c a v i))

-- what the first call put is done after what the second one comes to
pub put_then_turn : (c : Context) (a b d : Expander) (ps : List Step) (u w : View) → Puts a b ps → Turns c b d u
    → AllCome c ps u w → Turns c a d w
put_then_turn c a b d ps u w p t h = record {
  put = ps ++ t.put;
  steps = longer a.steps.items b.steps.items d.steps.items ps t.put p.steps t.steps;
  now = t.now;
  view = t.view;
  comes = come_append c ps t.put t.now u w t.comes h;
}

pub leave_then_turn : (c : Context) (a b d : Expander) (u w : View) → Leaves c a b u → Turns c b d w → Turns c a d w
leave_then_turn c a b d u w l t = record {
  put = t.put;
  steps = t.steps ∙ ap (λ s. s ++ t.put) l.steps;
  now = t.now;
  view = t.view;
  comes = t.comes;
}

pub leave_then_leave : (c : Context) (a b d : Expander) (u w : View) → Leaves c a b u → Leaves c b d w → Leaves c a d w
leave_then_leave c a b d u w l m = record { steps = m.steps ∙ l.steps; view = m.view }

pub put_then_leave : (c : Context) (a b d : Expander) (w : View) → Puts a b [] → Leaves c b d w → Leaves c a d w
put_then_leave c a b d w p l = record { steps = l.steps ∙ (p.steps ∙ append-nil a.steps.items); view = l.view }

-- at once, then by steps
pub leave_then_put : (c : Context) (a b d : Expander) (u w : View) (ps : List Step) → Leaves c a b u → Puts b d ps
    → AllCome c ps u w → Turns c a d w
leave_then_put c a b d u w ps l p h = leave_then_turn c a b d u w l (puts_turn c b d u w ps l.view p h)

-- What is left to be done

-- the steps that wait bring the view to this one
pub record Reaches (c : Context) (x : Expander) (w : View) : Type 0 where
  pub now : View
  pub view : IsView c x now
  pub comes : AllCome c x.steps.items now w

-- the last step is taken and done
pub step_reached : (c : Context) (now popped after : Expander) (one : Step) (w : View) → Reaches c now w
    → now.steps.items ≡ popped.steps.items ++ one ∷ [] → Same now popped
    → ((v u : View) → IsView c popped v → ComesTo c one v u → Turns c popped after u) → Reaches c after w
step_reached c now popped after one w r items same step =
    let P : List Step → Type 0 = λ xs. AllCome c xs r.now w in
    let l = last_comes c popped.steps.items one r.now w (subst P items r.comes) in
    let t = step r.now l.between (view_kept c now popped r.now same r.view) l.first in
    let Q : List Step → Type 0 = λ xs. AllCome c xs t.now w in
    record {
      now = t.now;
      view = t.view;
      comes = subst Q (sym t.steps) (come_append c popped.steps.items t.put t.now l.between w t.comes l.others);
    }

-- no step waits
pub all_reached : (c : Context) (x : Expander) (w : View) → Reaches c x w → x.steps.items ≡ [] → IsView c x w
all_reached c x w r e =
    let P : List Step → Type 0 = λ xs. AllCome c xs r.now w in
    let Q : View → Type 0 = λ v. IsView c x v in
    subst Q (sym (subst P e r.comes)) r.view
