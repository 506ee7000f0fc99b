-- What is taken from the drafts that are made is what a view says, and so is what is made of it.
use Rattle.std.proofs.Common.{◌≡◌, ℕ, zero, suc, ◌+◌, List, [], ◌∷◌, ◌++◌, length, refl, sym, ap, subst, ◌∙◌, append-nil, append_assoc, arith}
use Rattle.draft_form.specs.declared.draft.Drafts.{Drafts as Table}
use Rattle.draft_form.specs.Drafts.{Draft, Drafts, none, item}
use Rattle.draft_form.specs.Drawn.{Names, Data, Drawn, AllDrawn}
use Rattle.draft_form.specs.Made.{Keeps}
use Rattle.draft_form.proofs.DraftsStay.{then_kept}
use Rattle.scheme_expand.specs.declared.make.Maker.{Maker}
use Rattle.scheme_expand.specs.declared.step.Step.{Step}
use Rattle.scheme_expand.specs.Making.{given, given_two, given_three, instead, left_of, taken, taken_before, ComesTo}
use Rattle.scheme_expand.specs.Stacks.{Draws, Gives, Makes, Takes}
use Rattle.scheme_expand.specs.Viewed.{AreHelpers, AreMade, IsMade, IsScope}
use Rattle.scheme_expand.specs.Views.{Context, View, leave, lowered, pushed}
use Rattle.scheme_expand.proofs.Scopes.{last_is, not_none}

pub comes_as : (c : Context) (s t : Step) (v w : View) → s ≡ t → ComesTo c s v w → ComesTo c t v w
comes_as c s t v w e h = let P : Step → Type 0 = λ x. ComesTo c x v w in subst P e h

pub makes_as : (s t : Step) (a b : Maker) (id : ℕ) → s ≡ t → Makes t a b id → Makes s a b id
makes_as s t a b id e h = λ c v w i comes. h c v w i (comes_as c s t v w e comes)

-- the view in which these are made
abbrev pub holding : View → List Draft → View
holding v ds = record { made = ds; bound = v.bound; flags = v.flags }

-- Drafts that are drawn

are_kept : (names : Names) (nodes : Data) (s t : Table) (ids : List ℕ) (ds : List Draft) → Keeps s t → AreMade names nodes s ids ds
    → AreMade names nodes t ids ds
are_kept names nodes s t ids [] k h = h
are_kept names nodes s t ids (d ∷ ds) k h =
    (h.0, h.1, h.2, k.one names nodes h.1 d h.3, are_kept names nodes s t h.0 ds k h.4)

pub made_kept : (c : Context) (a b : Maker) (v : View) → Draws a b → IsMade c a v → IsMade c b v
made_kept c a b v h i =
    let P : List ℕ → Type 0 = λ ids. AreMade c.names c.source.nodes.now b.drafts ids v.made in
    record {
      words = i.words;
      scope = subst (λ s. IsScope c.names s v.bound) (sym h.scope) i.scope;
      made = subst P (sym (ap (λ l. l.items) h.made)) (are_kept c.names c.source.nodes.now a.drafts b.drafts a.made.items v.made h.drafts i.made);
      helpers = subst (AreHelpers c.names) (sym h.helpers) i.helpers;
    }

pub draws_more : (a b d : Maker) → Draws a b → Draws b d → Draws a d
draws_more a b d h k =
    record {
      made = k.made ∙ h.made;
      helpers = k.helpers ∙ h.helpers;
      scope = k.scope ∙ h.scope;
      drafts = then_kept a.drafts b.drafts d.drafts h.drafts k.drafts;
    }

pub draws_none : (m : Maker) → Draws m m
draws_none m =
    record {
      made = refl;
      helpers = refl;
      scope = refl;
      drafts = record { one = λ names nodes id e h. h; all = λ names nodes ids es h. h };
    }

abbrev pub with_drafts : Maker → Table → Maker
with_drafts m t = record { alloc = m.alloc; helpers = m.helpers; scope = m.scope; drafts = t; made = m.made }

pub redrawn : (m : Maker) (t : Table) → Keeps m.drafts t → Draws m (with_drafts m t)
redrawn m t h = record { made = refl; helpers = refl; scope = refl; drafts = h }

-- a draft is put to the others
pub is_put : (c : Context) (a b : Maker) (id : ℕ) (w : View) → Gives c a id w → b.made.items ≡ a.made.items ++ id ∷ []
    → b.helpers ≡ a.helpers → b.scope ≡ a.scope → b.drafts ≡ a.drafts → IsMade c b w
is_put c a b id w h items helpers scope drafts =
    let P : View → Type 0 = λ v. IsMade c b v in
    subst P (sym h.is)
    (record {
      words = h.made.words;
      scope = subst (λ s. IsScope c.names s h.others.bound) (sym scope) h.made.scope;
      made = (
        a.made.items,
        id,
        items,
        subst (λ t. Drawn c.names c.source.nodes.now t id h.draft) (sym drafts) h.drawn,
        subst (λ t. AreMade c.names c.source.nodes.now t a.made.items h.others.made) (sym drafts) h.made.made,
      );
      helpers = subst (AreHelpers c.names) (sym helpers) h.made.helpers;
    })

pub draft_put : (c : Context) (a b : Maker) (id : ℕ) (d : Draft) (v : View) → IsMade c a v → Keeps a.drafts b.drafts
    → Drawn c.names c.source.nodes.now b.drafts id d → b.made.items ≡ a.made.items ++ id ∷ [] → b.helpers ≡ a.helpers → b.scope ≡ a.scope
    → IsMade c b (pushed d v)
draft_put c a b id d v i keeps drawn items helpers scope =
    record {
      words = i.words;
      scope = subst (λ s. IsScope c.names s v.bound) (sym scope) i.scope;
      made = (a.made.items, id, items, drawn, are_kept c.names c.source.nodes.now a.drafts b.drafts a.made.items v.made keeps i.made);
      helpers = subst (AreHelpers c.names) (sym helpers) i.helpers;
    }

-- a draft of what is left
pub is_given : (c : Context) (m n : Maker) (id : ℕ) (v w : View) (ds : List Draft) (d : Draft) → IsMade c m (holding v ds) → Draws m n
    → Drawn c.names c.source.nodes.now n.drafts id d → w ≡ instead v ds d → Gives c n id w
is_given c m n id v w ds d i draws drawn e =
    record { draft = d; others = holding v ds; is = e; drawn = drawn; made = made_kept c m n (holding v ds) draws i }

-- One draft is taken

pub record One (c : Context) (m : Maker) (id : ℕ) (v : View) : Type 0 where
  pub draft : Draft
  pub others : List Draft
  pub are : v.made ≡ draft ∷ others
  pub drawn : Drawn c.names c.source.nodes.now m.drafts id draft
  pub made : IsMade c m (holding v others)

pub one_taken : (c : Context) (a b : Maker) (id : ℕ) (v : View) → IsMade c a v → Takes a b (id ∷ []) → One c b id v
one_taken c a b id v i h = by_made v.made refl i.made
  where
    by_made : (ds : List Draft) → v.made ≡ ds → AreMade c.names c.source.nodes.now a.drafts a.made.items ds → One c b id v
    by_made [] e empty = absurd (not_none b.made.items id (sym h.made ∙ empty))
    by_made (d ∷ ds) e made =
        let same = last_is made.0 b.made.items made.1 id (sym made.2 ∙ h.made) in
        let P : ℕ → Type 0 = λ k. Drawn c.names c.source.nodes.now b.drafts k d in
        let Q : List ℕ → Type 0 = λ ids. AreMade c.names c.source.nodes.now b.drafts ids ds in
        record {
          draft = d;
          others = ds;
          are = e;
          drawn = subst P same.1 (subst (λ t. Drawn c.names c.source.nodes.now t made.1 d) (sym h.drafts) made.3);
          made =
              record {
                words = i.words;
                scope = subst (λ s. IsScope c.names s v.bound) (sym h.scope) i.scope;
                made = subst Q same.0 (subst (λ t. AreMade c.names c.source.nodes.now t made.0 ds) (sym h.drafts) made.4);
                helpers = subst (AreHelpers c.names) (sym h.helpers) i.helpers;
              };
        }

pub one_given : (c : Context) (m n : Maker) (x id : ℕ) (v w : View) (f : Draft → Draft) → One c m x v → Draws m n
    → ((d : Draft) → Drawn c.names c.source.nodes.now m.drafts x d → Drawn c.names c.source.nodes.now n.drafts id (f d))
    → w ≡ given v v.made f → Gives c n id w
one_given c m n x id v w f h draws drawn e =
    is_given c m n id v w h.others (f h.draft) h.made draws (drawn h.draft h.drawn) (e ∙ ap (λ ds. given v ds f) h.are)

-- Two and three drafts are taken, the last first

still_drawn : (c : Context) (a b : Maker) (ids : List ℕ) (id : ℕ) (d : Draft) → Takes a b ids → Drawn c.names c.source.nodes.now a.drafts id d
    → Drawn c.names c.source.nodes.now b.drafts id d
still_drawn c a b ids id d h drawn = subst (λ t. Drawn c.names c.source.nodes.now t id d) (sym h.drafts) drawn

pub record Two (c : Context) (m : Maker) (x y : ℕ) (v : View) : Type 0 where
  pub first : Draft
  pub second : Draft
  pub others : List Draft
  pub are : v.made ≡ first ∷ second ∷ others
  pub first_drawn : Drawn c.names c.source.nodes.now m.drafts x first
  pub second_drawn : Drawn c.names c.source.nodes.now m.drafts y second
  pub made : IsMade c m (holding v others)

pub two_taken : (c : Context) (a b d : Maker) (x y : ℕ) (v : View) → IsMade c a v → Takes a b (x ∷ []) → Takes b d (y ∷ [])
    → Two c d x y v
two_taken c a b d x y v i h k =
    let one = one_taken c a b x v i h in
    let other = one_taken c b d y (holding v one.others) one.made k in
    record {
      first = one.draft;
      second = other.draft;
      others = other.others;
      are = one.are ∙ ap (λ ds. one.draft ∷ ds) other.are;
      first_drawn = still_drawn c b d (y ∷ []) x one.draft k one.drawn;
      second_drawn = other.drawn;
      made = other.made;
    }

pub two_given : (c : Context) (m n : Maker) (x y id : ℕ) (v w : View) (f : Draft → Draft → Draft) → Two c m x y v → Draws m n
    → ((d e : Draft) → Drawn c.names c.source.nodes.now m.drafts x d → Drawn c.names c.source.nodes.now m.drafts y e → Drawn c.names c.source.nodes.now n.drafts id (f d e))
    → w ≡ given_two v v.made f → Gives c n id w
two_given c m n x y id v w f h draws drawn e =
    is_given c m n id v w h.others (f h.first h.second) h.made draws (drawn h.first h.second h.first_drawn h.second_drawn)
    (e ∙ ap (λ ds. given_two v ds f) h.are)

pub record Three (c : Context) (m : Maker) (x y z : ℕ) (v : View) : Type 0 where
  pub first : Draft
  pub second : Draft
  pub third : Draft
  pub others : List Draft
  pub are : v.made ≡ first ∷ second ∷ third ∷ others
  pub first_drawn : Drawn c.names c.source.nodes.now m.drafts x first
  pub second_drawn : Drawn c.names c.source.nodes.now m.drafts y second
  pub third_drawn : Drawn c.names c.source.nodes.now m.drafts z third
  pub made : IsMade c m (holding v others)

pub three_taken : (c : Context) (a b d e : Maker) (x y z : ℕ) (v : View) → IsMade c a v → Takes a b (x ∷ []) → Takes b d (y ∷ [])
    → Takes d e (z ∷ []) → Three c e x y z v
three_taken c a b d e x y z v i h k l =
    let two = two_taken c a b d x y v i h k in
    let other = one_taken c d e z (holding v two.others) two.made l in
    record {
      first = two.first;
      second = two.second;
      third = other.draft;
      others = other.others;
      are = two.are ∙ ap (λ ds. two.first ∷ two.second ∷ ds) other.are;
      first_drawn = still_drawn c d e (z ∷ []) x two.first l two.first_drawn;
      second_drawn = still_drawn c d e (z ∷ []) y two.second l two.second_drawn;
      third_drawn = other.drawn;
      made = other.made;
    }

pub three_given : (c : Context) (m n : Maker) (x y z id : ℕ) (v w : View) (f : Draft → Draft → Draft → Draft) → Three c m x y z v → Draws m n
    → ((d e g : Draft) → Drawn c.names c.source.nodes.now m.drafts x d → Drawn c.names c.source.nodes.now m.drafts y e → Drawn c.names c.source.nodes.now m.drafts z g → Drawn c.names c.source.nodes.now n.drafts id (f d e g))
    → w ≡ given_three v v.made f → Gives c n id w
three_given c m n x y z id v w f h draws drawn e =
    is_given c m n id v w h.others (f h.first h.second h.third) h.made draws
    (drawn h.first h.second h.third h.first_drawn h.second_drawn h.third_drawn)
    (e ∙ ap (λ ds. given_three v ds f) h.are)

-- Several drafts are taken

record Ended (ids : List ℕ) (n : ℕ) : Type 0 where
  before : List ℕ
  last : ℕ
  are : ids ≡ before ++ last ∷ []
  many : length before ≡ n

ended : (ids : List ℕ) (n : ℕ) → length ids ≡ suc n → Ended ids n
ended [] n e = absurd (omega (arith, e))
ended (id ∷ []) n e = record { before = []; last = id; are = refl; many = omega (arith, e) }
ended (id ∷ next ∷ ids) zero e = absurd (omega (arith, e))
ended (id ∷ next ∷ ids) (suc n) e =
    let count : length (next ∷ ids) ≡ suc n = omega (arith, e) in
    let more = ended (next ∷ ids) n count in
    record { before = id ∷ more.before; last = more.last; are = ap (λ l. id ∷ l) more.are; many = ap suc more.many }

record Split (names : Names) (nodes : Data) (t : Table) (before drawn : List ℕ) (ds : List Draft) (es : Drafts) : Type 0 where
  all : AllDrawn names nodes t drawn es
  left : AreMade names nodes t before ds

split : (names : Names) (nodes : Data) (t : Table) (n : ℕ) (ds : List Draft) (whole before ids more : List ℕ) (es : Drafts)
    → AreMade names nodes t whole ds → whole ≡ before ++ ids → length ids ≡ n → AllDrawn names nodes t more es
    → Split names nodes t before (ids ++ more) (left_of n ds) (taken_before n ds es)
split names nodes t zero ds whole before [] more es h e count drawn =
    record { all = drawn; left = subst (λ l. AreMade names nodes t l ds) (e ∙ append-nil before) h }
split names nodes t zero ds whole before (id ∷ ids) more es h e count drawn = absurd (omega (arith, count))
split names nodes t (suc n) [] whole before ids more es h e count drawn =
    let last = ended ids n count in
    absurd (not_none (before ++ last.before) last.last (append_assoc before last.before (last.last ∷ []) ∙ (ap (λ l. before ++ l) (sym last.are) ∙ (sym e ∙ h))))
split names nodes t (suc n) (d ∷ ds) whole before ids more es h e count drawn =
    let last = ended ids n count in
    let same = last_is h.0 (before ++ last.before) h.1 last.last (sym h.2 ∙ (e ∙ (ap (λ l. before ++ l) last.are ∙ sym (append_assoc before last.before (last.last ∷ []))))) in
    let here : Drawn names nodes t last.last d = subst (λ k. Drawn names nodes t k d) same.1 h.3 in
    let rest =
    split names nodes t n ds h.0 before last.before (last.last ∷ more) (item d es) h.4 same.0 last.many (last.last, more, refl, here, drawn) in
    let whole_is : last.before ++ last.last ∷ more ≡ ids ++ more =
    sym (append_assoc last.before (last.last ∷ []) more) ∙ ap (λ l. l ++ more) (sym last.are) in
    record { all = subst (λ l. AllDrawn names nodes t l (taken_before n ds (item d es))) whole_is rest.all; left = rest.left }

pub record Several (c : Context) (m : Maker) (ids : List ℕ) (n : ℕ) (v : View) : Type 0 where
  pub drawn : AllDrawn c.names c.source.nodes.now m.drafts ids (taken n v.made)
  pub made : IsMade c m (holding v (left_of n v.made))

pub several_taken : (c : Context) (a b : Maker) (ids : List ℕ) (n : ℕ) (v : View) → IsMade c a v → Takes a b ids → length ids ≡ n
    → Several c b ids n v
several_taken c a b ids n v i h count =
    let made : AreMade c.names c.source.nodes.now b.drafts a.made.items v.made =
    subst (λ t. AreMade c.names c.source.nodes.now t a.made.items v.made) (sym h.drafts) i.made in
    let parts = split c.names c.source.nodes.now b.drafts n v.made a.made.items b.made.items ids [] none made h.made count refl in
    record {
      drawn = subst (λ l. AllDrawn c.names c.source.nodes.now b.drafts l (taken n v.made)) (append-nil ids) parts.all;
      made =
          record {
            words = i.words;
            scope = subst (λ s. IsScope c.names s v.bound) (sym h.scope) i.scope;
            made = parts.left;
            helpers = subst (AreHelpers c.names) (sym h.helpers) i.helpers;
          };
    }

pub several_still : (c : Context) (a b : Maker) (ids all : List ℕ) (es : Drafts) → Takes a b ids → AllDrawn c.names c.source.nodes.now a.drafts all es
    → AllDrawn c.names c.source.nodes.now b.drafts all es
several_still c a b ids all es h drawn = subst (λ t. AllDrawn c.names c.source.nodes.now t all es) (sym h.drafts) drawn

pub several_given : (c : Context) (m n : Maker) (ids : List ℕ) (many id : ℕ) (v w : View) (f : Drafts → Draft) → Several c m ids many v → Draws m n
    → ((es : Drafts) → AllDrawn c.names c.source.nodes.now m.drafts ids es → Drawn c.names c.source.nodes.now n.drafts id (f es))
    → w ≡ instead v (left_of many v.made) (f (taken many v.made)) → Gives c n id w
several_given c m n ids many id v w f h draws drawn e =
    is_given c m n id v w (left_of many v.made) (f (taken many v.made)) h.made draws (drawn (taken many v.made) h.drawn) e

-- Variables are left

pub made_left : (c : Context) (a b : Maker) (v : View) (k : ℕ) → IsMade c a v → IsScope c.names b.scope (lowered k v.bound) → b.made ≡ a.made
    → b.helpers ≡ a.helpers → b.drafts ≡ a.drafts → IsMade c b (leave k v)
made_left c a b v k i scope made helpers drafts =
    record {
      words = i.words;
      scope = scope;
      made =
          subst (λ t. AreMade c.names c.source.nodes.now t b.made.items v.made) (sym drafts)
          (subst (λ ids. AreMade c.names c.source.nodes.now a.drafts ids v.made) (sym (ap (λ l. l.items) made)) i.made);
      helpers = subst (AreHelpers c.names) (sym helpers) i.helpers;
    }
