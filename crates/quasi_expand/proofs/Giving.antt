-- The steps of a datum, of what is marked in it and of a vector.
use Rattle.std.proofs.Common.{ℕ, zero, suc, ◌≡◌, ◌-◌, List as Seq, [], ◌∷◌, ◌++◌, Bool, true, false, refl, sym, ap, subst, ◌∙◌, arith}
use Rattle.std.specs.Prelude.{codes}
use Rattle.scheme_base.specs.declared.pos.Pos.{Pos}
use Rattle.scheme_base.specs.Constants.{Constant, Constant as constant}
use Rattle.datum_form.specs.declared.datums.Node.{Node}
use Rattle.datum_form.specs.declared.token.Atom.TheVariants.{Symbol}
use Rattle.datum_form.specs.Data.{Datum, Datum as datum, Items}
use Rattle.datum_form.specs.Stands.{Stands}
use Rattle.draft_form.specs.Quoted.{constant_of, constants}
use Rattle.quasi_expand.specs.declared.template.Marked.{Marked}
use Rattle.quasi_expand.specs.declared.template.Part.{Part}
use Rattle.quasi_expand.specs.declared.template.Part.TheVariants as part
use Rattle.quasi_expand.specs.Making.{value}
use Rattle.quasi_expand.specs.Steps.{Puts, Gives, MayGive, GivesAt, IsMarked}
use Rattle.quasi_expand.specs.Templates.{Template, Plain, Unquoted, Spliced, Pair, Vector, is_plain, pair_of, vector_of, marked, unquoted, spliced, template, template_list}
use Rattle.quasi_expand.proofs.Listing.{gives_as, may_as, longer_twice}
use Rattle.quasi_expand.proofs.PlainTemplates.{Writes, written}
use Rattle.quasi_expand.proofs.Stacks.{then_all, one_step, plain_is, live_car, live_cdr, real_pair}

-- Data as they stand

-- a literal is the datum of a node
pub node_given : (nodes : Seq Node) (id : ℕ) (a b : Seq Part) (d : Datum) (t : Template) → Stands nodes id d
    → b ≡ a ++ part.Datum id ∷ [] → Writes t (constant_of d) → is_plain t ≡ true → Gives nodes false a b t
node_given nodes id a b d t h put writes plain =
    let l = plain_is t plain in
    let same : t ≡ Plain (constant_of d) = l.1 ∙ ap Plain (writes l.0 l.1) in
    (part.Datum id, put, λ s. (constant_of d, (d, h, refl), ap (λ x. x ∷ s) same), plain)

pub at_given : (nodes : Seq Node) (id : ℕ) (found : Bool) (a b : Seq Part) (d : Datum) (n : ℕ) (t : Template) → Stands nodes id d
    → t ≡ template d n → GivesAt nodes id found a b t → Gives nodes found a b (template d n)
at_given nodes id true a b d n t h same g = gives_as nodes true a b t (template d n) same g
at_given nodes id false a b d n t h same g =
    node_given nodes id a b d (template d n) h g.0 (written d n) (ap is_plain (sym same) ∙ g.1)

pub at_found : (nodes : Seq Node) (id : ℕ) (f g : Bool) (a b : Seq Part) (t : Template) → f ≡ g → GivesAt nodes id f a b t
    → GivesAt nodes id g a b t
at_found nodes id f g a b t e h = let P : Bool → Type 0 = λ k. GivesAt nodes id k a b t in subst P e h

-- Vectors

real_vector : (k : Constant) (t : Template) → is_plain t ≡ false → vector_of k t ≡ Vector t
real_vector k (Plain c) h = absurd (cc)
real_vector k (Unquoted d) h = refl
real_vector k (Spliced d t) h = refl
real_vector k (Pair s t) h = refl
real_vector k (Vector t) h = refl

plain_vector : (k : Constant) (t : Template) → is_plain t ≡ true → is_plain (vector_of k t) ≡ true
plain_vector k t h = let l = plain_is t h in ap (λ x. is_plain (vector_of k x)) l.1

-- the items of a vector have an expression
pub vector_put : (nodes : Seq Node) (id : ℕ) (a b e : Seq Part) (k : Constant) (t : Template) → GivesAt nodes id true a b t
    → e ≡ b ++ part.Vector ∷ [] → Puts nodes a e (vector_of k t)
vector_put nodes id a b e k t p put =
    let same : vector_of k t ≡ Vector t = real_vector k t p.live in
    record {
      more = p.more ++ part.Vector ∷ [];
      longer = longer_twice a b e p.more (part.Vector ∷ []) p.longer put;
      make =
          λ s.
          then_all nodes p.more (part.Vector ∷ []) s (t ∷ s) (vector_of k t ∷ s) (p.make s)
          (one_step nodes part.Vector (t ∷ s) (vector_of k t ∷ s) (t, s, refl, ap (λ x. x ∷ s) same));
      live = ap is_plain same;
    }

-- they have none
pub vector_given : (nodes : Seq Node) (id : ℕ) (a b : Seq Part) (p : Pos) (ds : Items) (n : ℕ) → Stands nodes id (datum.Vector p ds)
    → GivesAt nodes id false a b (template_list ds n) → Gives nodes false a b (template (datum.Vector p ds) n)
vector_given nodes id a b p ds n h g =
    node_given nodes id a b (datum.Vector p ds) (template (datum.Vector p ds) n) h g.0 (written (datum.Vector p ds) n)
    (plain_vector (constant.Vector (constants ds)) (template_list ds n) g.1)

-- What is marked

-- the list of a word and a template in which an expression stands
pub marked_put : (nodes : Seq Node) (x : Seq ℕ) (m : Marked) (d : Datum) (t : Template) (a b c e g : Seq Part) → IsMarked nodes x m d
    → b ≡ a ++ part.Datum m.name ∷ [] → MayGive nodes true b c t → e ≡ c ++ part.Rest m.node m.count ∷ []
    → g ≡ e ++ part.Cons ∷ part.Cons ∷ [] → MayGive nodes true a g (marked x t)
marked_put nodes x m d t a b c e g is word p rest pairs =
    let name : Template = Plain (constant.Symbol x) in
    let nil : Template = Plain constant.Nil in
    let inner_live = live_car t nil p.live in
    let live = live_cdr name (pair_of t nil) inner_live in
    let last : Seq Part = part.Rest m.node m.count ∷ part.Cons ∷ part.Cons ∷ [] in
    record {
      more = part.Datum m.name ∷ (p.more ++ last);
      longer =
          longer_twice a b g (part.Datum m.name ∷ []) (p.more ++ last) word
          (longer_twice b c g p.more last p.longer
          (longer_twice c e g (part.Rest m.node m.count ∷ []) (part.Cons ∷ part.Cons ∷ []) rest pairs));
      make =
          λ s. (
            name ∷ s,
            (constant.Symbol x, (datum.Atomic is.place (Symbol x), is.named, refl), refl),
            then_all nodes p.more last (name ∷ s) (t ∷ name ∷ s) (marked x t ∷ s) (p.make (name ∷ s)) (
              nil ∷ t ∷ name ∷ s,
              (constant.Nil, is.last, refl),
              (
                pair_of t nil ∷ name ∷ s,
                (t, nil, name ∷ s, refl, ap (λ y. y ∷ name ∷ s) (real_pair t nil inner_live)),
                (marked x t ∷ s, (name, pair_of t nil, s, refl, ap (λ y. y ∷ s) (real_pair name (pair_of t nil) live)), refl),
              ),
            ),
          );
      live = live;
    }

-- what is unquoted at a level that is not 0
pub may_below : (nodes : Seq Node) (x : Seq ℕ) (found : Bool) (a b : Seq Part) (n m : ℕ) (e : Datum) → (n ≡ 0 → ⊥) → m ≡ n - 1
    → MayGive nodes found a b (marked x (template e m)) → MayGive nodes found a b (unquoted x n e (template e))
may_below nodes x found a b zero m e some same h = absurd (some refl)
may_below nodes x found a b (suc n) m e some same h =
    may_as nodes found a b (marked x (template e m)) (marked x (template e n))
    (ap (λ k. marked x (template e k)) (same ∙ omega arith)) h

pub spliced_value : (n : ℕ) (e : Datum) → unquoted (codes "unquote-splicing") n e (template e) ≡ value (spliced n e (template e))
spliced_value zero e = refl
spliced_value (suc n) e = refl
