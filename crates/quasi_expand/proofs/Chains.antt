-- The steps of a list or a vector, from those of its items and of its end.
use Rattle.std.proofs.Common.{ℕ, ◌≡◌, ◌+◌, ◌-◌, List as Seq, [], ◌∷◌, ◌++◌, length, take, drop, slice_range, Bool, true, false, not, Option, Some, None, refl, sym, ap, subst, ◌∙◌, append_assoc, length-append, arith}
use Rattle.std.proofs.lemmas.List.{take_at, drop_at, drop_all}
use Rattle.scheme_base.specs.Constants.{Constant, Constant as constant}
use Rattle.datum_form.specs.declared.datums.Node.{Node}
use Rattle.datum_form.specs.Data.{Datum, Items}
use Rattle.datum_form.specs.Data.Items.{none, item}
use Rattle.datum_form.specs.Stands.{StandAll}
use Rattle.draft_form.specs.Quoted.{constant_of, constant_list, IsTail, IsRestOf}
use Rattle.quasi_expand.specs.declared.template.Part.{Part}
use Rattle.quasi_expand.specs.declared.template.Part.TheVariants as part
use Rattle.quasi_expand.specs.declared.template.End.{End}
use Rattle.quasi_expand.specs.Levels.{joined}
use Rattle.quasi_expand.specs.Making.{onto, links}
use Rattle.quasi_expand.specs.Steps.{Puts, MayGive, GivesAt, Lists, TailStands, HasRests, IsSplit, tail_constant}
use Rattle.quasi_expand.specs.Templates.{Template, Entry, Plain, is_plain, all_before, template, template_chain, entries, entry}
use Rattle.quasi_expand.proofs.Listing.{joined_assoc, longer_twice, all_made, cut_back}
use Rattle.quasi_expand.proofs.PlainTemplates.{before_written}
use Rattle.quasi_expand.proofs.Stacks.{then_all, makes_as, all_before_append, all_live, each_live, all_plain, plain_is, linked}

live_as : (s t : Template) → s ≡ t → is_plain t ≡ false → is_plain s ≡ false
live_as s t e h = ap is_plain e ∙ h

-- an expression stands in the end
pub end_found : (nodes : Seq Node) (ids : Seq ℕ) (end : End) (ds : Items) (t : Option Datum) (plain n : ℕ) (found : Bool) (a b c e : Seq Part)
    → (s : IsSplit nodes ids end ds t) → Lists nodes plain found a b (entries s.items n) → Puts nodes b c (s.inside n)
    → e ≡ c ++ links (entries s.items n) → Puts nodes a e (template_chain ds t n)
end_found nodes ids end ds t plain n found a b c e s l p put =
    let es = entries s.items n in
    let rest = s.inside n in
    let this : Seq Part = l.first ++ l.later in
    let whole : Template = all_before es rest in
    record {
      more = this ++ (p.more ++ links es);
      longer = longer_twice a b e this (p.more ++ links es) l.longer (longer_twice b c e p.more (links es) p.longer put);
      make =
          λ u.
          makes_as nodes (this ++ (p.more ++ links es)) u (whole ∷ u) (template_chain ds t n ∷ u)
          (ap (λ x. x ∷ u) (sym (s.whole n)))
          (then_all nodes this (p.more ++ links es) u (onto es u) (whole ∷ u) (all_made nodes plain found a b es l u)
          (then_all nodes p.more (links es) (onto es u) (rest ∷ onto es u) (whole ∷ u) (p.make (onto es u))
          (linked nodes es rest u (each_live es rest p.live))));
      live = live_as (template_chain ds t n) whole (s.whole n) (all_live es rest p.live);
    }

pub not_found : (found : Bool) → not found ≡ true → found ≡ false
not_found true e = sym e
not_found false e = refl

-- none stands in the list
pub none_found : (nodes : Seq Node) (node : ℕ) (ids : Seq ℕ) (end : End) (ds : Items) (t : Option Datum) (plain n k : ℕ) (found : Bool) (a b c e g : Seq Part)
    → (s : IsSplit nodes ids end ds t) → Lists nodes plain found a b (entries s.items n) → MayGive nodes false b c (s.inside n)
    → found ≡ false → k ≡ length a → e ≡ take k c → g ≡ e ++ part.Datum node ∷ []
    → GivesAt nodes node false a g (template_chain ds t n)
none_found nodes node ids end ds t plain n k found a b c e g s l p lacks start cut put =
    let es = entries s.items n in
    let rest = s.inside n in
    let same : e ≡ a = cut ∙ cut_back a (l.first ++ l.later) c k start (p.0 ∙ l.longer) in
    let only : es ≡ l.back = l.are ∙ ap (λ x. x ++ l.back) (l.none_before lacks).0 in (
      put ∙ ap (λ x. x ++ part.Datum node ∷ []) same,
      ap is_plain (s.whole n ∙ ap (λ x. all_before x rest) only) ∙ all_plain l.back rest l.plain_later p.1,
    )

pub is_found : (found : Bool) → not found ≡ false → found ≡ true
is_found true e = refl
is_found false e = sym e

-- Items before others

record Parted (n : ℕ) (ds : Items) (front back : Seq Entry) : Type 0 where
  firsts : Items
  others : Items
  are : ds ≡ joined firsts others
  are_front : entries firsts n ≡ front
  are_back : entries others n ≡ back

parted : (n : ℕ) (ds : Items) (front back : Seq Entry) → entries ds n ≡ front ++ back → Parted n ds front back
parted n ds [] back e = record { firsts = none; others = ds; are = refl; are_front = refl; are_back = e }
parted n none (x ∷ front) back e = absurd (cc)
parted n (item d ds) (x ∷ front) back e =
    let this : entry d n (template d n) ≡ x = cc in
    let later : entries ds n ≡ front ++ back = cc in
    let r = parted n ds front back later in
    record {
      firsts = item d r.firsts;
      others = r.others;
      are = ap (item d) r.are;
      are_front = ap (λ l. entry d n (template d n) ∷ l) r.are_front ∙ ap (λ y. y ∷ front) this;
      are_back = r.are_back;
    }

record Halves (nodes : Seq Node) (ids : Seq ℕ) (n : ℕ) (ds es : Items) : Type 0 where
  front : Seq ℕ
  back : Seq ℕ
  are : ids ≡ front ++ back
  many : length front ≡ length (entries ds n)
  stand : StandAll nodes front ds
  stand_back : StandAll nodes back es

halves : (nodes : Seq Node) (ids : Seq ℕ) (n : ℕ) (ds es : Items) → StandAll nodes ids (joined ds es) → Halves nodes ids n ds es
halves nodes ids n none es h = record { front = []; back = ids; are = refl; many = refl; stand = refl; stand_back = h }
halves nodes ids n (item d ds) es h =
    let r = halves nodes h.1 n ds es h.4 in
    record {
      front = h.0 ∷ r.front;
      back = r.back;
      are = h.2 ∙ ap (λ l. h.0 ∷ l) r.are;
      many = omega (arith, r.many);
      stand = (h.0, r.front, refl, h.3, r.stand);
      stand_back = r.stand_back;
    }

front_stands : (nodes : Seq Node) (ids : Seq ℕ) (n m : ℕ) (ds es : Items) → m ≡ length (entries ds n)
    → StandAll nodes ids (joined ds es) → StandAll nodes (take m ids) ds
front_stands nodes ids n m ds es e h =
    let r = halves nodes ids n ds es h in
    let P : Seq ℕ → Type 0 = λ l. StandAll nodes l ds in
    subst P (sym (ap (take m) r.are ∙ take_at r.front r.back m (r.many ∙ sym e))) r.stand

back_stands : (nodes : Seq Node) (ids : Seq ℕ) (n m : ℕ) (ds es : Items) → m ≡ length (entries ds n)
    → StandAll nodes ids (joined ds es) → StandAll nodes (drop m ids) es
back_stands nodes ids n m ds es e h =
    let r = halves nodes ids n ds es h in
    let P : Seq ℕ → Type 0 = λ l. StandAll nodes l es in
    subst P (sym (ap (drop m) r.are ∙ drop_at r.front r.back m (r.many ∙ sym e))) r.stand_back

as_many : (nodes : Seq Node) (ids : Seq ℕ) (n : ℕ) (ds : Items) → StandAll nodes ids ds → length ids ≡ length (entries ds n)
as_many nodes ids n none h = ap length h
as_many nodes ids n (item d ds) h =
    let r = as_many nodes h.1 n ds h.4 in
    ap length h.2 ∙ omega (arith, r)

constant_joined : (ds es : Items) (c : Constant) → constant_list (joined ds es) c ≡ constant_list ds (constant_list es c)
constant_joined none es c = refl
constant_joined (item d ds) es c = ap (constant.Pair (constant_of d)) (constant_joined ds es c)

tail_is : (nodes : Seq Node) (tail : Option ℕ) (t : Option Datum) → TailStands nodes tail t → IsTail nodes tail (tail_constant t)
tail_is nodes None t h = ap tail_constant h
tail_is nodes (Some id) t h = (h.0, h.1, ap tail_constant h.2)

-- the empty list stands behind all items
pub all_past : (nodes : Seq Node) (node : ℕ) (ids : Seq ℕ) (tail : Option ℕ) (t : Option Datum) (k : ℕ) → HasRests nodes node ids tail
    → TailStands nodes tail t → k ≡ length ids → t ≡ None → IsRestOf nodes node k constant.Nil
all_past nodes node ids tail t k rests h e f =
    rests k none constant.Nil (drop_all k ids (omega (arith, e)))
    (let P : Option Datum → Type 0 = λ x. IsTail nodes tail (tail_constant x) in subst P f (tail_is nodes tail t h))

pub from_start : (ids front : Seq ℕ) (n : ℕ) → front ≡ slice_range ids 0 n → front ≡ take n ids
from_start ids front n e = grind (arith, e)

-- one stands in an item, and none in the end

short : (x y z k : ℕ) → k ≡ (x + (y + z)) - z → k ≡ x + y
short x y z k e = omega (arith, e)

less : (m n x y : ℕ) → m ≡ n - y → n ≡ x + y → m ≡ x
less m n x y e f = omega (arith, e, f)

pub item_found : (nodes : Seq Node) (node : ℕ) (all ids before : Seq ℕ) (tail : Option ℕ) (end : End) (ds : Items) (t : Option Datum)
    (plain n many k made : ℕ) (found : Bool) (a b c e g h : Seq Part)
    → (s : IsSplit nodes ids end ds t) → StandAll nodes all ds → TailStands nodes tail t → HasRests nodes node all tail
    → Lists nodes plain found a b (entries s.items n) → MayGive nodes false b c (s.inside n) → found ≡ true
    → many ≡ length c → k ≡ many - plain → e ≡ take k c → made ≡ length ids - plain → g ≡ e ++ part.Rest node made ∷ []
    → before ≡ take made ids → ((xs : Items) → StandAll nodes before xs → h ≡ g ++ links (entries xs n))
    → Puts nodes a h (template_chain ds t n)
item_found nodes node all ids before tail end ds t plain n many k made found a b c e g h s stand ends rests l p some total count cut size put front link =
    let es = entries s.items n in
    let rest = s.inside n in
    let tc = tail_constant t in
    let whole : c ≡ a ++ (l.first ++ l.later) = p.0 ∙ l.longer in
    let parts : c ≡ (a ++ l.first) ++ l.later = whole ∙ sym (append_assoc a l.first l.later) in
    let all_steps : many ≡ length a + (length l.first + length l.later) =
    total ∙ (ap length whole ∙ (length-append a (l.first ++ l.later) ∙ ap (λ x. length a + x) (length-append l.first l.later))) in
    let kept : k ≡ length (a ++ l.first) =
    short (length a) (length l.first) (length l.later) k
    (count ∙ (ap (λ x. x - plain) all_steps ∙ ap (λ x. (length a + (length l.first + length l.later)) - x) (sym l.steps)))
    ∙ sym (length-append a l.first) in
    let same : e ≡ a ++ l.first = cut ∙ cut_back (a ++ l.first) l.later c k kept parts in
    let r = parted n s.items l.front l.back l.are in
    let made_is : made ≡ length l.front =
    less made (length ids) (length l.front) plain size
    (as_many nodes ids n s.items s.stand
    ∙ (ap length l.are ∙ (length-append l.front l.back ∙ ap (λ x. length l.front + x) l.many))) in
    let made_items : made ≡ length (entries r.firsts n) = made_is ∙ ap length (sym r.are_front) in
    let P : Items → Type 0 = λ x. StandAll nodes ids x in
    let Q : Items → Type 0 = λ x. StandAll nodes all x in
    let R : Seq ℕ → Type 0 = λ x. StandAll nodes x r.firsts in
    let before_stand : StandAll nodes before r.firsts =
    subst R (sym front) (front_stands nodes ids n made r.firsts r.others made_items (subst P r.are s.stand)) in
    let rest_stand : StandAll nodes (drop made all) (joined r.others s.others) =
    back_stands nodes all n made r.firsts (joined r.others s.others) made_items
    (subst Q (s.are ∙ (ap (λ x. joined x s.others) r.are ∙ joined_assoc r.firsts r.others s.others)) stand) in
    let literal = plain_is (all_before l.back rest) (all_plain l.back rest l.plain_later p.1) in
    let written : literal.0 ≡ constant_list (joined r.others s.others) tc =
    before_written r.others n rest (constant_list s.others tc) (s.literal n) literal.0
    (ap (λ x. all_before x rest) r.are_back ∙ literal.1)
    ∙ sym (constant_joined r.others s.others tc) in
    let H : Constant → Type 0 = λ x. IsRestOf nodes node made x in
    let held : IsRestOf nodes node made literal.0 =
    subst H (sym written) (rests made (joined r.others s.others) tc rest_stand (tail_is nodes tail t ends)) in
    let made_of : template_chain ds t n ≡ all_before l.front (Plain literal.0) =
    s.whole n
    ∙ (ap (λ x. all_before x rest) l.are ∙ (all_before_append l.front l.back rest ∙ ap (all_before l.front) literal.1)) in
    let live = l.live some (Plain literal.0) in
    let linking : h ≡ g ++ links l.front = link r.firsts before_stand ∙ ap (λ x. g ++ links x) r.are_front in
    let further : Seq Part = part.Rest node made ∷ links l.front in
    record {
      more = l.first ++ further;
      longer = longer_twice a e h l.first further same (longer_twice e g h (part.Rest node made ∷ []) (links l.front) put linking);
      make =
          λ u.
          makes_as nodes (l.first ++ further) u (all_before l.front (Plain literal.0) ∷ u) (template_chain ds t n ∷ u)
          (ap (λ x. x ∷ u) (sym made_of))
          (then_all nodes l.first further u (onto l.front u) (all_before l.front (Plain literal.0) ∷ u) (l.make u)
          (Plain literal.0 ∷ onto l.front u, (literal.0, held, refl), linked nodes l.front (Plain literal.0) u live.1));
      live = live_as (template_chain ds t n) (all_before l.front (Plain literal.0)) made_of live.0;
    }
