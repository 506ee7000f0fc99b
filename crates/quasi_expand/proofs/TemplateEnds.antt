-- The end of a list in a template: a tail, or a mark and its operand; and what is spliced.
use Rattle.std.proofs.Common.{ℕ, suc, ◌≡◌, List as Seq, [], ◌∷◌, ◌++◌, ◌≤◌, ◌<◌, length, drop, slice_index_or, Bool, true, false, Option, Some, None, refl, sym, ap, subst, ◌∙◌, arith}
use Rattle.std.specs.Prelude.{if◌then◌else◌, codes}
use Rattle.scheme_base.specs.declared.pos.Pos.{Pos}
use Rattle.scheme_base.specs.Constants.{Constant as constant}
use Rattle.datum_form.specs.declared.datums.Node.{Node}
use Rattle.datum_form.specs.declared.datums.Kind.TheVariants as kind
use Rattle.datum_form.specs.Data.{Datum, Datum as datum, Items}
use Rattle.datum_form.specs.Data.Items.{none, item}
use Rattle.datum_form.specs.Stands.{Stands, StandAll}
use Rattle.draft_form.specs.Quoted.{constant_of, constant_list, IsRestOf}
use Rattle.quasi_expand.specs.declared.template.End.TheVariants as end
use Rattle.quasi_expand.specs.declared.template.Mark.{Mark}
use Rattle.quasi_expand.specs.declared.template.Mark.TheVariants.{Unquote, Quasiquote}
use Rattle.quasi_expand.specs.Agreement.{Agree}
use Rattle.quasi_expand.specs.Levels.{joined}
use Rattle.quasi_expand.specs.Shapes.{is_word, list_of}
use Rattle.quasi_expand.specs.Steps.{marks, tail_constant, TailStands, IsMarked, IsSplit, IsSpliced, EndsIn, with_mark}
use Rattle.quasi_expand.specs.Templates.{Template, Plain, One, before, all_before, marked, unquoted, spliced, template, template_list, template_chain, entries, entry}
use Rattle.quasi_expand.proofs.FirstItem.{first_of, after_first}
use Rattle.quasi_expand.proofs.Listing.{joined_none, joined_assoc}
use Rattle.quasi_expand.proofs.PlainTemplates.{Writes, plain_writes, written, marked_writes, unquoted_writes, word_is, word_writes}

-- Lists whose last two items are known

abbrev AreMore : Items → Type 0
AreMore (item d (item e ds)) = Unit {0}
AreMore ds = ⊥

two_more : (bs : Items) (d e : Datum) → AreMore (joined bs (item d (item e none)))
two_more none d e = tt
two_more (item b none) d e = tt
two_more (item b (item c bs)) d e = tt

past : (d : Datum) (ds : Items) (n : ℕ) → AreMore ds → template_list (item d ds) n ≡ before (entry d n (template d n)) (template_list ds n)
past d none n h = absurd h
past d (item e none) n h = absurd h
past d (item e (item f ds)) n h = refl

abbrev mark_word : Mark → Seq ℕ
mark_word Unquote = codes "unquote"
mark_word Quasiquote = codes "quasiquote"

abbrev at_mark : Mark → Datum → ℕ → Template
at_mark Unquote e n = unquoted (codes "unquote") n e (template e)
at_mark Quasiquote e n = marked (codes "quasiquote") (template e (suc n))

is_mark : (d : Datum) (m : Mark) (u q : Bool) → is_word (codes "unquote") d ≡ u → is_word (codes "quasiquote") d ≡ q
    → marks d ≡ Some m → is_word (mark_word m) d ≡ true
is_mark d Unquote true q f g h = f
is_mark d Quasiquote true q f g h = absurd (let k : marks d ≡ Some Unquote = simp f refl in cc)
is_mark d Unquote false true f g h = absurd (let k : marks d ≡ Some Quasiquote = simp (f, g) refl in cc)
is_mark d Quasiquote false true f g h = g
is_mark d m false false f g h = absurd (let k : marks d ≡ None = simp (f, g) refl in cc)

two_marked : (d e : Datum) (n : ℕ) (m : Mark) (u q : Bool) → is_word (codes "unquote") d ≡ u → is_word (codes "quasiquote") d ≡ q
    → marks d ≡ Some m → template_list (item d (item e none)) n ≡ at_mark m e n
two_marked d e n Unquote true q f g h = simp f refl
two_marked d e n Quasiquote true q f g h = absurd (let k : marks d ≡ Some Unquote = simp f refl in cc)
two_marked d e n Unquote false true f g h = absurd (let k : marks d ≡ Some Quasiquote = simp (f, g) refl in cc)
two_marked d e n Quasiquote false true f g h = simp (f, g) refl
two_marked d e n m false false f g h = absurd (let k : marks d ≡ None = simp (f, g) refl in cc)

two_plain : (d e : Datum) (n : ℕ) (u q : Bool) → is_word (codes "unquote") d ≡ u → is_word (codes "quasiquote") d ≡ q
    → marks d ≡ None
    → template_list (item d (item e none)) n ≡ all_before (entries (item d (item e none)) n) (Plain constant.Nil)
two_plain d e n true q f g h = absurd (let k : marks d ≡ Some Unquote = simp f refl in cc)
two_plain d e n false true f g h = absurd (let k : marks d ≡ Some Quasiquote = simp (f, g) refl in cc)
two_plain d e n false false f g h = simp (f, g) refl

ends_marked : (bs : Items) (d e : Datum) (n : ℕ) (m : Mark) → marks d ≡ Some m
    → template_list (joined bs (item d (item e none))) n ≡ all_before (entries bs n) (at_mark m e n)
ends_marked none d e n m h = two_marked d e n m (is_word (codes "unquote") d) (is_word (codes "quasiquote") d) refl refl h
ends_marked (item b bs) d e n m h =
    past b (joined bs (item d (item e none))) n (two_more bs d e)
    ∙ ap (before (entry b n (template b n))) (ends_marked bs d e n m h)

ends_plain : (bs : Items) (d e : Datum) (n : ℕ) → marks d ≡ None
    → template_list (joined bs (item d (item e none))) n
    ≡ all_before (entries (joined bs (item d (item e none))) n) (Plain constant.Nil)
ends_plain none d e n h = two_plain d e n (is_word (codes "unquote") d) (is_word (codes "quasiquote") d) refl refl h
ends_plain (item b bs) d e n h =
    past b (joined bs (item d (item e none))) n (two_more bs d e)
    ∙ ap (before (entry b n (template b n))) (ends_plain bs d e n h)

-- The last items

pub record Last (nodes : Seq Node) (ids : Seq ℕ) (id : ℕ) (ds : Items) : Type 0 where
  pub others : Items
  pub datum : Datum
  pub are : ds ≡ joined others (item datum none)
  pub rest : StandAll nodes ids others
  pub last : Stands nodes id datum

pub no_items : (nodes : Seq Node) (ids : Seq ℕ) (ds : Items) → ids ≡ [] → StandAll nodes ids ds → ds ≡ none
no_items nodes ids none e h = refl
no_items nodes ids (item d ds) e h = absurd (let some = h.2 in cc)

pub last_of : (nodes : Seq Node) (all ids : Seq ℕ) (id : ℕ) (ds : Items) → all ≡ ids ++ id ∷ [] → StandAll nodes all ds → Last nodes ids id ds
last_of nodes all [] id none e h = absurd (cc)
last_of nodes all (i ∷ ids) id none e h = absurd (cc)
last_of nodes all [] id (item d ds) e h =
    let rest = no_items nodes [] ds refl (after_first nodes all [] id d ds e h) in
    record { others = none; datum = d; are = ap (item d) rest; rest = refl; last = first_of nodes all [] id d ds e h }
last_of nodes all (i ∷ ids) id (item d ds) e h =
    let r = last_of nodes (ids ++ id ∷ []) ids id ds refl (after_first nodes all (ids ++ id ∷ []) i d ds e h) in
    record {
      others = item d r.others;
      datum = r.datum;
      are = ap (item d) r.are;
      rest = (i, ids, refl, first_of nodes all (ids ++ id ∷ []) i d ds e h, r.rest);
      last = r.last;
    }

two_joined : (all bs cs : Items) (d e : Datum) → all ≡ joined bs (item e none) → bs ≡ joined cs (item d none)
    → all ≡ joined cs (item d (item e none))
two_joined all bs cs d e p q = p ∙ (ap (λ l. joined l (item e none)) q ∙ joined_assoc cs (item d none) (item e none))

-- How a list is split

pub tail_split : (nodes : Seq Node) (ids : Seq ℕ) (ds : Items) (tail : Option ℕ) (id : ℕ) (t : Option Datum) → StandAll nodes ids ds
    → TailStands nodes tail t → tail ≡ Some id → IsSplit nodes ids (end.Tail id) ds t
tail_split nodes ids ds tail id t h k e =
    let P : Option ℕ → Type 0 = λ x. TailStands nodes x t in
    let r = subst P e k in
    record {
      items = ds;
      others = none;
      inside = template r.0;
      stand = h;
      are = sym (joined_none ds);
      ends = λ node count last. (r.0, r.1, λ n. refl);
      whole = λ n. ap (λ x. template_chain ds x n) r.2;
      literal = λ n c same. written r.0 n c same ∙ ap tail_constant (sym r.2);
    }

unsplit : (nodes : Seq Node) (ids : Seq ℕ) (ds : Items) → StandAll nodes ids ds
    → ((n : ℕ) → template_list ds n ≡ all_before (entries ds n) (Plain constant.Nil)) → IsSplit nodes ids end.Empty ds None
unsplit nodes ids ds h same = record {
  items = ds;
  others = none;
  inside = λ n. Plain constant.Nil;
  stand = h;
  are = sym (joined_none ds);
  ends = λ node count last n. refl;
  whole = same;
  literal = λ n. plain_writes constant.Nil;
}

pub none_split : (nodes : Seq Node) (ids : Seq ℕ) (ds : Items) → StandAll nodes ids ds → ids ≡ [] → IsSplit nodes ids end.Empty ds None
none_split nodes ids none h e = unsplit nodes ids none h (λ n. refl)
none_split nodes ids (item d ds) h e = absurd (let some = h.2 in cc)

pub one_split : (nodes : Seq Node) (ids others : Seq ℕ) (id : ℕ) (ds : Items) → StandAll nodes ids ds → ids ≡ others ++ id ∷ []
    → others ≡ [] → IsSplit nodes ids end.Empty ds None
one_split nodes ids others id ds h e f =
    let l = last_of nodes ids others id ds e h in
    let front = no_items nodes others l.others f l.rest in
    let are : ds ≡ item l.datum none = l.are ∙ ap (λ x. joined x (item l.datum none)) front in
    unsplit nodes ids ds h
    (λ n. ap (λ x. template_list x n) are ∙ ap (λ x. all_before (entries x n) (Plain constant.Nil)) (sym are))

pub plain_split : (nodes : Seq Node) (ids others before : Seq ℕ) (id name : ℕ) (ds : Items) → StandAll nodes ids ds
    → ids ≡ others ++ id ∷ [] → others ≡ before ++ name ∷ [] → (found : Option Mark)
    → ((d : Datum) → Stands nodes name d → found ≡ marks d) → found ≡ None → IsSplit nodes ids end.Empty ds None
plain_split nodes ids others before id name ds h e f found word lacks =
    let l = last_of nodes ids others id ds e h in
    let m = last_of nodes others before name l.others f l.rest in
    let are = two_joined ds l.others m.others m.datum l.datum l.are m.are in
    unsplit nodes ids ds h
    (λ n.
    ap (λ x. template_list x n) are
    ∙ (ends_plain m.others m.datum l.datum n (sym (word m.datum m.last) ∙ lacks)
    ∙ ap (λ x. all_before (entries x n) (Plain constant.Nil)) (sym are)))

-- a mark and its operand
is_marked : (nodes : Seq Node) (x : Seq ℕ) (d e : Datum) (name id node count : ℕ) → is_word x d ≡ true → Stands nodes name d
    → Stands nodes id e → IsRestOf nodes node count constant.Nil → IsMarked nodes x (with_mark name id node count) e
is_marked nodes x d e name id node count same h k last =
    let w = word_is x d same in
    record { place = w.0; named = subst (λ y. Stands nodes name y) w.1 h; stands = k; last = last }

marked_ends : (nodes : Seq Node) (m : Mark) (d e : Datum) (name id node count : ℕ) → is_word (mark_word m) d ≡ true
    → Stands nodes name d → Stands nodes id e → IsRestOf nodes node count constant.Nil
    → EndsIn nodes node count (end.Marked m name id) (at_mark m e)
marked_ends nodes Unquote d e name id node count same h k last =
    (e, is_marked nodes (codes "unquote") d e name id node count same h k last, λ n. refl)
marked_ends nodes Quasiquote d e name id node count same h k last =
    (e, is_marked nodes (codes "quasiquote") d e name id node count same h k last, λ n. refl)

mark_writes : (m : Mark) (d e : Datum) (n : ℕ) → is_word (mark_word m) d ≡ true
    → Writes (at_mark m e n) (constant_list (item d (item e none)) constant.Nil)
mark_writes Unquote d e n same =
    word_writes (codes "unquote") d e (at_mark Unquote e n) same
    (unquoted_writes (codes "unquote") n e (constant_of e) (λ k. written e k))
mark_writes Quasiquote d e n same =
    word_writes (codes "quasiquote") d e (at_mark Quasiquote e n) same
    (marked_writes (codes "quasiquote") (template e (suc n)) (constant_of e) (written e (suc n)))

pub marked_split : (nodes : Seq Node) (ids others before : Seq ℕ) (id name : ℕ) (ds : Items) (m : Mark) → StandAll nodes ids ds
    → ids ≡ others ++ id ∷ [] → others ≡ before ++ name ∷ [] → (found : Option Mark)
    → ((d : Datum) → Stands nodes name d → found ≡ marks d) → found ≡ Some m → IsSplit nodes before (end.Marked m name id) ds None
marked_split nodes ids others before id name ds m h e f found word is =
    let l = last_of nodes ids others id ds e h in
    let k = last_of nodes others before name l.others f l.rest in
    let are = two_joined ds l.others k.others k.datum l.datum l.are k.are in
    let marks_so : marks k.datum ≡ Some m = sym (word k.datum k.last) ∙ is in
    let same =
    is_mark k.datum m (is_word (codes "unquote") k.datum) (is_word (codes "quasiquote") k.datum) refl refl marks_so in
    record {
      items = k.others;
      others = item k.datum (item l.datum none);
      inside = at_mark m l.datum;
      stand = k.rest;
      are = are;
      ends = λ node count last. marked_ends nodes m k.datum l.datum name id node count same k.last l.last (last refl);
      whole = λ n. ap (λ x. template_list x n) are ∙ ends_marked k.others k.datum l.datum n m marks_so;
      literal = λ n. mark_writes m k.datum l.datum n same;
    }

-- What is spliced

pub two_of : (ids : Seq ℕ) → 2 ≤ length ids → length ids < 3 → ids ≡ slice_index_or ids 0 0 ∷ slice_index_or ids 1 0 ∷ []
two_of [] a b = absurd (omega (arith, a))
two_of (i ∷ []) a b = absurd (omega (arith, a))
two_of (i ∷ j ∷ []) a b = refl
two_of (i ∷ j ∷ k ∷ ids) a b = absurd (omega (arith, b))

-- a list of two items has no more
two_rest : (nodes : Seq Node) (id : ℕ) (p : Pos) (d e : Datum) → Stands nodes id (datum.List p (item d (item e none)))
    → IsRestOf nodes id 2 constant.Nil
two_rest nodes id p d e h =
    let ids = h.2 in
    let others = ids.4 in
    let two : h.0 ≡ ids.0 ∷ others.0 ∷ [] = ids.2 ∙ (ap (λ l. ids.0 ∷ l) others.2 ∙ ap (λ l. ids.0 ∷ others.0 ∷ l) others.4) in
    (record { kind = kind.List h.0 None; pos = p }, h.1, (none, constant.Nil, ap (drop 2) two, refl, refl))

pub is_spliced : (nodes : Seq Node) (d : Datum) (ids : Seq ℕ) (name id whole : ℕ) (found : Bool) → Agree (StandAll nodes) (Some ids) (list_of d)
    → ids ≡ name ∷ id ∷ [] → ((e : Datum) → Stands nodes name e → found ≡ is_word (codes "unquote-splicing") e) → found ≡ true
    → Stands nodes whole d → IsSpliced nodes whole (Some (name, id)) d
is_spliced nodes (datum.Atomic p a) ids name id whole found h e word is stands = absurd h
is_spliced nodes (datum.Dotted p xs d) ids name id whole found h e word is stands = absurd h
is_spliced nodes (datum.Vector p xs) ids name id whole found h e word is stands = absurd h
is_spliced nodes (datum.List p none) ids name id whole found h e word is stands = absurd (cc)
is_spliced nodes (datum.List p (item d none)) ids name id whole found h e word is stands =
    absurd (let some = after_first nodes ids (id ∷ []) name d none e h in cc)
is_spliced nodes (datum.List p (item d (item x (item y xs)))) ids name id whole found h e word is stands =
    absurd
    (let some = after_first nodes (id ∷ []) [] id x (item y xs) refl (after_first nodes ids (id ∷ []) name d (item x (item y xs)) e h) in
    let more = some.2 in
    cc)
is_spliced nodes (datum.List p (item d (item x none))) ids name id whole found h e word is stands =
    let first = first_of nodes ids (id ∷ []) name d (item x none) e h in
    let same = sym (word d first) ∙ is in (
      x,
      is_marked nodes (codes "unquote-splicing") d x name id whole 2 same first
          (first_of nodes (id ∷ []) [] id x none refl (after_first nodes ids (id ∷ []) name d (item x none) e h))
          (two_rest nodes whole p d x stands),
      λ n t. ap (λ b. if b then spliced n x (template x) else One t) same,
    )
