-- Data that wait are taken in the order of their text, a symbol after another.
use Rattle.std.proofs.Common.{◌≡◌, ℕ, zero, suc, ◌+◌, ◌<◌, ◌≤◌, List as Seq, [], ◌∷◌, ◌++◌, length, drop, get_or, reverse, Option, Some, None, refl, sym, ap, subst, ◌∙◌, append-nil, append_assoc, drop-cons, arith}
use Rattle.std.specs.Prelude.{slice_get}
use Rattle.std.proofs.lemmas.List.{reverse-append, reverse-reverse}
use Rattle.scheme_base.specs.declared.pos.Pos.{Pos}
use Rattle.scheme_base.specs.Constants.{Constant, Constant as constant}
use Rattle.scheme_base.proofs.Lists.{same_item, nil-cons, same_head, same_tail}
use Rattle.core_form.specs.declared.program.What.{What}
use Rattle.core_form.specs.declared.program.What.TheVariants as form
use Rattle.core_form.specs.Trees.{IsNode}
use Rattle.datum_form.specs.declared.datums.Kind.{Kind}
use Rattle.datum_form.specs.declared.datums.Kind.TheVariants as kind
use Rattle.datum_form.specs.declared.datums.Node.{Node}
use Rattle.datum_form.specs.declared.token.Atom.TheVariants.{Integer, Boolean, Character, String, Symbol}
use Rattle.datum_form.specs.Data.{Datum, Datum as datum, Items}
use Rattle.datum_form.specs.Data.Items.{none, item}
use Rattle.datum_form.specs.Stands.{Stands, StandAll}
use Rattle.draft_form.specs.declared.draft.Constant.{Constant as Quoted}
use Rattle.draft_form.specs.declared.draft.Constant.TheVariants as quoted
use Rattle.draft_form.specs.declared.draft.Drafts.{Drafts as Table}
use Rattle.draft_form.specs.declared.draft.Variable.{Variable}
use Rattle.draft_form.specs.Drafts.{Part, Held, ListsSymbols, Referred, Changed}
use Rattle.draft_form.specs.Drawn.{name_or_none, word_name, Names}
use Rattle.draft_form.specs.Quoted.{constant_of, constant_list, constants, IsRest}
use Rattle.draft_form.proofs.Reversed.{reversed_last}
use Rattle.scheme_expand.specs.ByWord.{AreTaken}
use Rattle.scheme_expand.specs.declared.first.Firsts.{Firsts}
use Rattle.scheme_expand.specs.Noted.{level_in}
use Rattle.scheme_expand.specs.Order.{IsQuoted, IsPart, AreParts}
use Rattle.scheme_expand.specs.Programs.{symbols_in, all_symbols_in, symbols}
use Rattle.scheme_expand.specs.Symbols.{item_symbols, items_from, items_of, data_of, AreSpelled, Wait, TakesNames, TakesSome}
use Rattle.scheme_expand.proofs.Scoping.{some_none}

-- Items after others

abbrev chain : Items → Items → Items
chain none es = es
chain (item d ds) es = item d (chain ds es)

stand_chain : (nodes : Seq Node) (ids others : Seq ℕ) (ds es : Items) → StandAll nodes ids ds → StandAll nodes others es
    → StandAll nodes (ids ++ others) (chain ds es)
stand_chain nodes ids others none es h k =
    let P : Seq ℕ → Type 0 = λ is. StandAll nodes (is ++ others) es in subst P (sym h) k
stand_chain nodes ids others (item d ds) es h k =
    (h.0, h.1 ++ others, ap (λ is. is ++ others) h.2, h.3, stand_chain nodes h.1 others ds es h.4 k)

symbols_chain : (ds es : Items) → item_symbols (chain ds es) ≡ item_symbols ds ++ item_symbols es
symbols_chain none es = refl
symbols_chain (item d ds) es =
    ap (λ l. symbols_in (constant_of d) ++ l) (symbols_chain ds es)
    ∙ sym (append_assoc (symbols_in (constant_of d)) (item_symbols ds) (item_symbols es))

pub symbols_list : (is : Items) (t : Constant) → symbols_in (constant_list is t) ≡ item_symbols is ++ symbols_in t
symbols_list none t = refl
symbols_list (item d ds) t =
    ap (λ l. symbols_in (constant_of d) ++ l) (symbols_list ds t)
    ∙ sym (append_assoc (symbols_in (constant_of d)) (item_symbols ds) (symbols_in t))

pub symbols_row : (is : Items) → all_symbols_in (constants is) ≡ item_symbols is
symbols_row none = refl
symbols_row (item d ds) = ap (λ l. symbols_in (constant_of d) ++ l) (symbols_row ds)

-- the items before a tail
symbols_tail : (is : Items) (d : Datum) → symbols_in (constant_list is (constant_of d)) ≡ item_symbols (chain is (item d none))
symbols_tail is d =
    symbols_list is (constant_of d)
    ∙ (ap (λ l. item_symbols is ++ l) (sym (append-nil (symbols_in (constant_of d)))) ∙ sym (symbols_chain is (item d none)))

pub symbols_proper : (is : Items) → symbols_in (constant_list is constant.Nil) ≡ item_symbols is
symbols_proper is = symbols_list is constant.Nil ∙ append-nil (item_symbols is)

-- A datum

same_word : (o : Option ℕ) (v w : ℕ) → o ≡ Some v → o ≡ Some w → v ≡ w
same_word o v w h k = same_item o v w h k

no_word : (o : Option ℕ) (w : ℕ) → o ≡ None → o ≡ Some w → ⊥
no_word o w h k = some_none w (sym k ∙ h)

in_word : (names : Names) (nodes : Seq Node) (words : Seq (Option ℕ)) (id w : ℕ) (d : Datum) → AreSpelled names nodes words
    → level_in (slice_get words id) ≡ Some w → Stands nodes id d → symbols_in (constant_of d) ≡ word_name names w ∷ []
in_word names nodes words id w (datum.Atomic p (Integer z)) spelled e h = absurd (no_word _ w (spelled id _ h) e)
in_word names nodes words id w (datum.Atomic p (Boolean b)) spelled e h = absurd (no_word _ w (spelled id _ h) e)
in_word names nodes words id w (datum.Atomic p (Character b)) spelled e h = absurd (no_word _ w (spelled id _ h) e)
in_word names nodes words id w (datum.Atomic p (String b)) spelled e h = absurd (no_word _ w (spelled id _ h) e)
in_word names nodes words id w (datum.Atomic p (Symbol x)) spelled e h =
    let s = spelled id (record { kind = kind.Name x; pos = p }) h in
    let name : word_name names s.0 ≡ x = ap name_or_none s.3 ∙ s.4 in
    ap (λ y. y ∷ []) (sym name ∙ ap (word_name names) (same_word (level_in (slice_get words id)) s.0 w s.2 e))
in_word names nodes words id w (datum.List p is) spelled e h = absurd (no_word _ w (spelled id _ h.1) e)
in_word names nodes words id w (datum.Dotted p is d) spelled e h = absurd (no_word _ w (spelled id _ h.2) e)
in_word names nodes words id w (datum.Vector p is) spelled e h = absurd (no_word _ w (spelled id _ h.1) e)

-- the data that a datum has, which have its symbols
pub record Has (nodes : Seq Node) (ids : Seq ℕ) (xs : Seq (Seq ℕ)) : Type 0 where
  pub inner : Items
  pub all : StandAll nodes ids inner
  pub same : xs ≡ item_symbols inner

has_ids : (nodes : Seq Node) (ids others : Seq ℕ) (xs : Seq (Seq ℕ)) → others ≡ ids → Has nodes ids xs → Has nodes others xs
has_ids nodes ids others xs e h = let P : Seq ℕ → Type 0 = λ is. Has nodes is xs in subst P (sym e) h

no_data : (nodes : Seq Node) → Has nodes [] []
no_data nodes = record { inner = none; all = refl; same = refl }

in_parts : (names : Names) (nodes : Seq Node) (words : Seq (Option ℕ)) (id : ℕ) (d : Datum) → AreSpelled names nodes words
    → level_in (slice_get words id) ≡ None → Stands nodes id d → Has nodes (items_of 0 (slice_get nodes id)) (symbols_in (constant_of d))
in_parts names nodes words id (datum.Atomic p (Integer z)) spelled e h = has_ids nodes [] _ [] (ap (items_of 0) h) (no_data nodes)
in_parts names nodes words id (datum.Atomic p (Boolean b)) spelled e h = has_ids nodes [] _ [] (ap (items_of 0) h) (no_data nodes)
in_parts names nodes words id (datum.Atomic p (Character b)) spelled e h = has_ids nodes [] _ [] (ap (items_of 0) h) (no_data nodes)
in_parts names nodes words id (datum.Atomic p (String b)) spelled e h = has_ids nodes [] _ [] (ap (items_of 0) h) (no_data nodes)
in_parts names nodes words id (datum.Atomic p (Symbol x)) spelled e h =
    let s = spelled id (record { kind = kind.Name x; pos = p }) h in absurd (no_word _ s.0 e s.2)
in_parts names nodes words id (datum.List p is) spelled e h =
    has_ids nodes h.0 _ _ (ap (items_of 0) h.1) (record { inner = is; all = h.2; same = symbols_proper is })
in_parts names nodes words id (datum.Dotted p is d) spelled e h =
    has_ids nodes (h.0 ++ h.1 ∷ []) _ _ (ap (items_of 0) h.2)
    (record {
      inner = chain is (item d none);
      all = stand_chain nodes h.0 (h.1 ∷ []) is (item d none) h.3 (h.1, [], refl, h.4, refl);
      same = symbols_tail is d;
    })
in_parts names nodes words id (datum.Vector p is) spelled e h =
    has_ids nodes h.0 _ _ (ap (items_of 0) h.1) (record { inner = is; all = h.2; same = symbols_row is })

-- The datum that is next

-- the first datum, and those that wait after it
record Next (nodes : Seq Node) (id : ℕ) (others : Seq ℕ) (xs : Seq (Seq ℕ)) : Type 0 where
  this : Datum
  rest : Items
  stands : Stands nodes id this
  wait : StandAll nodes (reverse others) rest
  whole : xs ≡ symbols_in (constant_of this) ++ item_symbols rest

next_of : (nodes : Seq Node) (id : ℕ) (others : Seq ℕ) (xs : Seq (Seq ℕ)) (ds : Items) → StandAll nodes (id ∷ reverse others) ds
    → xs ≡ item_symbols ds → Next nodes id others xs
next_of nodes id others xs none all e = absurd (nil-cons id (reverse others) (sym all))
next_of nodes id others xs (item d ds) all e =
    let D : ℕ → Type 0 = λ i. Stands nodes i d in
    let R : Seq ℕ → Type 0 = λ is. StandAll nodes is ds in
    record {
      this = d;
      rest = ds;
      stands = subst D (sym (same_head id all.0 (reverse others) all.1 all.2)) all.3;
      wait = subst R (sym (same_tail id all.0 (reverse others) all.1 all.2)) all.4;
      whole = e;
    }

next : (nodes : Seq Node) (id : ℕ) (others : Seq ℕ) (xs : Seq (Seq ℕ)) → Wait nodes (others ++ id ∷ []) xs → Next nodes id others xs
next nodes id others xs w =
    let P : Seq ℕ → Type 0 = λ is. StandAll nodes is w.0 in
    next_of nodes id others xs w.0 (subst P (reversed_last others id) w.1) w.2

pub nothing_takes : (names : Names) (f : Firsts) → TakesNames names [] f f
nothing_takes names f listed text one h =
    let P : Seq (Seq ℕ) → Type 0 = λ l. AreTaken names listed l f in subst P (sym (append-nil text)) h

pub takes_then : (names : Names) (xs ys : Seq (Seq ℕ)) (f g h : Firsts) → TakesNames names xs f g → TakesNames names ys g h
    → TakesNames names (xs ++ ys) f h
takes_then names xs ys f g h first second listed text one taken =
    let P : Seq (Seq ℕ) → Type 0 = λ l. AreTaken names listed l h in
    subst P (append_assoc text xs ys) (second listed (text ++ xs) one (first listed text one taken))

takes_same : (names : Names) (xs ys : Seq (Seq ℕ)) (f g : Firsts) → xs ≡ ys → TakesNames names ys f g → TakesNames names xs f g
takes_same names xs ys f g e h = let P : Seq (Seq ℕ) → Type 0 = λ l. TakesNames names l f g in subst P (sym e) h

pub datum_word : (names : Names) (nodes : Seq Node) (words : Seq (Option ℕ)) (others : Seq ℕ) (id w : ℕ) (xs : Seq (Seq ℕ)) (f g : Firsts)
    → AreSpelled names nodes words → Wait nodes (others ++ id ∷ []) xs → level_in (slice_get words id) ≡ Some w
    → TakesNames names (word_name names w ∷ []) f g → TakesSome names nodes xs others f g
datum_word names nodes words others id w xs f g spelled waits e takes =
    let n = next nodes id others xs waits in
    record {
      taken = word_name names w ∷ [];
      others = item_symbols n.rest;
      whole = n.whole ∙ ap (λ l. l ++ item_symbols n.rest) (in_word names nodes words id w n.this spelled e n.stands);
      takes = takes;
      wait = (n.rest, n.wait, refl);
    }

pub datum_parts : (names : Names) (nodes : Seq Node) (words : Seq (Option ℕ)) (others after : Seq ℕ) (id : ℕ) (xs : Seq (Seq ℕ)) (f : Firsts)
    → AreSpelled names nodes words → Wait nodes (others ++ id ∷ []) xs → level_in (slice_get words id) ≡ None
    → after ≡ others ++ reverse (items_of 0 (slice_get nodes id)) → TakesSome names nodes xs after f f
datum_parts names nodes words others after id xs f spelled waits e pushed =
    let n = next nodes id others xs waits in
    let has = in_parts names nodes words id n.this spelled e n.stands in
    let ids : Seq ℕ = items_of 0 (slice_get nodes id) in
    let order : reverse after ≡ ids ++ reverse others =
    ap reverse pushed ∙ (reverse-append others (reverse ids) ∙ ap (λ l. l ++ reverse others) (reverse-reverse ids)) in
    let P : Seq ℕ → Type 0 = λ is. StandAll nodes is (chain has.inner n.rest) in
    record {
      taken = [];
      others = xs;
      whole = refl;
      takes = nothing_takes names f;
      wait = (
        chain has.inner n.rest,
        subst P (sym order) (stand_chain nodes ids (reverse others) has.inner n.rest has.all n.wait),
        n.whole ∙ (ap (λ l. l ++ item_symbols n.rest) has.same ∙ sym (symbols_chain has.inner n.rest)),
      );
    }

-- All data

pub some_begun : (names : Names) (nodes : Seq Node) (waiting : Seq ℕ) (xs : Seq (Seq ℕ)) (f : Firsts) → Wait nodes waiting xs
    → TakesSome names nodes xs waiting f f
some_begun names nodes waiting xs f w =
    record { taken = []; others = xs; whole = refl; takes = nothing_takes names f; wait = w }

pub some_more : (names : Names) (nodes : Seq Node) (waiting others after : Seq ℕ) (id : ℕ) (xs : Seq (Seq ℕ)) (f g h : Firsts)
    → TakesSome names nodes xs waiting f g → waiting ≡ others ++ id ∷ []
    → ((ys : Seq (Seq ℕ)) → Wait nodes (others ++ id ∷ []) ys → TakesSome names nodes ys after g h)
    → TakesSome names nodes xs after f h
some_more names nodes waiting others after id xs f g h first popped step =
    let P : Seq ℕ → Type 0 = λ is. Wait nodes is first.others in
    let s = step first.others (subst P popped first.wait) in
    record {
      taken = first.taken ++ s.taken;
      others = s.others;
      whole = first.whole ∙ (ap (λ l. first.taken ++ l) s.whole ∙ sym (append_assoc first.taken s.taken s.others));
      takes = takes_then names first.taken s.taken f g h first.takes s.takes;
      wait = s.wait;
    }

none_waits : (nodes : Seq Node) (ids : Seq ℕ) (ds : Items) → ids ≡ [] → StandAll nodes ids ds → item_symbols ds ≡ []
none_waits nodes ids none e h = refl
none_waits nodes ids (item d ds) e h = absurd (nil-cons h.0 h.1 (sym e ∙ h.2))

pub some_ended : (names : Names) (nodes : Seq Node) (waiting : Seq ℕ) (xs : Seq (Seq ℕ)) (f g : Firsts)
    → TakesSome names nodes xs waiting f g → waiting ≡ [] → TakesNames names xs f g
some_ended names nodes waiting xs f g s empty =
    let over : s.others ≡ [] = s.wait.2 ∙ none_waits nodes (reverse waiting) s.wait.0 (ap reverse empty) s.wait.1 in
    takes_same names xs s.taken f g (s.whole ∙ (ap (λ l. s.taken ++ l) over ∙ append-nil s.taken)) s.takes

-- Constants

from_rest : (nodes : Seq Node) (from : ℕ) (k : Kind) (c : Constant) → IsRest nodes from k c → Has nodes (items_from from k) (symbols_in c)
from_rest nodes from (kind.List ids None) c h =
    record { inner = h.0; all = h.2; same = ap symbols_in (h.4 ∙ ap (constant_list h.0) h.3) ∙ symbols_proper h.0 }
from_rest nodes from (kind.List ids (Some tail)) c h =
    record {
      inner = chain h.0 (item h.3.0 none);
      all = stand_chain nodes (drop from ids) (tail ∷ []) h.0 (item h.3.0 none) h.2 (tail, [], refl, h.3.1, refl);
      same = ap symbols_in (h.4 ∙ ap (constant_list h.0) h.3.2) ∙ symbols_tail h.0 h.3.0;
    }
from_rest nodes from (kind.Vector ids) c h =
    record { inner = h.0; all = h.1; same = ap symbols_in h.2 ∙ symbols_proper h.0 }
from_rest nodes from (kind.Integer z) c h = absurd h
from_rest nodes from (kind.Boolean b) c h = absurd h
from_rest nodes from (kind.Char b) c h = absurd h
from_rest nodes from (kind.Text b) c h = absurd h
from_rest nodes from (kind.Name b) c h = absurd h

-- the symbols of one constant
held_symbols : (nodes : Seq Node) (ids : Seq ℕ) (c : Constant) (found : Seq Part) → found ≡ Held c ∷ [] → Has nodes ids (symbols_in c)
    → Has nodes ids (symbols found)
held_symbols nodes ids c found e h =
    let P : Seq (Seq ℕ) → Type 0 = λ xs. Has nodes ids xs in subst P (sym (ap symbols e ∙ append-nil (symbols_in c))) h

no_symbols : (nodes : Seq Node) (c d : Constant) (found : Seq Part) → found ≡ Held c ∷ [] → c ≡ d → symbols_in d ≡ [] → Has nodes [] (symbols found)
no_symbols nodes c d found e f empty =
    let P : Seq (Seq ℕ) → Type 0 = λ xs. Has nodes [] xs in
    held_symbols nodes [] c found e (subst P (sym (ap symbols_in f ∙ empty)) (no_data nodes))

pub constant_has : (nodes : Seq Node) (h : Quoted) (found : Seq Part) → IsQuoted nodes h found → Has nodes (data_of nodes h) (symbols found)
constant_has nodes (quoted.Datum id) found q =
    held_symbols nodes (id ∷ []) q.0 found q.2
    (record {
      inner = item q.1.0 none;
      all = (id, [], refl, q.1.1, refl);
      same = ap symbols_in q.1.2 ∙ sym (append-nil (symbols_in (constant_of q.1.0)));
    })
constant_has nodes (quoted.Rest id from) found q =
    held_symbols nodes (items_of from (slice_get nodes id)) q.0 found q.2
    (has_ids nodes (items_from from q.1.0.kind) _ _ (ap (items_of from) q.1.1) (from_rest nodes from q.1.0.kind q.0 q.1.2))
constant_has nodes (quoted.Integer z) found q = no_symbols nodes q.0 (constant.Integer z) found q.2 q.1 refl
constant_has nodes (quoted.Boolean b) found q = no_symbols nodes q.0 (constant.Boolean b) found q.2 q.1 refl
constant_has nodes quoted.Nil found q = no_symbols nodes q.0 constant.Nil found q.2 q.1 refl
constant_has nodes quoted.Unspecified found q = no_symbols nodes q.0 constant.Unspecified found q.2 q.1 refl
constant_has nodes quoted.Undefined found q = no_symbols nodes q.0 constant.Undefined found q.2 q.1 refl
constant_has nodes quoted.Symbols found q =
    let P : Seq (Seq ℕ) → Type 0 = λ xs. Has nodes [] xs in subst P (sym (ap symbols q)) (no_data nodes)

pub constant_waits : (nodes : Seq Node) (h : Quoted) (found : Seq Part) (start waiting : Seq ℕ) → IsQuoted nodes h found → start ≡ []
    → waiting ≡ start ++ reverse (data_of nodes h) → Wait nodes waiting (symbols found)
constant_waits nodes h found start waiting q empty pushed =
    let has = constant_has nodes h found q in
    let order : reverse waiting ≡ data_of nodes h =
    ap reverse (pushed ∙ ap (λ l. l ++ reverse (data_of nodes h)) empty) ∙ reverse-reverse (data_of nodes h) in
    let P : Seq ℕ → Type 0 = λ is. StandAll nodes is has.inner in
    (has.inner, subst P (sym order) has.all, has.same)

-- Expressions

pub const_part : (names : Names) (nodes : Seq Node) (t : Table) (what : What Variable) (k : ℕ) (h : Quoted) (found : Seq Part) → what ≡ form.Const k
    → slice_get t.constants.items k ≡ Some h → IsPart names nodes t what found → IsQuoted nodes h found
const_part names nodes t what k h found e got part =
    let P : What Variable → Type 0 = λ w. IsPart names nodes t w found in
    let q = subst P e part in
    let Q : Quoted → Type 0 = λ x. IsQuoted nodes x found in
    subst Q (same_item (slice_get t.constants.items k) q.0 h q.1 got) q.2

no_const : (names : Names) (nodes : Seq Node) (t : Table) (what : What Variable) (found : Seq Part) → ((k : ℕ) → what ≡ form.Const k → ⊥)
    → IsPart names nodes t what found → symbols found ≡ []
no_const names nodes t (form.Const k) found no_k h = absurd (no_k k refl)
no_const names nodes t (form.Ref v) found no_k h = ap symbols h
no_const names nodes t (form.Lambda vs r b) found no_k h = ap symbols h
no_const names nodes t (form.If a b c) found no_k h = ap symbols h
no_const names nodes t (form.Set v b) found no_k h = ap symbols h
no_const names nodes t (form.Call b bs) found no_k h = ap symbols h
no_const names nodes t (form.Prim o bs) found no_k h = ap symbols h
no_const names nodes t (form.Seq bs) found no_k h = ap symbols h
no_const names nodes t (form.Fix vs bs b) found no_k h = ap symbols h
no_const names nodes t (form.Define v b) found no_k h = ap symbols h

pub other_takes : (names : Names) (nodes : Seq Node) (t : Table) (what : What Variable) (found : Seq Part) (f : Firsts) → ((k : ℕ) → what ≡ form.Const k → ⊥)
    → IsPart names nodes t what found → TakesNames names (symbols found) f f
other_takes names nodes t what found f no_k h = takes_same names (symbols found) [] f f (no_const names nodes t what found no_k h) (nothing_takes names f)

-- Expressions in order

pub symbols-append : (ps qs : Seq Part) → symbols (ps ++ qs) ≡ symbols ps ++ symbols qs
symbols-append [] qs = refl
symbols-append (Held c ∷ ps) qs =
    ap (λ l. symbols_in c ++ l) (symbols-append ps qs) ∙ sym (append_assoc (symbols_in c) (symbols ps) (symbols qs))
symbols-append (ListsSymbols ∷ ps) qs = symbols-append ps qs
symbols-append (Referred x ∷ ps) qs = symbols-append ps qs
symbols-append (Changed x ∷ ps) qs = symbols-append ps qs

-- the symbols of the first expressions are taken
pub record Partly (names : Names) (nodes : Seq Node) (t : Table) (order : Seq ℕ) (found : Seq Part) (f g : Firsts) : Type 0 where
  pub done : Seq Part
  pub rest : Seq Part
  pub whole : found ≡ done ++ rest
  pub left : AreParts names nodes t order rest
  pub takes : TakesNames names (symbols done) f g

pub partly_begun : (names : Names) (nodes : Seq Node) (t : Table) (order : Seq ℕ) (found : Seq Part) (f : Firsts)
    → AreParts names nodes t order found → Partly names nodes t order found f f
partly_begun names nodes t order found f h =
    record { done = []; rest = found; whole = refl; left = h; takes = nothing_takes names f }

pub partly_more : (names : Names) (nodes : Seq Node) (t : Table) (order : Seq ℕ) (i : ℕ) (found : Seq Part) (f g h : Firsts) → i < length order
    → Partly names nodes t (drop i order) found f g
    → ((what : What Variable) (p : Pos) (first : Seq Part) → IsNode t.exprs.items (get_or order i 0) what p → IsPart names nodes t what first
    → TakesNames names (symbols first) g h)
    → Partly names nodes t (drop (i + 1) order) found f h
partly_more names nodes t order i found f g h within part step =
    let one : suc i ≡ i + 1 = omega arith in
    let split : drop i order ≡ get_or order i 0 ∷ drop (i + 1) order =
    drop-cons order i 0 within ∙ ap (λ n. get_or order i 0 ∷ drop n order) one in
    let P : Seq ℕ → Type 0 = λ is. AreParts names nodes t is part.rest in
    let q = subst P split part.left in
    record {
      done = part.done ++ q.2;
      rest = q.3;
      whole = part.whole ∙ (ap (λ l. part.done ++ l) q.6 ∙ sym (append_assoc part.done q.2 q.3));
      left = q.7;
      takes =
          takes_same names (symbols (part.done ++ q.2)) (symbols part.done ++ symbols q.2) f h (symbols-append part.done q.2)
          (takes_then names (symbols part.done) (symbols q.2) f g h part.takes (step q.0 q.1 q.2 q.4 q.5));
    }

dropped_all : (xs : Seq ℕ) (i : ℕ) → length xs ≤ i → drop i xs ≡ []
dropped_all [] zero h = refl
dropped_all [] (suc i) h = refl
dropped_all (x ∷ xs) zero h = absurd (omega (arith, h))
dropped_all (x ∷ xs) (suc i) h = dropped_all xs i (omega (arith, h))

pub partly_ended : (names : Names) (nodes : Seq Node) (t : Table) (order : Seq ℕ) (i : ℕ) (found : Seq Part) (f g : Firsts) → length order ≤ i
    → Partly names nodes t (drop i order) found f g → TakesNames names (symbols found) f g
partly_ended names nodes t order i found f g past part =
    let P : Seq ℕ → Type 0 = λ is. AreParts names nodes t is part.rest in
    let over : part.rest ≡ [] = subst P (dropped_all order i past) part.left in
    takes_same names (symbols found) (symbols part.done) f g
    (ap symbols (part.whole ∙ (ap (λ l. part.done ++ l) over ∙ append-nil part.done))) part.takes
