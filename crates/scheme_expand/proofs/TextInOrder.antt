-- A walk through drafts lists their expressions in the order of their text.
use Rattle.std.proofs.Common.{◌≡◌, ℕ, ◌+◌, ◌<◌, ◌≤◌, List, [], ◌∷◌, ◌++◌, length, take, get_or, reverse, refl, sym, ap, subst, ◌∙◌, append_assoc, append-nil}
use Rattle.std.specs.Prelude.{slice_get, Some}
use Rattle.std.proofs.lemmas.List.{reverse-append, reverse-reverse, take_more}
use Rattle.scheme_base.specs.declared.pos.Pos.{Pos}
use Rattle.scheme_base.specs.Constants.{Constant}
use Rattle.scheme_base.proofs.Lists.{same_item, nil-cons, same_head, same_tail}
use Rattle.core_form.specs.declared.program.Node.{Node}
use Rattle.core_form.specs.declared.program.What.{What}
use Rattle.core_form.specs.declared.program.What.TheVariants as form
use Rattle.core_form.specs.Trees.{IsNode}
use Rattle.draft_form.specs.declared.draft.Constant.{Constant as Quoted}
use Rattle.draft_form.specs.declared.draft.Constant.TheVariants as quoted
use Rattle.draft_form.specs.declared.draft.Drafts.{Drafts as Table}
use Rattle.draft_form.specs.declared.draft.Variable.{Variable}
use Rattle.draft_form.specs.Drafts.{Draft, Drafts, Part, Const, Symbols, Ref, Lambda, If, Set, Call, Prim, Seq, Fix, Define, none, item, ◌then◌, Held, ListsSymbols, Referred, Changed, parts, all_parts}
use Rattle.draft_form.specs.Drawn.{Names, Data, Drawn, AllDrawn}
use Rattle.draft_form.specs.Parts.{ids_in}
use Rattle.draft_form.specs.Quoted.{IsHeld}
use Rattle.draft_form.proofs.FormsNumbered.{parts-then, parts_behind}
use Rattle.draft_form.proofs.LiteralsAdded.{taken_all}
use Rattle.draft_form.proofs.Reversed.{reversed_last}
use Rattle.scheme_expand.specs.Order.{IsQuoted, IsPart, AreParts, Lists}
use Rattle.scheme_expand.proofs.FormsBehind.{last_drawn, no_drafts}

-- Lists of drafts

drawn-then : (names : Names) (data_nodes : Data) (t : Table) (ids others : List ℕ) (es fs : Drafts) → AllDrawn names data_nodes t ids es
    → AllDrawn names data_nodes t others fs → AllDrawn names data_nodes t (ids ++ others) (es then fs)
drawn-then names data_nodes t ids others none fs h k =
    let P : List ℕ → Type 0 = λ is. AllDrawn names data_nodes t (is ++ others) fs in subst P (sym h) k
drawn-then names data_nodes t ids others (item e es) fs h k =
    (h.0, h.1 ++ others, ap (λ is. is ++ others) h.2, h.3, drawn-then names data_nodes t h.1 others es fs h.4 k)

parts-append : (names : Names) (data_nodes : Data) (t : Table) (ids others : List ℕ) (ps qs : List Part) → AreParts names data_nodes t ids ps
    → AreParts names data_nodes t others qs → AreParts names data_nodes t (ids ++ others) (ps ++ qs)
parts-append names data_nodes t [] others ps qs h k =
    let P : List Part → Type 0 = λ l. AreParts names data_nodes t others (l ++ qs) in subst P (sym h) k
parts-append names data_nodes t (id ∷ ids) others ps qs h k = (
  h.0,
  h.1,
  h.2,
  h.3 ++ qs,
  h.4,
  h.5,
  ap (λ l. l ++ qs) h.6 ∙ append_assoc h.2 h.3 qs,
  parts-append names data_nodes t ids others h.3 qs h.7 k,
)

-- An expression and its parts

is_quoted : (data_nodes : Data) (h : Quoted) (c : Constant) → IsHeld data_nodes h c → IsQuoted data_nodes h (Held c ∷ [])
is_quoted data_nodes (quoted.Datum id) c k = (c, k, refl)
is_quoted data_nodes (quoted.Rest id from) c k = (c, k, refl)
is_quoted data_nodes (quoted.Integer z) c k = (c, k, refl)
is_quoted data_nodes (quoted.Boolean b) c k = (c, k, refl)
is_quoted data_nodes quoted.Nil c k = (c, k, refl)
is_quoted data_nodes quoted.Unspecified c k = (c, k, refl)
is_quoted data_nodes quoted.Undefined c k = (c, k, refl)
is_quoted data_nodes quoted.Symbols c k = absurd k

record Splits (names : Names) (data_nodes : Data) (t : Table) (id : ℕ) (e : Draft) : Type 0 where
  what : What Variable
  pos : Pos
  node : IsNode t.exprs.items id what pos
  own : List Part
  is_own : IsPart names data_nodes t what own
  inner : Drafts
  drawn : AllDrawn names data_nodes t (ids_in what) inner
  whole : parts e ≡ own ++ all_parts inner

split : (names : Names) (data_nodes : Data) (t : Table) (id : ℕ) (e : Draft) → Drawn names data_nodes t id e → Splits names data_nodes t id e
split names data_nodes t id (Const p c) d =
    record {
      what = form.Const d.0;
      pos = p;
      node = d.2;
      own = Held c ∷ [];
      is_own = (d.1, d.3, is_quoted data_nodes d.1 c d.4);
      inner = none;
      drawn = refl;
      whole = refl;
    }
split names data_nodes t id (Symbols p) d =
    record {
      what = form.Const d.0;
      pos = p;
      node = d.1;
      own = ListsSymbols ∷ [];
      is_own = (quoted.Symbols, d.2, refl);
      inner = none;
      drawn = refl;
      whole = refl;
    }
split names data_nodes t id (Ref p x) d =
    record {
      what = form.Ref d.0;
      pos = p;
      node = d.1;
      own = Referred x ∷ [];
      is_own = ap (λ y. Referred y ∷ []) d.2;
      inner = none;
      drawn = refl;
      whole = refl;
    }
split names data_nodes t id (Lambda p xs r e) d =
    record {
      what = form.Lambda d.0 d.1 d.2;
      pos = p;
      node = d.3;
      own = [];
      is_own = refl;
      inner = item e none;
      drawn = (d.2, [], refl, d.6, refl);
      whole = sym (append-nil (parts e));
    }
split names data_nodes t id (If p e f g) d =
    record {
      what = form.If d.0 d.1 d.2;
      pos = p;
      node = d.3;
      own = [];
      is_own = refl;
      inner = item e (item f (item g none));
      drawn = (d.0, d.1 ∷ d.2 ∷ [], refl, d.4, (d.1, d.2 ∷ [], refl, d.5, (d.2, [], refl, d.6, refl)));
      whole = ap (λ l. parts e ++ (parts f ++ l)) (sym (append-nil (parts g)));
    }
split names data_nodes t id (Set p x e) d =
    record {
      what = form.Set d.0 d.1;
      pos = p;
      node = d.2;
      own = Changed x ∷ [];
      is_own = ap (λ y. Changed y ∷ []) d.3;
      inner = item e none;
      drawn = (d.1, [], refl, d.4, refl);
      whole = ap (λ l. Changed x ∷ l) (sym (append-nil (parts e)));
    }
split names data_nodes t id (Call p f es) d =
    record {
      what = form.Call d.0 d.1;
      pos = p;
      node = d.2;
      own = [];
      is_own = refl;
      inner = item f es;
      drawn = (d.0, d.1, refl, d.3, d.4);
      whole = refl;
    }
split names data_nodes t id (Prim p o es) d =
    record { what = form.Prim o d.0; pos = p; node = d.1; own = []; is_own = refl; inner = es; drawn = d.2; whole = refl }
split names data_nodes t id (Seq p es) d =
    record { what = form.Seq d.0; pos = p; node = d.1; own = []; is_own = refl; inner = es; drawn = d.2; whole = refl }
split names data_nodes t id (Fix p xs es e) d =
    record {
      what = form.Fix d.0 d.1 d.2;
      pos = p;
      node = d.3;
      own = [];
      is_own = refl;
      inner = es then item e none;
      drawn = drawn-then names data_nodes t d.1 (d.2 ∷ []) es (item e none) d.5 (d.2, [], refl, d.6, refl);
      whole = sym (parts_behind es e);
    }
split names data_nodes t id (Define p x e) d =
    record {
      what = form.Define d.0 d.1;
      pos = p;
      node = d.2;
      own = Changed x ∷ [];
      is_own = ap (λ y. Changed y ∷ []) d.3;
      inner = item e none;
      drawn = (d.1, [], refl, d.4, refl);
      whole = ap (λ l. Changed x ∷ l) (sym (append-nil (parts e)));
    }

-- A walk, of which the expressions that wait are the last

-- so far a part of the text is listed, and what waits is the rest
pub record Waits (names : Names) (data_nodes : Data) (t : Table) (waiting before order : List ℕ) (found : List Part) : Type 0 where
  pub rest : Drafts
  pub drawn : AllDrawn names data_nodes t (reverse waiting) rest
  pub ids : List ℕ
  pub order_is : order ≡ before ++ ids
  pub listed : List Part
  pub are_listed : AreParts names data_nodes t ids listed
  pub whole : found ≡ listed ++ all_parts rest

pub walk_begun : (names : Names) (data_nodes : Data) (t : Table) (waiting before order : List ℕ) (form_id : ℕ) (e : Draft) → waiting ≡ form_id ∷ []
    → order ≡ before → Drawn names data_nodes t form_id e → Waits names data_nodes t waiting before order (parts e)
walk_begun names data_nodes t waiting before order form_id e one same drawn =
    let P : List ℕ → Type 0 = λ is. AllDrawn names data_nodes t (reverse is) (item e none) in
    record {
      rest = item e none;
      drawn = subst P (sym one) (form_id, [], refl, drawn, refl);
      ids = [];
      order_is = same ∙ sym (append-nil before);
      listed = [];
      are_listed = refl;
      whole = sym (append-nil (parts e));
    }

turn : (names : Names) (data_nodes : Data) (t : Table) (others after before order later : List ℕ) (id : ℕ) (draft : Node Variable)
    (found listed : List Part) (ids : List ℕ) (rest : Drafts) → AllDrawn names data_nodes t (id ∷ reverse others) rest → order ≡ before ++ ids
    → AreParts names data_nodes t ids listed → found ≡ listed ++ all_parts rest → slice_get t.exprs.items id ≡ Some draft
    → later ≡ order ++ id ∷ [] → after ≡ others ++ reverse (ids_in draft.what) → Waits names data_nodes t after before later found
turn names data_nodes t others after before order later id draft found listed ids none all e h k got added pushed =
    absurd (nil-cons id (reverse others) (sym all))
turn names data_nodes t others after before order later id draft found listed ids (item d ds) all e h k got added pushed =
    let D : ℕ → Type 0 = λ i. Drawn names data_nodes t i d in
    let R : List ℕ → Type 0 = λ is. AllDrawn names data_nodes t is ds in
    let s = split names data_nodes t id d (subst D (sym (same_head id all.0 (reverse others) all.1 all.2)) all.3) in
    let rest : AllDrawn names data_nodes t (reverse others) ds = subst R (sym (same_tail id all.0 (reverse others) all.1 all.2)) all.4 in
    let same : draft.what ≡ s.what = ap (λ n. n.what) (same_item (slice_get t.exprs.items id) draft (record { what = s.what; pos = s.pos }) got s.node) in
    let waits : reverse after ≡ ids_in s.what ++ reverse others =
    ap reverse pushed
    ∙ (reverse-append others (reverse (ids_in draft.what))
    ∙ (ap (λ is. is ++ reverse others) (reverse-reverse (ids_in draft.what) ∙ ap ids_in same))) in
    let A : List ℕ → Type 0 = λ is. AllDrawn names data_nodes t is (s.inner then ds) in
    record {
      rest = s.inner then ds;
      drawn = subst A (sym waits) (drawn-then names data_nodes t (ids_in s.what) (reverse others) s.inner ds s.drawn rest);
      ids = ids ++ id ∷ [];
      order_is = added ∙ (ap (λ is. is ++ id ∷ []) e ∙ append_assoc before ids (id ∷ []));
      listed = listed ++ s.own;
      are_listed =
          parts-append names data_nodes t ids (id ∷ []) listed s.own h
          (s.what, s.pos, s.own, [], s.node, s.is_own, sym (append-nil s.own), refl);
      whole =
          k
          ∙ (ap (λ ps. listed ++ (ps ++ all_parts ds)) s.whole
          ∙ (ap (λ ps. listed ++ ps)
          (append_assoc s.own (all_parts s.inner) (all_parts ds) ∙ ap (λ ps. s.own ++ ps) (sym (parts-then s.inner ds)))
          ∙ sym (append_assoc listed s.own (all_parts (s.inner then ds)))));
    }

pub walk_on : (names : Names) (data_nodes : Data) (t : Table) (waiting others after before order later : List ℕ) (id : ℕ) (draft : Node Variable)
    (found : List Part) → Waits names data_nodes t waiting before order found → waiting ≡ others ++ id ∷ []
    → slice_get t.exprs.items id ≡ Some draft → later ≡ order ++ id ∷ [] → after ≡ others ++ reverse (ids_in draft.what)
    → Waits names data_nodes t after before later found
walk_on names data_nodes t waiting others after before order later id draft found w popped got added pushed =
    let P : List ℕ → Type 0 = λ is. AllDrawn names data_nodes t is w.rest in
    turn names data_nodes t others after before order later id draft found w.listed w.ids w.rest
    (subst P (ap reverse popped ∙ reversed_last others id) w.drawn) w.order_is w.are_listed w.whole got added pushed

pub walk_ended : (names : Names) (data_nodes : Data) (t : Table) (waiting before order : List ℕ) (found : List Part)
    → Waits names data_nodes t waiting before order found → waiting ≡ [] → Lists names data_nodes t before order found
walk_ended names data_nodes t waiting before order found w empty =
    let P : List Part → Type 0 = λ ps. AreParts names data_nodes t w.ids ps in
    let rest : w.rest ≡ none = no_drafts names data_nodes t (reverse waiting) w.rest (ap reverse empty) w.drawn in
    (w.ids, w.order_is, subst P (sym (w.whole ∙ (ap (λ es. w.listed ++ all_parts es) rest ∙ append-nil w.listed))) w.are_listed)

-- Forms one after another

-- the order of these forms
abbrev pub IsOrder : Names → Data → Table → (forms order : List ℕ) → Type 0
IsOrder names data_nodes t forms order = (es : Drafts) → AllDrawn names data_nodes t forms es → AreParts names data_nodes t order (all_parts es)

pub no_form_listed : (names : Names) (data_nodes : Data) (t : Table) (order : List ℕ) → order ≡ [] → IsOrder names data_nodes t [] order
no_form_listed names data_nodes t order empty es all =
    let P : List ℕ → Type 0 = λ is. AreParts names data_nodes t is (all_parts es) in
    subst P (sym empty) (ap all_parts (no_drafts names data_nodes t [] es refl all))

pub form_listed : (names : Names) (data_nodes : Data) (t : Table) (forms order later : List ℕ) (i : ℕ) → i < length forms
    → IsOrder names data_nodes t (take i forms) order
    → ((e : Draft) → Drawn names data_nodes t (get_or forms i 0) e → Lists names data_nodes t order later (parts e))
    → IsOrder names data_nodes t (take (i + 1) forms) later
form_listed names data_nodes t forms order later i within first next es all =
    let A : List ℕ → Type 0 = λ is. AllDrawn names data_nodes t is es in
    let r = last_drawn names data_nodes t (take i forms) (get_or forms i 0) es (subst A (take_more forms i 0 within) all) in
    let last = next r.last r.drawn in
    let both = parts-append names data_nodes t order last.0 (all_parts r.before) (parts r.last) (first r.before r.all) last.2 in
    let P : List ℕ → Type 0 = λ is. AreParts names data_nodes t is (all_parts r.before ++ parts r.last) in
    let Q : List Part → Type 0 = λ ps. AreParts names data_nodes t later ps in
    subst Q (sym (ap all_parts r.is ∙ parts_behind r.before r.last)) (subst P (sym last.1) both)

pub all_listed : (names : Names) (data_nodes : Data) (t : Table) (forms order : List ℕ) (i : ℕ) → length forms ≤ i
    → IsOrder names data_nodes t (take i forms) order → IsOrder names data_nodes t forms order
all_listed names data_nodes t forms order i past h =
    let P : List ℕ → Type 0 = λ is. IsOrder names data_nodes t is order in subst P (taken_all forms i past) h
