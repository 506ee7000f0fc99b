-- Each symbol of a text is the name of a word.
use Rattle.std.proofs.Common.{◌≡◌, ℕ, zero, suc, List, [], ◌∷◌, ◌++◌, Option, Some, None, Bool, true, false, ◌||◌, if◌then◌else◌, refl, sym, ap, subst, ◌∙◌, bytes_eq}
use Rattle.std.specs.Prelude.{slice_get}
use Rattle.std.specs.Borrow.{Bor}
use Rattle.core_form.specs.declared.program.What.{What}
use Rattle.core_form.specs.declared.program.What.TheVariants as form
use Rattle.datum_form.specs.declared.datums.Kind.TheVariants as kind
use Rattle.datum_form.specs.declared.datums.Node.{Node}
use Rattle.datum_form.specs.declared.token.Atom.TheVariants.{Integer, Boolean, Character, String, Symbol}
use Rattle.datum_form.specs.Data.{Datum, Datum as datum, Items}
use Rattle.datum_form.specs.Data.Items.{none, item}
use Rattle.datum_form.specs.Stands.{Stands, StandAll}
use Rattle.draft_form.specs.declared.draft.Drafts.{Drafts as Table}
use Rattle.draft_form.specs.declared.draft.Variable.{Variable}
use Rattle.draft_form.specs.Drafts.{Part}
use Rattle.draft_form.specs.Drawn.{Names}
use Rattle.draft_form.specs.Quoted.{constant_of}
use Rattle.scheme_expand.specs.ByWord.{all_names}
use Rattle.scheme_expand.specs.Order.{IsPart, AreParts}
use Rattle.scheme_expand.specs.Programs.{symbols, symbols_in, those_of, unlisted}
use Rattle.scheme_expand.specs.Rewriting.{has_name}
use Rattle.scheme_expand.specs.Symbols.{item_symbols, AreSpelled}
use Rattle.scheme_expand.proofs.Scoping.{bytes_same}
use Rattle.scheme_expand.proofs.SymbolsInOrder.{constant_has, symbols_list, symbols_proper, symbols_row, symbols-append}

abbrev pub AreListed : Names → List (List ℕ) → Type 0
AreListed names [] = Unit {0}
AreListed names (x ∷ xs) = (has_name (all_names names) x ≡ true) × AreListed names xs

pub both_listed : (names : Names) (xs ys : List (List ℕ)) → AreListed names xs → AreListed names ys → AreListed names (xs ++ ys)
both_listed names [] ys h k = k
both_listed names (x ∷ xs) ys h k = (h.0, both_listed names xs ys h.1 k)

or_true : (b : Bool) → (b || true) ≡ true
or_true true = refl
or_true false = refl

pub word_listed : (names : Names) (w : ℕ) (y : Bor (List ℕ)) → slice_get names w ≡ Some y → has_name (all_names names) y.now ≡ true
word_listed [] w y h = absurd (none_some y h)
  where
    none_some : (y : Bor (List ℕ)) → None ≡ Some y → ⊥
    none_some y h = cc
word_listed (x ∷ names) zero y h =
    ap (λ b. b || has_name (all_names names) y.now) (ap (λ z. bytes_eq y.now z) (ap (λ z. z.now) (same x y h)) ∙ bytes_same y.now)
  where
    same : (x y : Bor (List ℕ)) → Some x ≡ Some y → x ≡ y
    same x y e = cc
word_listed (x ∷ names) (suc w) y h =
    ap (λ b. bytes_eq y.now x.now || b) (word_listed names w y h) ∙ or_true (bytes_eq y.now x.now)

mutual
  datum_listed : (names : Names) (nodes : List Node) (words : List (Option ℕ)) (id : ℕ) (d : Datum) → AreSpelled names nodes words → Stands nodes id d
      → AreListed names (symbols_in (constant_of d))
  datum_listed names nodes words id (datum.Atomic p (Integer z)) spelled h = tt
  datum_listed names nodes words id (datum.Atomic p (Boolean b)) spelled h = tt
  datum_listed names nodes words id (datum.Atomic p (Character b)) spelled h = tt
  datum_listed names nodes words id (datum.Atomic p (String b)) spelled h = tt
  datum_listed names nodes words id (datum.Atomic p (Symbol x)) spelled h =
      let s = spelled id (record { kind = kind.Name x; pos = p }) h in
      let P : List ℕ → Type 0 = λ y. has_name (all_names names) y ≡ true in
      (subst P s.4 (word_listed names s.0 s.1 s.3), tt)
  datum_listed names nodes words id (datum.List p is) spelled h =
      let P : List (List ℕ) → Type 0 = λ xs. AreListed names xs in
      subst P (sym (symbols_proper is)) (items_listed names nodes words h.0 is spelled h.2)
  datum_listed names nodes words id (datum.Dotted p is d) spelled h =
      let P : List (List ℕ) → Type 0 = λ xs. AreListed names xs in
      subst P (sym (symbols_list is (constant_of d)))
      (both_listed names (item_symbols is) _ (items_listed names nodes words h.0 is spelled h.3) (datum_listed names nodes words h.1 d spelled h.4))
  datum_listed names nodes words id (datum.Vector p is) spelled h =
      let P : List (List ℕ) → Type 0 = λ xs. AreListed names xs in
      subst P (sym (symbols_row is)) (items_listed names nodes words h.0 is spelled h.2)

  items_listed : (names : Names) (nodes : List Node) (words : List (Option ℕ)) (ids : List ℕ) (is : Items) → AreSpelled names nodes words
      → StandAll nodes ids is → AreListed names (item_symbols is)
  items_listed names nodes words ids none spelled h = tt
  items_listed names nodes words ids (item d ds) spelled h =
      both_listed names (symbols_in (constant_of d)) (item_symbols ds) (datum_listed names nodes words h.0 d spelled h.3)
      (items_listed names nodes words h.1 ds spelled h.4)

empty_listed : (names : Names) (found : List Part) → symbols found ≡ [] → AreListed names (symbols found)
empty_listed names found e = let P : List (List ℕ) → Type 0 = λ xs. AreListed names xs in subst P (sym e) tt

part_listed : (names : Names) (nodes : List Node) (words : List (Option ℕ)) (t : Table) (what : What Variable) (found : List Part) → AreSpelled names nodes words
    → IsPart names nodes t what found → AreListed names (symbols found)
part_listed names nodes words t (form.Const k) found spelled h =
    let has = constant_has nodes h.0 found h.2 in
    let P : List (List ℕ) → Type 0 = λ xs. AreListed names xs in
    subst P (sym has.same) (items_listed names nodes words _ has.inner spelled has.all)
part_listed names nodes words t (form.Ref v) found spelled h = empty_listed names found (ap symbols h)
part_listed names nodes words t (form.Lambda vs r b) found spelled h = empty_listed names found (ap symbols h)
part_listed names nodes words t (form.If a b c) found spelled h = empty_listed names found (ap symbols h)
part_listed names nodes words t (form.Set v b) found spelled h = empty_listed names found (ap symbols h)
part_listed names nodes words t (form.Call b bs) found spelled h = empty_listed names found (ap symbols h)
part_listed names nodes words t (form.Prim o bs) found spelled h = empty_listed names found (ap symbols h)
part_listed names nodes words t (form.Seq bs) found spelled h = empty_listed names found (ap symbols h)
part_listed names nodes words t (form.Fix vs bs b) found spelled h = empty_listed names found (ap symbols h)
part_listed names nodes words t (form.Define v b) found spelled h = empty_listed names found (ap symbols h)

pub parts_listed : (names : Names) (nodes : List Node) (words : List (Option ℕ)) (t : Table) (order : List ℕ) (found : List Part) → AreSpelled names nodes words
    → AreParts names nodes t order found → AreListed names (symbols found)
parts_listed names nodes words t [] found spelled h = empty_listed names found (ap symbols h)
parts_listed names nodes words t (id ∷ ids) found spelled h =
    let P : List (List ℕ) → Type 0 = λ xs. AreListed names xs in
    subst P (sym (ap symbols h.6 ∙ symbols-append h.2 h.3))
    (both_listed names (symbols h.2) (symbols h.3) (part_listed names nodes words t h.0 h.2 spelled h.5)
    (parts_listed names nodes words t ids h.3 spelled h.7))

-- names that are listed are all taken

unlisted_listed : (names : Names) (before xs : List (List ℕ)) → AreListed names xs → AreListed names (unlisted before xs)
unlisted_listed names before [] h = tt
unlisted_listed names before (x ∷ xs) h =
    by_test (unlisted_listed names before xs h.1) (unlisted_listed names (x ∷ before) xs h.1) (has_name before x)
  where
    by_test : AreListed names (unlisted before xs) → AreListed names (unlisted (x ∷ before) xs)
        → (b : Bool) → AreListed names (if b then unlisted before xs else x ∷ unlisted (x ∷ before) xs)
    by_test a c true = a
    by_test a c false = (h.0, c)

those_listed : (names : Names) (xs : List (List ℕ)) → AreListed names xs → those_of (all_names names) xs ≡ xs
those_listed names [] h = refl
those_listed names (x ∷ xs) h =
    ap (λ b. if b then x ∷ those_of (all_names names) xs else those_of (all_names names) xs) h.0
    ∙ ap (λ l. x ∷ l) (those_listed names xs h.1)

pub all_taken_once : (names : Names) (xs : List (List ℕ)) → AreListed names xs → those_of (all_names names) (unlisted [] xs) ≡ unlisted [] xs
all_taken_once names xs h = those_listed names (unlisted [] xs) (unlisted_listed names [] xs h)
