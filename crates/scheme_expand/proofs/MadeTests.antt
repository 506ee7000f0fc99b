-- The test whether a variable is one of some constants, made from the last constant to the first.
use Rattle.std.proofs.Common.{◌≡◌, ℕ, zero, suc, ◌+◌, List, [], ◌∷◌, ◌++◌, length, refl, sym, ap, subst, ◌∙◌, append_assoc, arith}
use Rattle.std.proofs.lemmas.List.{length-append}
use Rattle.scheme_base.specs.declared.pos.Pos.{Pos}
use Rattle.scheme_base.specs.declared.op.Op.TheVariants as op
use Rattle.scheme_base.specs.Constants.{Constant}
use Rattle.datum_form.specs.Data.{Datum, Items}
use Rattle.datum_form.specs.Data.Items.{none as no_item, item as item_before}
use Rattle.datum_form.specs.Stands.{StandAll}
use Rattle.draft_form.specs.declared.draft.Constant.TheVariants as held
use Rattle.draft_form.specs.declared.draft.Drafts.{Drafts as Table}
use Rattle.draft_form.specs.Drafts.{Draft, Fresh, Const, Ref, Prim}
use Rattle.draft_form.specs.Drawn.{Names, Data, Drawn}
use Rattle.draft_form.specs.Made.{either as either_of}
use Rattle.draft_form.specs.Quoted.{IsHeld}
use Rattle.scheme_expand.specs.Calls.{two}
use Rattle.scheme_expand.specs.Grammar.{each_constant}
use Rattle.scheme_expand.specs.Rewriting.{inside, is_one_of, level, unnamed, within, Scope}
use Rattle.scheme_expand.proofs.MadeLetrecs.{level_within, many_unnamed}

-- these nodes are these constants
abbrev pub AreHeld : Data → List ℕ → List Constant → Type 0
AreHeld nodes [] qs = qs ≡ []
AreHeld nodes (id ∷ ids) [] = ⊥
AreHeld nodes (id ∷ ids) (q ∷ qs) = IsHeld nodes (held.Datum id) q × AreHeld nodes ids qs

pub constants_held : (nodes : Data) (ids : List ℕ) (ds : Items) → StandAll nodes ids ds → AreHeld nodes ids (each_constant ds)
constants_held nodes ids no_item h = subst (λ l. AreHeld nodes l []) (sym h) refl
constants_held nodes ids (item_before d ds) h =
    subst (λ l. AreHeld nodes l (each_constant (item_before d ds))) (sym h.2)
    ((d, h.3, refl), constants_held nodes h.1 ds h.4)

record Last (nodes : Data) (ids : List ℕ) (id : ℕ) (qs : List Constant) : Type 0 where
  front : List Constant
  last : Constant
  are : qs ≡ front ++ last ∷ []
  others : AreHeld nodes ids front
  held : IsHeld nodes (held.Datum id) last

last_held : (nodes : Data) (ids : List ℕ) (id : ℕ) (qs : List Constant) → AreHeld nodes (ids ++ id ∷ []) qs → Last nodes ids id qs
last_held nodes [] id [] h = absurd h
last_held nodes [] id (q ∷ qs) h = record { front = []; last = q; are = ap (λ l. q ∷ l) h.1; others = refl; held = h.0 }
last_held nodes (i ∷ ids) id [] h = absurd h
last_held nodes (i ∷ ids) id (q ∷ qs) h =
    let more = last_held nodes ids id qs h.1 in
    record { front = q ∷ more.front; last = more.last; are = ap (λ l. q ∷ l) more.are; others = (h.0, more.others); held = more.held }

as_many : (nodes : Data) (ids : List ℕ) (qs : List Constant) → AreHeld nodes ids qs → length ids ≡ length qs
as_many nodes [] qs h = sym (ap length h)
as_many nodes (i ∷ ids) [] h = absurd h
as_many nodes (i ∷ ids) (q ∷ qs) h = ap suc (as_many nodes ids qs h.1)

fresh_innermost : (bound : List (List ℕ)) (n : ℕ) → inside ([] ∷ bound) (unnamed n) ≡ [] ∷ inside bound (unnamed n)
fresh_innermost bound zero = refl
fresh_innermost bound (suc n) = fresh_innermost ([] ∷ bound) n

-- the comparison with one constant
abbrev pub compared : Pos → (level : ℕ) → Constant → Draft
compared p k q = Prim p op.Eqv (two (Ref p (Fresh k)) (Const p q))

-- the comparisons behind some constants are made
pub record Tested (names : Names) (nodes : Data) (t : Table) (p : Pos) (k : ℕ) (s : Scope) (qs : List Constant) (rest : List ℕ) (test : ℕ) : Type 0 where
  pub front : List Constant
  pub next : Constant
  pub back : List Constant
  pub are : qs ≡ front ++ next ∷ back
  pub others : AreHeld nodes rest front
  pub drawn : Drawn names nodes t test (is_one_of p (within s (unnamed (length front))) (Fresh k) (next ∷ back))

pub last_tested : (names : Names) (nodes : Data) (t : Table) (p : Pos) (k : ℕ) (s : Scope) (qs : List Constant) (ids rest : List ℕ) (id test : ℕ)
    → AreHeld nodes ids qs → ids ≡ rest ++ id ∷ []
    → ((q : Constant) → IsHeld nodes (held.Datum id) q → Drawn names nodes t test (compared p k q)) → Tested names nodes t p k s qs rest test
last_tested names nodes t p k s qs ids rest id test h e drawn =
    let last = last_held nodes rest id qs (subst (λ l. AreHeld nodes l qs) e h) in
    record { front = last.front; next = last.last; back = []; are = last.are; others = last.others; drawn = drawn last.last last.held }

pub one_tested : (names : Names) (nodes : Data) (a b : Table) (p : Pos) (k high : ℕ) (s : Scope) (qs : List Constant) (rest before : List ℕ) (id test new : ℕ)
    → level s ≡ suc k → high ≡ k + length rest → Tested names nodes a p k s qs rest test → rest ≡ before ++ id ∷ []
    → ((q : Constant) (e : Draft) → IsHeld nodes (held.Datum id) q → Drawn names nodes a test e → Drawn names nodes b new (either_of p high (compared p k q) e))
    → Tested names nodes b p k s qs before new
one_tested names nodes a b p k high s qs rest before id test new at above h e drawn =
    let last = last_held nodes before id h.front (subst (λ l. AreHeld nodes l h.front) e h.others) in
    let n : ℕ = length last.front in
    let count : length h.front ≡ n + length (last.last ∷ []) = ap length last.are ∙ length-append last.front (last.last ∷ []) in
    let many : length h.front ≡ suc n = omega arith in
    let size : length rest ≡ suc n = as_many nodes rest h.front h.others ∙ many in
    let t : Scope = within s (unnamed n) in
    let top : level t ≡ high = level_within s (unnamed n) ∙ (let many_fresh : length (unnamed n) ≡ n = many_unnamed n in omega arith) in
    let P : List (List ℕ) → Draft = λ bound. is_one_of p (record { side = s.side; bound = bound }) (Fresh k) (h.next ∷ h.back) in
    let inner : List (List ℕ) = [] ∷ inside s.bound (unnamed n) in
    let same : inside s.bound (unnamed (length h.front)) ≡ inner =
    ap (λ m. inside s.bound (unnamed m)) many ∙ fresh_innermost s.bound n in
    let tests : Drawn names nodes a test (P inner) = subst (λ bound. Drawn names nodes a test (P bound)) same h.drawn in
    let made : Drawn names nodes b new (either_of p high (compared p k last.last) (P inner)) = drawn last.last (P inner) last.held tests in
    record {
      front = last.front;
      next = last.last;
      back = h.next ∷ h.back;
      are = h.are ∙ (ap (λ l. l ++ h.next ∷ h.back) last.are ∙ append_assoc last.front (last.last ∷ []) (h.next ∷ h.back));
      others = last.others;
      drawn = subst (λ j. Drawn names nodes b new (either_of p j (compared p k last.last) (P inner))) (sym top) made;
    }

pub all_tested : (names : Names) (nodes : Data) (t : Table) (p : Pos) (k : ℕ) (s : Scope) (qs : List Constant) (rest : List ℕ) (test : ℕ)
    → Tested names nodes t p k s qs rest test → rest ≡ [] → Drawn names nodes t test (is_one_of p s (Fresh k) qs)
all_tested names nodes t p k s qs rest test h e =
    let none : h.front ≡ [] = subst (λ l. AreHeld nodes l h.front) e h.others in
    subst (λ l. Drawn names nodes t test (is_one_of p s (Fresh k) l)) (sym (h.are ∙ ap (λ l. l ++ h.next ∷ h.back) none))
    (subst (λ l. Drawn names nodes t test (is_one_of p (within s (unnamed (length l))) (Fresh k) (h.next ∷ h.back))) none h.drawn)
