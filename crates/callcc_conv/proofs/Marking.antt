-- The marks of the procedures that are captured, and the calls in record mode by them.
use Rattle.std.proofs.Common.{◌≡◌, ℕ, ◌<◌, ◌≤◌, inl, inr, Bool, true, false, List, [], ◌∷◌, ◌++◌, cond, length, replicate, set, refl, sym, ap, ◌∙◌, subst, arith, eq-eqb, ne_eqb, append_assoc, get_or-set_other, get_or-set_same}
use Rattle.std.specs.Prelude.{nat_eq, not, ◌||◌, ◌&&◌, map, if◌then◌else◌}
use Rattle.std.specs.List.{filter, list_any}
use Rattle.std.proofs.lemmas.Bool.{cases_eq, cases_lt}
use Rattle.std.proofs.lemmas.List.{get_or-replicate, get_or_past, length-replicate, length-set}
use Rattle.flow_constraints.specs.declared.flow.Flow.{Flow}
use Rattle.flow_form.specs.declared.rows.Rows.{Rows}
use Rattle.least_set.specs.Least.{all_below, has}
use Rattle.least_set.proofs.Has.{below_at}
use Rattle.named_form.specs.Code.{Written}
use Rattle.plan_facts.specs.declared.place.Place.{Place}
use Rattle.plan_facts.specs.Calls.{entered, may_resume}
use Rattle.plan_facts.specs.Capturing.{in_record_mode}
use Rattle.plan_facts.specs.Places.{facts}
use Rattle.callcc_conv.specs.Recording.{is_marked, marked, marked_after, recorded, records}

set_mark : (marks : List Bool) (n k : ℕ) → k < length marks → is_marked (set marks n true) k ≡ (is_marked marks k || nat_eq k n)
set_mark marks n k below =
    elim (cases_eq k n) [
      | inl e ↦
          let there : n < length marks = subst (λ m. m < length marks) e below in
          ap (is_marked (set marks n true)) e
          ∙ (get_or-set_same marks n true false there ∙ sym (ap (λ b. is_marked marks k || b) (eq-eqb k n e) ∙ or_true (is_marked marks k)))
      | inr other ↦
          get_or-set_other marks n k true false other
          ∙ sym (ap (λ b. is_marked marks k || b) (ne_eqb k n other) ∙ or_false (is_marked marks k))
    ]
  where
    or_true : (a : Bool) → (a || true) ≡ true
    or_true true = refl
    or_true false = refl

    or_false : (a : Bool) → (a || false) ≡ a
    or_false true = refl
    or_false false = refl

or_assoc : (a b c : Bool) → ((a || b) || c) ≡ (a || (b || c))
or_assoc true b c = refl
or_assoc false b c = refl

or_none : (a : Bool) → (a || false) ≡ a
or_none true = refl
or_none false = refl

all_marks : (marks : List Bool) (ns : List ℕ) (k : ℕ) → k < length marks → is_marked (marked_after marks ns) k ≡ (is_marked marks k || has ns k)
all_marks marks [] k below = sym (or_none (is_marked marks k))
all_marks marks (n ∷ ns) k below =
    all_marks (set marks n true) ns k (subst (λ m. k < m) (sym (length-set marks n true)) below)
    ∙ (ap (λ b. b || has ns k) (set_mark marks n k below) ∙ or_assoc (is_marked marks k) (nat_eq k n) (has ns k))

many_marks : (marks : List Bool) (ns : List ℕ) → length (marked_after marks ns) ≡ length marks
many_marks marks [] = refl
many_marks marks (n ∷ ns) = many_marks (set marks n true) ns ∙ length-set marks n true

none_past : (many : ℕ) (ns : List ℕ) (k : ℕ) → all_below many ns ≡ true → many ≤ k → has ns k ≡ false
none_past many ns k below past = by_test (has ns k) refl
  where
    by_test : (b : Bool) → has ns k ≡ b → has ns k ≡ false
    by_test true h = let less = below_at many ns k below h in absurd (omega (arith, less, past))
    by_test false h = h

-- the marks tell what a list of numbers below the bound has
tells : (many : ℕ) (ns : List ℕ) → all_below many ns ≡ true → (k : ℕ) → is_marked (marked many ns) k ≡ has ns k
tells many ns below k =
    elim (cases_lt k many) [
      | inl less ↦
          all_marks (replicate many false) ns k (subst (λ m. k < m) (sym (length-replicate many false)) less)
          ∙ ap (λ b. b || has ns k) (get_or-replicate many k false false less)
      | inr past ↦
          let long : length (marked many ns) ≡ many = many_marks (replicate many false) ns ∙ length-replicate many false in
          get_or_past (marked many ns) k false (subst (λ m. m ≤ k) (sym long) past) ∙ sym (none_past many ns k below past)
    ]

any_same : (t u : ℕ → Bool) → ((x : ℕ) → t x ≡ u x) → (xs : List ℕ) → list_any t xs ≡ list_any u xs
any_same t u h [] = refl
any_same t u h (x ∷ xs) = ap (λ b. b || list_any t xs) (h x) ∙ ap (λ b. u x || b) (any_same t u h xs)

records_same : (ps : List Written) (f : Flow) (rows : Rows) (steps : List Place) (many : ℕ) (ns : List ℕ) → all_below many ns ≡ true → (p : Place)
    → records ps f rows (marked many ns) p ≡ in_record_mode (facts ps f rows steps) ns p
records_same ps f rows steps many ns below p =
    ap (λ b. not p.tail && (may_resume f rows p.action || b)) (any_same (is_marked (marked many ns)) (has ns) (tells many ns below) (entered ps f rows p.action))

filter_like : (t u : Place → Bool) → ((p : Place) → t p ≡ u p) → (places : List Place) → filter t places ≡ filter u places
filter_like t u h [] = refl
filter_like t u h (p ∷ ps) =
    ap (λ b. cond b (p ∷ filter t ps) (filter t ps)) (h p) ∙ ap (λ xs. cond (u p) (p ∷ xs) xs) (filter_like t u h ps)

pub recorded_same : (ps : List Written) (f : Flow) (rows : Rows) (places steps : List Place) (many : ℕ) (ns : List ℕ) → all_below many ns ≡ true
    → recorded ps f rows (marked many ns) places ≡ map (λ p. p.var) (filter (in_record_mode (facts ps f rows steps) ns) places)
recorded_same ps f rows places steps many ns below =
    ap (map (λ p. p.var))
    (filter_like (records ps f rows (marked many ns)) (in_record_mode (facts ps f rows steps) ns) (records_same ps f rows steps many ns below) places)

-- one step more is looked at
pub one_recorded : (ps : List Written) (f : Flow) (rows : Rows) (marks : List Bool) (old new whole : List ℕ) (p : Place) (rest : List Place)
    → new ≡ old ++ (if records ps f rows marks p then p.var ∷ [] else []) → old ++ recorded ps f rows marks (p ∷ rest) ≡ whole
    → new ++ recorded ps f rows marks rest ≡ whole
one_recorded ps f rows marks old new whole p rest puts was =
    ap (λ xs. xs ++ recorded ps f rows marks rest) puts
    ∙ (append_assoc old (if records ps f rows marks p then p.var ∷ [] else []) (recorded ps f rows marks rest)
    ∙ (ap (λ xs. old ++ xs) (head (records ps f rows marks p)) ∙ was))
  where
    head : (b : Bool) → (if b then p.var ∷ [] else []) ++ recorded ps f rows marks rest
        ≡ map (λ q. q.var) (cond b (p ∷ filter (records ps f rows marks) rest) (filter (records ps f rows marks) rest))
    head true = refl
    head false = refl
