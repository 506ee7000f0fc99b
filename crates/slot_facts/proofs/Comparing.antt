-- The procedures that are found to be compared are those.
use Rattle.std.proofs.Common.{◌≡◌, ℕ, zero, suc, inl, inr, Bool, true, false, List, [], ◌∷◌, length, Some, refl, sym, ap, ◌∙◌, subst, eq-eqb}
use Rattle.std.specs.Prelude.{nat_eq, nat_lt, slice_get, if◌then◌else◌}
use Rattle.std.specs.List.{flat_map}
use Rattle.std.proofs.lemmas.Bool.{lt-ltb}
use Rattle.std.proofs.lemmas.List.Folds.{list_any-append}
use Rattle.scheme_base.specs.declared.op.Op.TheVariants as op
use Rattle.flow_constraints.specs.Layout.{flow_of}
use Rattle.flow_constraints.specs.Rows.{row, Var}
use Rattle.flow_form.specs.declared.rows.Rows.{Rows}
use Rattle.least_set.specs.Least.{all_below, has}
use Rattle.least_set.proofs.Has.{all_of, or_cases, or_left, or_right}
use Rattle.named_form.specs.Code.{option_list}
use Rattle.named_form.specs.Valid.{Form}
use Rattle.plan_facts.specs.declared.place.Action.{Action}
use Rattle.plan_facts.specs.declared.place.Action.TheVariants.{Prim}
use Rattle.plan_facts.specs.declared.place.Place.{Place}
use Rattle.plan_facts.specs.Calls.{is_reached}
use Rattle.plan_facts.specs.Pairs.{members_of}
use Rattle.plan_facts.specs.Places.{Facts, facts_of, places_of}
use Rattle.plan_facts.specs.Slotted.{IsCompared, closing, may_be}
use Rattle.slot_facts.specs.Compare.{closures_of, compared_at, met_by}
use Rattle.slot_facts.proofs.Exact.{closing_below}
use Rattle.slot_facts.proofs.Lists.{brings, brought, of_option}
use Rattle.slot_facts.proofs.RowMembers.{in_members, of_members}

-- a step whose list has something
record BringsStep (g : Place → List ℕ) (places : List Place) (x : ℕ) : Type 0 where
  at : ℕ
  place : Place
  there : slice_get places at ≡ Some place
  has_it : has (g place) x ≡ true

brings_step : (g : Place → List ℕ) (places : List Place) (x : ℕ) → has (flat_map g places) x ≡ true → BringsStep g places x
brings_step g [] x h = absurd (cc)
brings_step g (p ∷ ps) x h =
    elim (or_cases (has (g p) x) (has (flat_map g ps) x) (sym (list_any-append (nat_eq x) (g p) (flat_map g ps)) ∙ h)) [
      | inl e ↦ record { at = 0; place = p; there = refl; has_it = e }
      | inr past ↦
          let rest = brings_step g ps x past in
          record { at = suc rest.at; place = rest.place; there = rest.there; has_it = rest.has_it }
    ]

brought_step : (g : Place → List ℕ) (places : List Place) (i x : ℕ) (p : Place) → slice_get places i ≡ Some p → has (g p) x ≡ true
    → has (flat_map g places) x ≡ true
brought_step g [] i x p there h = absurd (cc)
brought_step g (q ∷ ps) zero x p there h =
    let same : q ≡ p = cc in
    list_any-append (nat_eq x) (g q) (flat_map g ps)
    ∙ or_left (has (g q) x) (has (flat_map g ps) x) (subst (λ r. has (g r) x ≡ true) (sym same) h)
brought_step g (q ∷ ps) (suc i) x p there h =
    list_any-append (nat_eq x) (g q) (flat_map g ps)
    ∙ or_right (has (g q) x) (has (flat_map g ps) x) (brought_step g ps i x p there h)

-- what an atom of both operands stands for
record Meets (k : Facts) (x y q : ℕ) : Type 0 where
  atom : ℕ
  kind : closing k atom ≡ Some q
  first : may_be k x atom ≡ true
  second : may_be k y atom ≡ true

met_pair : (k : Facts) (x y q : ℕ)
    → has (flat_map (closures_of (length k.procs) k.flow k.rows y) (members_of k.rows (row k.flow (Var x)))) q ≡ true → Meets k x y q
met_pair k x y q h =
    let one = brings (closures_of (length k.procs) k.flow k.rows y) (members_of k.rows (row k.flow (Var x))) q h in
    by_test one.one (of_members k.rows (row k.flow (Var x)) one.one one.among) (may_be k y one.one) refl one.has_it
  where
    by_test : (a : ℕ) → may_be k x a ≡ true → (b : Bool) → may_be k y a ≡ b → has (if b then option_list (closing k a) else []) q ≡ true
        → Meets k x y q
    by_test a first true e h = record { atom = a; kind = of_option (closing k a) q h; first = first; second = e }
    by_test a first false e h = absurd (cc)

pair_met : (k : Facts) (x y q : ℕ) → Meets k x y q
    → has (flat_map (closures_of (length k.procs) k.flow k.rows y) (members_of k.rows (row k.flow (Var x)))) q ≡ true
pair_met k x y q m =
    brought (closures_of (length k.procs) k.flow k.rows y) (members_of k.rows (row k.flow (Var x))) m.atom q
    (in_members k.rows (row k.flow (Var x)) m.atom m.first)
    (ap (λ b. has (if b then option_list (closing k m.atom) else []) q) m.second
    ∙ (ap (λ o. has (option_list o) q) m.kind ∙ or_left (nat_eq q q) false (eq-eqb q q refl)))

-- the operands of what compares closures
record Compares (k : Facts) (action : Action) (q : ℕ) : Type 0 where
  one : ℕ
  other : ℕ
  does : action ≡ Prim op.Eqv (one ∷ other ∷ [])
  meets : Meets k one other q

met_action : (k : Facts) (action : Action) (q : ℕ) → has (met_by (length k.procs) k.flow k.rows action) q ≡ true → Compares k action q
met_action k (Prim op.Eqv (x ∷ y ∷ [])) q h = record { one = x; other = y; does = refl; meets = met_pair k x y q h }
met_action k action q h = absurd (cc)

pub compared_is : (f : Form) (rows : Rows) (q : ℕ) → has (flat_map (compared_at (length f.procs) (flow_of f) rows) (places_of f)) q ≡ true
    → IsCompared (facts_of f rows) q
compared_is f rows q h =
    let step = brings_step (compared_at (length f.procs) (flow_of f) rows) (places_of f) q h in
    by_test step.at step.place step.there (is_reached (flow_of f) rows step.place.block) refl step.has_it
  where
    by_test : (i : ℕ) (p : Place) → slice_get (places_of f) i ≡ Some p → (b : Bool) → is_reached (flow_of f) rows p.block ≡ b
        → has (if b then met_by (length f.procs) (flow_of f) rows p.action else []) q ≡ true → IsCompared (facts_of f rows) q
    by_test i p there true e h =
        let c = met_action (facts_of f rows) p.action q h in
        record {
          place = p;
          reached = record { number = i; there = there; reached = e };
          one = c.one;
          other = c.other;
          does = c.does;
          atom = c.meets.atom;
          kind = c.meets.kind;
          first = c.meets.first;
          second = c.meets.second;
        }
    by_test i p there false e h = absurd (cc)

pub is_compared : (f : Form) (rows : Rows) (q : ℕ) → IsCompared (facts_of f rows) q
    → has (flat_map (compared_at (length f.procs) (flow_of f) rows) (places_of f)) q ≡ true
is_compared f rows q c =
    brought_step (compared_at (length f.procs) (flow_of f) rows) (places_of f) c.reached.number q c.place c.reached.there
    (ap (λ b. has (if b then met_by (length f.procs) (flow_of f) rows c.place.action else []) q) c.reached.reached
    ∙ (ap (λ (a : Action). has (met_by (length f.procs) (flow_of f) rows a) q) c.does
    ∙ pair_met (facts_of f rows) c.one c.other q (record { atom = c.atom; kind = c.kind; first = c.first; second = c.second })))

pub compared_below : (f : Form) (rows : Rows) (compared : List ℕ) → compared ≡ flat_map (compared_at (length f.procs) (flow_of f) rows) (places_of f)
    → all_below (length f.procs) compared ≡ true
compared_below f rows compared same =
    all_of (λ x. nat_lt x (length f.procs)) compared
    (λ q there.
    let c = compared_is f rows q (sym (ap (λ xs. has xs q) same) ∙ there) in
    lt-ltb q (length f.procs) (closing_below (facts_of f rows) c.atom q c.kind))
