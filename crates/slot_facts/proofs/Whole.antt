-- What is made of the graph's least set are the slots of the program.
use Rattle.std.proofs.Common.{◌≡◌, ℕ, zero, suc, ◌+◌, ◌<◌, ◌≤◌, ◌⊎◌, inl, inr, Bool, true, false, List, [], ◌∷◌, ◌++◌, length, map, Option, Some, None, refl, sym, ap, ◌∙◌, subst, arith, eq-eqb, ne_eqb}
use Rattle.std.specs.Prelude.{nat_eq, nat_lt, ◌&&◌, not, slice_get, if◌then◌else◌}
use Rattle.std.specs.List.{filter, flat_map, list_all}
use Rattle.std.proofs.lemmas.Bool.{cases_eq, cases_lt, lt-ltb}
use Rattle.std.proofs.lemmas.List.{length-map}
use Rattle.std.proofs.lemmas.Option.{get_or_from_slice_get}
use Rattle.scheme_base.specs.declared.place.Stated.{Stated}
use Rattle.scheme_base.specs.Operations.{item_or}
use Rattle.flow_constraints.specs.declared.flow.Kind.{Kind}
use Rattle.flow_constraints.specs.declared.flow.Kind.TheVariants.{Fixed, Closure, Pair, Vector, Text, Symbol, Boxed, Continuation}
use Rattle.flow_constraints.specs.Layout.{flow_of}
use Rattle.flow_constraints.specs.Rows.{row, Var}
use Rattle.flow_form.specs.declared.rows.Rows.{Rows}
use Rattle.least_set.specs.Least.{IsClosed, IsLeast, has}
use Rattle.least_set.specs.Search.{listed}
use Rattle.least_set.proofs.Has.{and_cases, both}
use Rattle.named_form.specs.declared.plan.Fiction.{Fiction}
use Rattle.named_form.specs.Code.{bound_in, free_in, written_at}
use Rattle.named_form.specs.Needs as needs
use Rattle.named_form.specs.PlainPlan.{free_vars, var_count}
use Rattle.named_form.specs.Valid.{Form, numbers_from}
use Rattle.named_form.specs.ValidPlan.{fiction_of, is_set}
use Rattle.named_form.proofs.Kept.{has_less, has_within}
use Rattle.named_form.proofs.Variables.{has_filter}
use Rattle.plan_facts.specs.Pairs.{members_of}
use Rattle.plan_facts.specs.Places.{facts_of}
use Rattle.plan_facts.specs.Slotted.{HasSlots, HasSlotted, IsCompared, IsPlaced, IsSlots, Item, MayClose, States, closed_by, is_own}
use Rattle.plan_facts.proofs.OneByOne.{told_at, told_many}
use Rattle.plan_facts.proofs.VariableRows.{row_each}
use Rattle.slot_facts.specs.Choice.{chosen_by, fictions_at, fictions_by, global_by, kept_by, own_vars, placed_by}
use Rattle.slot_facts.specs.Fits.{FitsSlots}
use Rattle.slot_facts.specs.Graph.{AllClose, Found, closes_below, all_links, all_starts, value_at}
use Rattle.slot_facts.specs.Known.{Known, NeedOf}
use Rattle.slot_facts.specs.Marks.{MarksOf, is_marked}
use Rattle.slot_facts.specs.Needs.{wanted}
use Rattle.slot_facts.specs.Values.{stated_by, stated_of, value_by}
use Rattle.slot_facts.proofs.Bounded.{close_at}
use Rattle.slot_facts.proofs.Exact.{IsGraph, closing_below, items, least_slotted, placed_many}
use Rattle.slot_facts.proofs.Fitting.{all_lists, all_set, all_stated, fictions_set, mapped_lists, some_set}
use Rattle.slot_facts.proofs.Knowing.{listed_number}
use Rattle.slot_facts.proofs.Needing.{needed_below}
use Rattle.slot_facts.proofs.Stating.{has_many, singled, states_value, value_in}

-- the fiction of a variable among those of numbers

no_fiction : (values : List (Option Stated)) (placed : List Bool) (from many x : ℕ) → (x < from) ⊎ (from + many ≤ x)
    → fiction_of (flat_map (fictions_at values placed) (numbers_from from many)) x ≡ None
no_fiction values placed from zero x apart = refl
no_fiction values placed from (suc many) x apart =
    by_one (is_marked placed from) (value_at values from) (no_fiction values placed (suc from) many x (further apart))
  where
    further : (x < from) ⊎ (from + suc many ≤ x) → (x < suc from) ⊎ (suc from + many ≤ x)
    further (inl low) = inl (omega (arith, low))
    further (inr high) = inr (omega (arith, high))

    other : (x < from) ⊎ (from + suc many ≤ x) → x ≡ from → ⊥
    other (inl low) e = omega (arith, low, e)
    other (inr high) e = omega (arith, high, e)

    by_one : (b : Bool) (o : Option Stated) → fiction_of (flat_map (fictions_at values placed) (numbers_from (suc from) many)) x ≡ None
        → fiction_of (fictions_by b from o ++ flat_map (fictions_at values placed) (numbers_from (suc from) many)) x ≡ None
    by_one b None h = h
    by_one true (Some v) h = h
    by_one false (Some v) h =
        ap (λ b. if b then Some v else fiction_of (flat_map (fictions_at values placed) (numbers_from (suc from) many)) x)
        (ne_eqb x from (other apart))
        ∙ h

abbrev told : (is_placed : Bool) → Option Stated → Option Stated
told true o = None
told false o = o

fiction_told : (values : List (Option Stated)) (placed : List Bool) (from many x : ℕ) → from ≤ x → x < from + many
    → fiction_of (flat_map (fictions_at values placed) (numbers_from from many)) x ≡ told (is_marked placed x) (value_at values x)
fiction_told values placed from zero x low high = absurd (omega (arith, low, high))
fiction_told values placed from (suc many) x low high =
    elim (cases_eq x from) [
      | inl e ↦
          subst (λ y. fiction_of (flat_map (fictions_at values placed) (numbers_from from (suc many))) y ≡ told (is_marked placed y) (value_at values y)) (sym e)
          (here (is_marked placed from) (value_at values from) (no_fiction values placed (suc from) many from (inl (omega arith))))
      | inr n ↦
          past (is_marked placed from) (value_at values from) (ne_eqb x from n)
          ∙ fiction_told values placed (suc from) many x (above n low) (omega (arith, high))
    ]
  where
    rest : List Fiction
    rest = flat_map (fictions_at values placed) (numbers_from (suc from) many)

    above : (x ≡ from → ⊥) → from ≤ x → suc from ≤ x
    above n low = omega arith

    here : (b : Bool) (o : Option Stated) → fiction_of rest from ≡ None → fiction_of (fictions_by b from o ++ rest) from ≡ told b o
    here true None h = h
    here true (Some v) h = h
    here false None h = h
    here false (Some v) h = ap (λ b. if b then Some v else fiction_of rest from) (eq-eqb from from refl)

    past : (b : Bool) (o : Option Stated) → nat_eq x from ≡ false → fiction_of (fictions_by b from o ++ rest) x ≡ fiction_of rest x
    past b None e = refl
    past true (Some v) e = refl
    past false (Some v) e = ap (λ b. if b then Some v else fiction_of rest x) e

-- kept lists

kept_at : (P : ℕ → Bool) (lists : List (List ℕ)) (q : ℕ) → needs.listed (map (filter P) lists) q ≡ filter P (item_or [] (slice_get lists q))
kept_at P [] q = refl
kept_at P (xs ∷ lists) zero = refl
kept_at P (xs ∷ lists) (suc q) = kept_at P lists q

listed_same : (lists : List (List ℕ)) (q : ℕ) → item_or [] (slice_get lists q) ≡ listed lists q
listed_same [] q = refl
listed_same (xs ∷ lists) zero = refl
listed_same (xs ∷ lists) (suc q) = listed_same lists q

shuffled : (a b c : Bool) → (a && not b) && c ≡ c && (not b && a)
shuffled true true true = refl
shuffled true true false = refl
shuffled true false true = refl
shuffled true false false = refl
shuffled false true true = refl
shuffled false true false = refl
shuffled false false true = refl
shuffled false false false = refl

-- the program's own variables

own_same : (f : Form) (capturing : List ℕ) (x : ℕ) → has (own_vars f.procs capturing) x ≡ is_own f capturing x
own_same f [] x = by_test (has (bound_in (written_at (slice_get f.procs 0))) x)
  where
    by_test : (b : Bool) → b ≡ b && true
    by_test true = refl
    by_test false = refl
own_same f (q ∷ qs) x = by_test (has (bound_in (written_at (slice_get f.procs 0))) x)
  where
    by_test : (b : Bool) → false ≡ b && false
    by_test true = refl
    by_test false = refl

-- what is known where the slots are chosen
pub record Chooses (f : Form) (rows : Rows) (capturing compared : List ℕ) (values : List (Option Stated)) (needed : List (List ℕ)) (own marks placed met : List Bool) : Type 0 where
  pub need : NeedOf f rows needed
  pub values_are : values ≡ map (stated_of (length f.procs) (flow_of f) rows) (numbers_from 0 (length (flow_of f).vars))
  pub compares : (q : ℕ) → IsCompared (facts_of f rows) q → has compared q ≡ true
  pub is_compared : (q : ℕ) → has compared q ≡ true → IsCompared (facts_of f rows) q
  pub owned : MarksOf (length values) (own_vars f.procs capturing) own
  pub found : Found (length f.procs) compared values needed own marks
  pub placed_are : placed ≡ placed_by (length f.procs) (length values) marks
  pub met_are : MarksOf (length f.procs) compared met

and_false : (a : Bool) → a && false ≡ false
and_false true = refl
and_false false = refl

glued : (a b c d t n : Bool) → a ≡ c → b ≡ d → t ≡ true → n ≡ true → (a && b) && t ≡ (n && c) && d
glued true true true true true true p q r s = refl
glued true false true false true true p q r s = refl
glued false true false true true true p q r s = refl
glued false false false false true true p q r s = refl
glued a b c d t n p q r s = cc

many_values : (f : Form) (rows : Rows) (values : List (Option Stated))
    → values ≡ map (stated_of (length f.procs) (flow_of f) rows) (numbers_from 0 (length (flow_of f).vars)) → length values ≡ var_count f.procs
many_values f rows values h =
    ap (λ xs. length xs) h ∙ (told_many (stated_of (length f.procs) (flow_of f) rows) (length (flow_of f).vars) ∙ row_each f)

value_told : (f : Form) (rows : Rows) (values : List (Option Stated))
    → values ≡ map (stated_of (length f.procs) (flow_of f) rows) (numbers_from 0 (length (flow_of f).vars))
    → (x : ℕ) → x < var_count f.procs → value_at values x ≡ value_in (facts_of f rows) x
value_told f rows values h x below =
    let same = row_each f in
    let none : 0 + x ≡ x = omega arith in
    ap (λ xs. item_or None (slice_get xs x)) h
    ∙ (ap (λ o. item_or None o) (told_at (stated_of (length f.procs) (flow_of f) rows) 0 (length (flow_of f).vars) x (omega (arith, below, same)))
    ∙ ap (stated_of (length f.procs) (flow_of f) rows) none)

placed_told : (procs vars : ℕ) (marks placed : List Bool) (x : ℕ) → placed ≡ placed_by procs vars marks → x < vars
    → is_marked placed x ≡ is_marked marks (procs + x)
placed_told procs vars marks placed x h below =
    let none : 0 + x ≡ x = omega arith in
    get_or_from_slice_get placed x (is_marked marks (procs + x)) false
    (ap (λ xs. slice_get xs x) h
    ∙ (told_at (λ y. is_marked marks (procs + y)) 0 vars x below ∙ ap (λ y. Some (is_marked marks (procs + y))) none))

pub are_slots : (f : Form) (rows : Rows) (capturing compared : List ℕ) (values : List (Option Stated)) (needed : List (List ℕ)) (own marks placed met : List Bool)
    → Chooses f rows capturing compared values needed own marks placed met
    → IsSlots f rows capturing (chosen_by (length f.procs) needed values own placed met)
are_slots f rows capturing compared values needed own marks placed met c =
    record {
      items = it;
      least = least;
      kept = λ q x.
          ap (λ xs. has xs x) (kept_at (kept_by placed own) needed q ∙ ap (filter (kept_by placed own)) (listed_same needed q))
          ∙ (has_filter (kept_by placed own) (listed needed q) x ∙ kept_told q x (has (listed needed q) x) refl);
      stated = λ x v h. elim (cases_lt x (length values)) [
        | inl below ↦
            let below_all = below_count x below in
            stated_told x v below_all (is_marked placed x) refl (value_at values x) refl
            (sym (fiction_told values placed 0 (length values) x (omega arith) (omega (arith, below))) ∙ h)
        | inr past ↦ absurd (let none = no_fiction values placed 0 (length values) x (inr (omega (arith, past))) in clash v (sym none ∙ h))
      ];
      placed = λ x below h.
          placed_one x below (is_marked placed x) refl (value_at values x) refl
          (sym (fiction_told values placed 0 (length values) x (omega arith) (omega (arith, below, many))) ∙ h);
      global = λ x below.
          has_filter (global_by placed own) (numbers_from 0 (length values)) x
          ∙ glued (is_marked placed x) (is_marked own x) (nodes (length f.procs + x)) (is_own f capturing x) (has (numbers_from 0 (length values)) x)
          (nat_lt x (var_count f.procs)) (node_told x below) (own_told x below) (has_within 0 (length values) x (omega arith) (omega (arith, below, many)))
          (lt-ltb x (var_count f.procs) below);
      compared = λ q. (
        λ h.
            let both_parts = and_cases (is_marked met q) (has (numbers_from 0 (length f.procs)) q) (sym (has_filter (is_marked met) (numbers_from 0 (length f.procs)) q) ∙ h) in
            let less = has_less 0 (length f.procs) q both_parts.1 in
            c.is_compared q (sym (c.met_are.same q (omega (arith, less))) ∙ both_parts.0),
        λ h.
            let there = c.compares q h in
            let less = compared_below q there in
            has_filter (is_marked met) (numbers_from 0 (length f.procs)) q
            ∙ both (is_marked met q) (has (numbers_from 0 (length f.procs)) q) (c.met_are.same q less ∙ there)
            (has_within 0 (length f.procs) q (omega arith) (omega (arith, less))),
      );
    }
  where
    nodes : ℕ → Bool
    nodes = has c.found.nodes

    it : Item → Bool
    it = items f needed (is_marked own) nodes

    many : length values ≡ var_count f.procs
    many = many_values f rows values c.values_are

    below_count : (x : ℕ) → x < length values → x < var_count f.procs
    below_count x below = subst (λ n. x < n) many below

    compared_below : (q : ℕ) → has compared q ≡ true → q < length f.procs
    compared_below q there = let h = c.is_compared q there in closing_below (facts_of f rows) h.atom q h.kind

    own_told : (x : ℕ) → x < var_count f.procs → is_marked own x ≡ is_own f capturing x
    own_told x below = c.owned.same x (subst (λ n. x < n) (sym many) below) ∙ own_same f capturing x

    node_told : (x : ℕ) → x < var_count f.procs → is_marked placed x ≡ nodes (length f.procs + x)
    node_told x below =
        placed_told (length f.procs) (length values) marks placed x c.placed_are (subst (λ n. x < n) (sym many) below)
        ∙ c.found.marked.same (length f.procs + x) (omega (arith, below, many))

    graph : IsGraph f rows capturing compared (is_marked own) (value_at values)
    graph =
        record {
          compares = c.compares;
          is_compared = c.is_compared;
          compared_below = compared_below;
          own_is = own_told;
          value_is = value_told f rows values c.values_are;
        }

    least : IsLeast (HasSlotted f (facts_of f rows) capturing) it
    least =
        least_slotted f rows capturing compared (is_marked own) (value_at values) c.need.free c.need.references c.need.makings needed nodes c.need.known graph
        (subst
        (λ n. IsLeast (IsClosed (all_starts (length f.procs) n compared (value_at values)) (all_links (length f.procs) n (value_at values) (is_marked own) needed)) nodes)
        many c.found.least)

    clash : (v : Stated) → None ≡ Some v → ⊥
    clash v h = cc

    kept_told : (q x : ℕ) (b : Bool) → has (listed needed q) x ≡ b
        → kept_by placed own x && has (listed needed q) x ≡ has (listed needed q) x && (not (is_marked own x) && nodes (length f.procs + x))
    kept_told q x true h =
        let below = (needed_below f rows c.need.free c.need.references c.need.makings needed c.need.known q x h).0 in
        shuffled (is_marked placed x) (is_marked own x) (has (listed needed q) x)
        ∙ ap (λ b. has (listed needed q) x && (not (is_marked own x) && b)) (node_told x below)
    kept_told q x false h =
        ap (λ b. kept_by placed own x && b) h
        ∙ (and_false (kept_by placed own x) ∙ sym (ap (λ b. b && (not (is_marked own x) && nodes (length f.procs + x))) h))

    placed_of_node : (x : ℕ) → x < var_count f.procs → is_marked placed x ≡ true → it (IsPlaced x) ≡ true
    placed_of_node x below h =
        both (nat_lt x (var_count f.procs)) (nodes (length f.procs + x)) (lt-ltb x (var_count f.procs) below) (sym (node_told x below) ∙ h)

    no_slots : (x q : ℕ) → x < var_count f.procs → is_marked placed x ≡ false → MayClose (facts_of f rows) x q → it (HasSlots q) ≡ false
    no_slots x q below no_place may = by_test (it (HasSlots q)) refl
      where
        by_test : (b : Bool) → it (HasSlots q) ≡ b → b ≡ false
        by_test false e = refl
        by_test true e =
            absurd
            (let there = least.closed.slotted x q (lt-ltb x (var_count f.procs) below) may e in
            let node = (and_cases (nat_lt x (var_count f.procs)) (nodes (length f.procs + x)) there).1 in
            let h = sym no_place ∙ (node_told x below ∙ node) in
            cc)

    stated_told : (x : ℕ) (v : Stated) → x < var_count f.procs → (b : Bool) → is_marked placed x ≡ b → (o : Option Stated) → value_at values x ≡ o
        → told b o ≡ Some v → States (facts_of f rows) it x v
    stated_told x v below true e o is h = absurd (cc)
    stated_told x v below false e o is h =
        states_value (facts_of f rows) it x v (sym (value_told f rows values c.values_are x below) ∙ (is ∙ h)) (λ q may. no_slots x q below e may)

    placed_one : (x : ℕ) → x < var_count f.procs → (b : Bool) → is_marked placed x ≡ b → (o : Option Stated) → value_at values x ≡ o
        → told b o ≡ None → it (IsPlaced x) ≡ true
    placed_one x below true e o is h = placed_of_node x below e
    placed_one x below false e o is h =
        placed_many (facts_of f rows) f capturing it x least.closed (lt-ltb x (var_count f.procs) below)
        (has_many (facts_of f rows) x (sym (value_told f rows values c.values_are x below) ∙ (is ∙ h)))

-- Closures that are stated are of procedures that are there.

by_value : (n a : ℕ) → closes_below n (value_by None a) ≡ true
by_value n a = by_chain (nat_eq a 3) (nat_eq a 4) (nat_eq a 5) (nat_eq a 6) (nat_eq a 7)
  where
    by_chain : (b c d e g : Bool)
        → closes_below n (singled b c d e g) ≡ true
    by_chain true c d e g = refl
    by_chain false true d e g = refl
    by_chain false false true e g = refl
    by_chain false false false true g = refl
    by_chain false false false false true = refl
    by_chain false false false false false = refl

by_closing : (n a : ℕ) (o : Option Kind) → closes_below n (value_by (closed_by n o) a) ≡ true
by_closing n a (Some (Closure q)) = by_test (nat_lt q n) refl
  where
    by_test : (b : Bool) → nat_lt q n ≡ b → closes_below n (value_by (if b then Some q else None) a) ≡ true
    by_test true e = e
    by_test false e = by_value n a
by_closing n a None = by_value n a
by_closing n a (Some Fixed) = by_value n a
by_closing n a (Some (Pair r literal)) = by_value n a
by_closing n a (Some (Vector r literal)) = by_value n a
by_closing n a (Some (Text literal)) = by_value n a
by_closing n a (Some (Symbol r)) = by_value n a
by_closing n a (Some (Boxed x)) = by_value n a
by_closing n a (Some (Continuation x)) = by_value n a

stated_closes : (n : ℕ) (kinds : List Kind) (atoms : List ℕ) → closes_below n (stated_by n kinds atoms) ≡ true
stated_closes n kinds [] = refl
stated_closes n kinds (a ∷ []) = by_closing n a (slice_get kinds a)
stated_closes n kinds (a ∷ b ∷ atoms) = refl

all_mapped : {A B : Type 0} (t : B → Bool) (g : A → B) (xs : List A) → ((x : A) → t (g x) ≡ true) → list_all t (map g xs) ≡ true
all_mapped t g [] h = refl
all_mapped t g (x ∷ xs) h = both (t (g x)) (list_all t (map g xs)) (h x) (all_mapped t g xs h)

pub all_close : (f : Form) (rows : Rows) (values : List (Option Stated))
    → values ≡ map (stated_of (length f.procs) (flow_of f) rows) (numbers_from 0 (length (flow_of f).vars)) → AllClose (length f.procs) values
all_close f rows values h =
    record {
      each = ap (list_all (closes_below (length f.procs))) h
          ∙ all_mapped (closes_below (length f.procs)) (stated_of (length f.procs) (flow_of f) rows) (numbers_from 0 (length (flow_of f).vars))
          (λ x. stated_closes (length f.procs) (flow_of f).kinds (members_of rows (row (flow_of f) (Var x))));
    }

pub fit_slots : (f : Form) (rows : Rows) (capturing compared : List ℕ) (values : List (Option Stated)) (needed : List (List ℕ)) (own marks placed met : List Bool)
    → Chooses f rows capturing compared values needed own marks placed met → FitsSlots f.procs (chosen_by (length f.procs) needed values own placed met)
fit_slots f rows capturing compared values needed own marks placed met c =
    record {
      kept = length-map needed (filter (kept_by placed own)) ∙ (known.needed_many ∙ known.free_many);
      each_kept = mapped_lists (is_set (var_count f.procs)) (filter (kept_by placed own)) needed
          (λ xs h. some_set (var_count f.procs) (kept_by placed own) xs h)
          (all_lists (is_set (var_count f.procs)) needed (λ q below. need_set q below));
      fictitious = subst (λ n. is_set n (map (λ (g : Fiction). g.var) (flat_map (fictions_at values placed) (numbers_from 0 (length values)))) ≡ true) many
          (fictions_set values placed (length values));
      stated = all_stated (length f.procs) values placed 0 (length values)
          (λ x. close_at (length f.procs) values x (all_close f rows values c.values_are).each);
      global = subst (λ n. is_set n (filter (global_by placed own) (numbers_from 0 (length values))) ≡ true) many
          (some_set (length values) (global_by placed own) (numbers_from 0 (length values)) (all_set (length values)));
      compared = some_set (length f.procs) (is_marked met) (numbers_from 0 (length f.procs)) (all_set (length f.procs));
    }
  where
    known : Known f rows c.need.free c.need.references c.need.makings needed
    known = c.need.known

    many : length values ≡ var_count f.procs
    many = many_values f rows values c.values_are

    need_set : (q : ℕ) → q < length needed → is_set (var_count f.procs) (listed needed q) ≡ true
    need_set q below =
        let all = known.needed_many in
        let procs = known.free_many in
        let wants = has (wanted (listed c.need.references q) (listed c.need.makings q) needed) in
        let free_is : listed c.need.free q ≡ free_vars f.procs q =
        ap (λ xs. listed xs q) c.need.free_are ∙ listed_number (free_vars f.procs) (length f.procs) q (omega (arith, below, all, procs)) in
        ap (is_set (var_count f.procs)) (known.needed_is q (omega (arith, below, all)) ∙ ap (filter wants) free_is)
        ∙ some_set (var_count f.procs) wants (free_vars f.procs q)
        (some_set (var_count f.procs) (has (free_in (length f.procs) f.procs q)) (numbers_from 0 (var_count f.procs)) (all_set (var_count f.procs)))
