-- What the lists of a program's procedures say, as they are made.
use Rattle.std.proofs.Common.{◌≡◌, ℕ, zero, suc, ◌+◌, ◌<◌, inl, inr, Bool, true, false, List, [], ◌∷◌, length, map, Option, Some, None, refl, sym, ap, ◌∙◌, subst, arith, eq-eqb}
use Rattle.std.specs.Prelude.{nat_eq, ◌&&◌, slice_get}
use Rattle.std.specs.List.{flat_map}
use Rattle.std.proofs.lemmas.List.{length-map}
use Rattle.std.proofs.lemmas.Option.{slice_get_within}
use Rattle.flow_constraints.specs.Layout.{flow_of}
use Rattle.flow_form.specs.declared.rows.Rows.{Rows}
use Rattle.least_set.specs.Least.{has}
use Rattle.least_set.specs.Search.{IsNext, targets}
use Rattle.least_set.proofs.Has.{and_cases, both, or_cases, or_left, or_right}
use Rattle.named_form.specs.Code.{Written, free_in, option_list}
use Rattle.least_set.specs.Search.{listed}
use Rattle.named_form.specs.PlainPlan.{all_free, free_vars, var_count}
use Rattle.named_form.specs.Valid.{Form, WellFormed, numbers_from}
use Rattle.named_form.proofs.Depth.{none_free}
use Rattle.named_form.proofs.Kept.{before_all, bound_before, has_within, length_numbers}
use Rattle.named_form.proofs.Variables.{has_filter}
use Rattle.plan_facts.specs.declared.place.Place.{Place}
use Rattle.plan_facts.specs.Calls.{is_reached}
use Rattle.plan_facts.specs.Escaping.{closes}
use Rattle.plan_facts.specs.Places.{Ending, endings_of, facts_of, places_of}
use Rattle.plan_facts.specs.Slotted.{Gives, MakesOf, Reads, Refers, is_free, reads_of}
use Rattle.slot_facts.specs.declared.ends.End.{End}
use Rattle.slot_facts.specs.Ends.{ending}
use Rattle.slot_facts.specs.Known.{NeedOf}
use Rattle.slot_facts.specs.Needs.{IsNeeded, end_reads, makings, place_reads, references}
use Rattle.slot_facts.proofs.Later.{later_ones}
use Rattle.slot_facts.proofs.Linked.{has_join, linked, linking}
use Rattle.slot_facts.proofs.Lists.{listed_within, of_option}

-- the free variables

number_list : (g : ℕ → List ℕ) (from many x : ℕ) → x < many → listed (map g (numbers_from from many)) x ≡ g (from + x)
number_list g from zero x below = absurd (omega (arith, below))
number_list g from (suc many) zero below = let same : from ≡ from + 0 = omega arith in ap g same
number_list g from (suc many) (suc x) below =
    let next : suc from + x ≡ from + suc x = omega arith in
    number_list g (suc from) many x (omega (arith, below)) ∙ ap g next

pub listed_number : (g : ℕ → List ℕ) (many x : ℕ) → x < many → listed (map g (numbers_from 0 many)) x ≡ g x
listed_number g many x below = let same : 0 + x ≡ x = omega arith in number_list g 0 many x below ∙ ap g same

pub all_free_many : (f : Form) → length (all_free f.procs) ≡ length f.procs
all_free_many f =
    length-map (numbers_from 0 (length f.procs)) (free_vars f.procs) ∙ length_numbers 0 (length f.procs)

free_below : (f : Form) → WellFormed f → (q x : ℕ) → is_free f q x ≡ true → (q < length f.procs) × (x < var_count f.procs)
free_below f w q x h = by_proc (slice_get f.procs q) refl
  where
    by_proc : (o : Option Written) → slice_get f.procs q ≡ o → (q < length f.procs) × (x < var_count f.procs)
    by_proc None e = absurd (let none = ap (λ xs. has xs x) (none_free (length f.procs) f.procs q e) in cc)
    by_proc (Some p) e =
        let there = slice_get_within f.procs q p e in
        let less = bound_before f.procs w.numbered w.made w.scoped (suc q) q x (omega arith) h in
        let all = before_all f.procs q in
        (there, omega (arith, less, all))

free_is : (f : Form) → WellFormed f → (q x : ℕ) → has (listed (all_free f.procs) q) x ≡ is_free f q x
free_is f w q x = by_test (is_free f q x) refl
  where
    within : q < length f.procs → has (listed (all_free f.procs) q) x ≡ (is_free f q x && has (numbers_from 0 (var_count f.procs)) x)
    within there =
        ap (λ xs. has xs x) (listed_number (free_vars f.procs) (length f.procs) q there)
        ∙ has_filter (has (free_in (length f.procs) f.procs q)) (numbers_from 0 (var_count f.procs)) x

    not_true : (b : Bool) → (b ≡ true → ⊥) → b ≡ false
    not_true true h = absurd (h refl)
    not_true false h = refl

    by_test : (b : Bool) → is_free f q x ≡ b → has (listed (all_free f.procs) q) x ≡ b
    by_test true e =
        let bounds = free_below f w q x e in
        within bounds.0
        ∙ both (is_free f q x) (has (numbers_from 0 (var_count f.procs)) x) e (has_within 0 (var_count f.procs) x (omega arith) (omega (arith, bounds.1)))
    by_test false e =
        not_true (has (listed (all_free f.procs) q) x)
        (λ h.
        let many = all_free_many f in
        let there = listed_within (all_free f.procs) q x h in
        let free_one = (and_cases (is_free f q x) (has (numbers_from 0 (var_count f.procs)) x) (sym (within (omega (arith, many, there))) ∙ h)).0 in
        cc)

-- references

abbrev reached_place : Form → Rows → Place → Bool
reached_place f rows p = is_reached (flow_of f) rows p.block

abbrev reached_end : Form → Rows → End → Bool
reached_end f rows e = is_reached (flow_of f) rows e.block

get_mapped : {A B : Type 0} (g : A → B) (xs : List A) (i : ℕ) (x : A) → slice_get xs i ≡ Some x → slice_get (map g xs) i ≡ Some (g x)
get_mapped g [] i x h = absurd (cc)
get_mapped g (y ∷ ys) zero x h = let same : y ≡ x = cc in ap (λ z. Some (g z)) same
get_mapped g (y ∷ ys) (suc i) x h = get_mapped g ys i x h

-- an item that is mapped to this
record MappedFrom {A B : Type 0} (g : A → B) (xs : List A) (i : ℕ) (y : B) : Type 0 where
  item : A
  there : slice_get xs i ≡ Some item
  is : g item ≡ y

mapped_from : {A B : Type 0} (g : A → B) (xs : List A) (i : ℕ) (y : B) → slice_get (map g xs) i ≡ Some y → MappedFrom g xs i y
mapped_from g [] i y h = absurd (cc)
mapped_from g (x ∷ xs) zero y h = record { item = x; there = refl; is = cc }
mapped_from g (x ∷ xs) (suc i) y h =
    let rest = mapped_from g xs i y h in record { item = rest.item; there = rest.there; is = rest.is }

refers_by : (f : Form) (rows : Rows) (ends : List End) → map ending ends ≡ endings_of f → (q x : ℕ)
    → has (targets (references (flow_of f) rows (places_of f) ends) q) x ≡ true → Refers f (facts_of f rows) q x
refers_by f rows ends same q x h =
    let read = flat_map (place_reads (flow_of f) rows) (places_of f) in
    let given = flat_map (end_reads (flow_of f) rows) ends in
    elim (or_cases (has (targets read q) x) (has (targets given q) x) (sym (has_join read given q x) ∙ h)) [
      | inl e ↦
          let l = linking (reached_place f rows) (λ p. p.proc) (λ p. reads_of p.action) (places_of f) q x e in
          Reads l.item (record { number = l.at; there = l.there; reached = l.is_reached }) l.owned l.named
      | inr e ↦
          let l = linking (reached_end f rows) (λ d. d.proc) (λ d. option_list d.value) ends q x e in
          Gives l.at (ending l.item) (sym (ap (λ xs. slice_get xs l.at) same) ∙ get_mapped ending ends l.at l.item l.there) l.owned
          (of_option l.item.value x l.named) l.is_reached
    ]

referred_by : (f : Form) (rows : Rows) (ends : List End) → map ending ends ≡ endings_of f → (q x : ℕ) → Refers f (facts_of f rows) q x
    → has (targets (references (flow_of f) rows (places_of f) ends) q) x ≡ true
referred_by f rows ends same q x (Reads p step here reads) =
    let read = flat_map (place_reads (flow_of f) rows) (places_of f) in
    let given = flat_map (end_reads (flow_of f) rows) ends in
    has_join read given q x
    ∙ or_left (has (targets read q) x) (has (targets given q) x)
    (linked (reached_place f rows) (λ p. p.proc) (λ p. reads_of p.action) (places_of f) q x step.number p step.there step.reached here reads)
referred_by f rows ends same q x (Gives n e there here value reached) =
    let read = flat_map (place_reads (flow_of f) rows) (places_of f) in
    let given = flat_map (end_reads (flow_of f) rows) ends in
    let from = mapped_from ending ends n e (ap (λ xs. slice_get xs n) same ∙ there) in
    let proc_is : from.item.proc ≡ q = ap (λ (d : Ending). d.proc) from.is ∙ here in
    let value_is : from.item.value ≡ Some x = ap (λ (d : Ending). d.value) from.is ∙ value in
    let block_is : from.item.block ≡ e.block = ap (λ (d : Ending). d.block) from.is in
    has_join read given q x
    ∙ or_right (has (targets read q) x) (has (targets given q) x)
    (linked (reached_end f rows) (λ d. d.proc) (λ d. option_list d.value) ends q x n from.item from.there
    (ap (λ b. is_reached (flow_of f) rows b) block_is ∙ reached) proc_is
    (ap (λ o. has (option_list o) x) value_is ∙ or_left (nat_eq x x) false (eq-eqb x x refl)))

-- makings

makes_by : (f : Form) (rows : Rows) (q r : ℕ) → has (targets (makings (flow_of f) rows (places_of f)) q) r ≡ true → MakesOf (facts_of f rows) q r
makes_by f rows q r h =
    let l = linking (reached_place f rows) (λ p. p.proc) (λ p. closes p.action) (places_of f) q r h in
    record {
      place = l.item;
      reached = record { number = l.at; there = l.there; reached = l.is_reached };
      here = l.owned;
      closes = l.named;
    }

made_by : (f : Form) (rows : Rows) (q r : ℕ) → MakesOf (facts_of f rows) q r → has (targets (makings (flow_of f) rows (places_of f)) q) r ≡ true
made_by f rows q r m =
    linked (reached_place f rows) (λ p. p.proc) (λ p. closes p.action) (places_of f) q r m.reached.number m.place m.reached.there m.reached.reached m.here m.closes

-- all together

pub needs_known : (f : Form) (rows : Rows) (ends : List End) (free referred made needed : List (List ℕ)) (many : ℕ) → WellFormed f
    → free ≡ all_free f.procs → map ending ends ≡ endings_of f → many ≡ length f.procs
    → IsNext many (references (flow_of f) rows (places_of f) ends) referred
    → IsNext many (makings (flow_of f) rows (places_of f)) made → IsNeeded many free referred made needed → NeedOf f rows needed
needs_known f rows ends free referred made needed many w free_same ends_same all_procs refs_grouped makes_grouped need =
    let all : length free ≡ length f.procs = ap (λ xs. length xs) free_same ∙ all_free_many f in
    let sized : many ≡ length free = all_procs ∙ sym all in
    let frees : (q x : ℕ) → has (listed free q) x ≡ is_free f q x = λ q x. ap (λ xs. has (listed xs q) x) free_same ∙ free_is f w q x in
    let later : (q r : ℕ) → has (listed made q) r ≡ true → q < r =
    λ q r h.
    let there = listed_within made q r h in
    let long = makes_grouped.long in
    let m = makes_by f rows q r (sym (ap (λ xs. has xs r) (makes_grouped.each q (omega (arith, there, long)))) ∙ h) in
    subst (λ p. p < r) m.here (later_ones f w.made.later m.reached.number m.place r m.reached.there m.closes) in
    record {
      free = free;
      free_are = free_same;
      references = referred;
      makings = made;
      known = record {
        free_many = all;
        free_is = frees;
        free_below = λ q x h. (free_below f w q x (sym (frees q x) ∙ h)).1;
        referred = λ q x below refers.
            ap (λ xs. has xs x) (refs_grouped.each q (omega (arith, below, all, sized))) ∙ referred_by f rows ends ends_same q x refers;
        refers = λ q x h.
            let there = listed_within referred q x h in
            let long = refs_grouped.long in
            refers_by f rows ends ends_same q x (sym (ap (λ xs. has xs x) (refs_grouped.each q (omega (arith, there, long)))) ∙ h);
        made = λ q r below makes.
            ap (λ xs. has xs r) (makes_grouped.each q (omega (arith, below, all, sized))) ∙ made_by f rows q r makes;
        makes = λ q r h.
            let there = listed_within made q r h in
            let long = makes_grouped.long in
            makes_by f rows q r (sym (ap (λ xs. has xs r) (makes_grouped.each q (omega (arith, there, long)))) ∙ h);
        later = later;
        needed_many = need.long ∙ sized;
        needed_is = λ q below. need.each later q (omega (arith, below, sized));
      };
    }
