-- What can be reached in the graph of sites is what escapes.
use Rattle.std.proofs.Common.{◌≡◌, ℕ, suc, ◌+◌, ◌<◌, inl, inr, true, false, List, [], ◌∷◌, ◌++◌, length, map, Option, Some, None, refl, sym, ap, ◌∙◌, subst, arith, eqb-true, eq-eqb}
use Rattle.std.specs.Prelude.{nat_eq, nat_lt, ◌||◌, slice_get}
use Rattle.std.specs.List.{flat_map, list_any}
use Rattle.std.proofs.lemmas.Bool.{lt-ltb}
use Rattle.flow_constraints.specs.declared.flow.Entry.{Entry}
use Rattle.flow_constraints.specs.declared.flow.Flow.{Flow}
use Rattle.flow_constraints.specs.declared.flow.Kind.{Kind}
use Rattle.flow_constraints.specs.declared.flow.Kind.TheVariants.{Fixed, Boxed, Closure, Continuation, Pair, Symbol, Text, Vector}
use Rattle.flow_constraints.specs.Rows.{row, Result, Var}
use Rattle.flow_form.specs.declared.rows.Rows.{Rows}
use Rattle.least_set.specs.Least.{IsLeast, IsLed, Set, all_below, has}
use Rattle.least_set.proofs.Has.{all_of, one_of, or_cases, or_left}
use Rattle.named_form.specs.Code.{free_in, option_list, totals}
use Rattle.named_form.specs.Valid.{Form, WellFormed, numbers_from}
use Rattle.named_form.proofs.Kept.{has_less, has_within}
use Rattle.plan_facts.specs.declared.place.Place.{Place}
use Rattle.plan_facts.specs.Calls.{is_reached}
use Rattle.plan_facts.specs.Escaping.{HasEscaping, IsEscaping, IsReachedStep, IsSite, SiteOf, contents, passes_on, stored}
use Rattle.plan_facts.specs.Places.{Facts, facts_of}
use Rattle.plan_facts.proofs.SiteNumbers.{site_below}
use Rattle.escape_facts.specs.Owners.{each_entry}
use Rattle.escape_facts.specs.Reached.{all_starts, belongs, has_some, held_sites, passed_starts, result_starts, row_starts, rows_sites, step_starts, stored_starts, vars_sites}
use Rattle.escape_facts.proofs.InSites.{at_row, at_rows, at_vars, in_left, in_right, of_append, of_row, of_rows, of_vars}
use Rattle.escape_facts.proofs.Owned.{Owned}
use Rattle.escape_facts.proofs.Somewhere.{any_flat, any_given, any_item, any_number, any_when, given_of, item_of, number_of, when_any}

-- Whose a site is

first_of : (ys : List ℕ) → has_some ys ≡ true → (y : ℕ) × (has ys y ≡ true)
first_of [] h = absurd (cc)
first_of (y ∷ ys) h = (y, or_left (nat_eq y y) (has ys y) (eq-eqb y y refl))

some_of : (ys : List ℕ) (y : ℕ) → has ys y ≡ true → has_some ys ≡ true
some_of [] y h = absurd (cc)
some_of (x ∷ ys) y h = refl

is_site : (k : Facts) (owners own : ℕ → List ℕ) (s : ℕ) → Owned k owners own → belongs owners None s ≡ true → IsSite k s
is_site k owners own s o h = let q = first_of (owners s) h in record { proc = q.0; site_of = o.owned s q.0 q.1 }

site_is : (k : Facts) (owners own : ℕ → List ℕ) (s : ℕ) → Owned k owners own → IsSite k s → belongs owners None s ≡ true
site_is k owners own s o h = some_of (owners s) h.proc (o.owner s h.proc h.site_of)

-- What objects hold, by the free variables of procedures

has_map : (g : ℕ → ℕ) (xs : List ℕ) (r : ℕ) → has (map g xs) r ≡ list_any (λ x. nat_eq r (g x)) xs
has_map g [] r = refl
has_map g (x ∷ xs) r = ap (λ b. nat_eq r (g x) || b) (has_map g xs r)

map_within : (g : ℕ → ℕ) (xs ys : List ℕ) (r : ℕ) → ((x : ℕ) → has xs x ≡ true → has ys x ≡ true) → has (map g xs) r ≡ true
    → has (map g ys) r ≡ true
map_within g xs ys r within h =
    let n = number_of (λ x. nat_eq r (g x)) xs (sym (has_map g xs r) ∙ h) in
    has_map g ys r ∙ any_number (λ x. nat_eq r (g x)) ys n.number (within n.number n.there) n.passes

contents_within : (f : Flow) (free more : ℕ → List ℕ) (kind : Option Kind) (r : ℕ)
    → ((q x : ℕ) → has (free q) x ≡ true → has (more q) x ≡ true) → has (contents f free kind) r ≡ true → has (contents f more kind) r ≡ true
contents_within f free more None r within h = h
contents_within f free more (Some Fixed) r within h = h
contents_within f free more (Some (Closure q)) r within h = map_within (λ x. row f (Var x)) (free q) (more q) r (within q) h
contents_within f free more (Some (Pair s literal)) r within h = h
contents_within f free more (Some (Vector s literal)) r within h = h
contents_within f free more (Some (Text literal)) r within h = h
contents_within f free more (Some (Symbol s)) r within h = h
contents_within f free more (Some (Boxed x)) r within h = h
contents_within f free more (Some (Continuation x)) r within h = h

-- free variables, as a set
abbrev pub FreeAre : Facts → (free : ℕ → List ℕ) → Type 0
FreeAre k free = (q x : ℕ) → has (free q) x ≡ has (free_in (length k.procs) k.procs q) x

-- Where the search starts

abbrev tops_of : (owners : ℕ → List ℕ) → Facts → (tops : ℕ) → List ℕ
tops_of owners k tops = rows_sites owners k.rows None (numbers_from 0 tops)

abbrev steps_of : (owners : ℕ → List ℕ) → Facts → List ℕ
steps_of owners k = flat_map (step_starts owners k.flow k.rows) k.steps

abbrev results_of : (owners : ℕ → List ℕ) → Facts → List ℕ
results_of owners k = each_entry (result_starts owners k.flow k.rows) 1 k.flow.entries

abbrev own_of : (own : ℕ → List ℕ) → (capturing : List ℕ) → List ℕ
own_of own capturing = own 0 ++ flat_map own capturing

abbrev starts : (owners own : ℕ → List ℕ) → Facts → (tops : ℕ) → (capturing : List ℕ) → List ℕ
starts owners own k tops capturing = all_starts owners own k.flow k.rows tops k.steps capturing

in_tops : (owners own : ℕ → List ℕ) (k : Facts) (tops : ℕ) (capturing : List ℕ) (s : ℕ) → has (tops_of owners k tops) s ≡ true
    → has (starts owners own k tops capturing) s ≡ true
in_tops owners own k tops capturing s h =
    in_left (row_starts owners k.flow k.rows tops k.steps) (own_of own capturing) s
    (in_left (tops_of owners k tops) (steps_of owners k ++ results_of owners k) s h)

in_step : (owners own : ℕ → List ℕ) (k : Facts) (tops : ℕ) (capturing : List ℕ) (s : ℕ) (p : Place) (step : IsReachedStep k p)
    → has (stored_starts owners k.flow k.rows p ++ passed_starts owners k.flow k.rows p) s ≡ true
    → has (starts owners own k tops capturing) s ≡ true
in_step owners own k tops capturing s p step h =
    in_left (row_starts owners k.flow k.rows tops k.steps) (own_of own capturing) s
    (in_right (tops_of owners k tops) (steps_of owners k ++ results_of owners k) s
    (in_left (steps_of owners k) (results_of owners k) s
    (any_flat (nat_eq s) (step_starts owners k.flow k.rows) k.steps
    ∙ any_item (λ x. has (step_starts owners k.flow k.rows x) s) k.steps step.number p step.there
    (when_any (nat_eq s) (is_reached k.flow k.rows p.block) (stored_starts owners k.flow k.rows p ++ passed_starts owners k.flow k.rows p)
    step.reached h))))

in_results : (owners own : ℕ → List ℕ) (k : Facts) (tops : ℕ) (capturing : List ℕ) (s n : ℕ) (e : Entry)
    → slice_get k.flow.entries n ≡ Some e → has (result_starts owners k.flow k.rows (1 + n) e) s ≡ true
    → has (starts owners own k tops capturing) s ≡ true
in_results owners own k tops capturing s n e there h =
    in_left (row_starts owners k.flow k.rows tops k.steps) (own_of own capturing) s
    (in_right (tops_of owners k tops) (steps_of owners k ++ results_of owners k) s
    (in_right (steps_of owners k) (results_of owners k) s
    (any_given (nat_eq s) (result_starts owners k.flow k.rows) 1 k.flow.entries n e there h)))

in_own : (owners own : ℕ → List ℕ) (k : Facts) (tops : ℕ) (capturing : List ℕ) (s : ℕ) → has (own_of own capturing) s ≡ true
    → has (starts owners own k tops capturing) s ≡ true
in_own owners own k tops capturing s h = in_right (row_starts owners k.flow k.rows tops k.steps) (own_of own capturing) s h

has_option : (o : Option ℕ) (x : ℕ) → o ≡ Some x → has (option_list o) x ≡ true
has_option o x e = ap (λ p. has (option_list p) x) e ∙ or_left (nat_eq x x) false (eq-eqb x x refl)

-- A set that has what the graph has is closed

closed_in : (k : Facts) (owners own free : ℕ → List ℕ) (tops : ℕ) (capturing : List ℕ) (xs : Set ℕ) → Owned k owners own
    → FreeAre k free → IsLed (starts owners own k tops capturing) (held_sites owners k.flow k.rows free) xs → HasEscaping tops k capturing xs
closed_in k owners own free tops capturing xs o are l =
    let begun : (s : ℕ) → has (starts owners own k tops capturing) s ≡ true → xs s ≡ true =
    λ s h. one_of xs (starts owners own k tops capturing) s l.begun h in
    record {
      named = λ g s less site there.
          begun s (in_tops owners own k tops capturing s
          (at_rows owners k.rows None (numbers_from 0 tops) g s (has_within 0 tops g (omega arith) (omega (arith, less))) there
          (site_is k owners own s o site)));
      stored = λ p x s step stores site there.
          begun s (in_step owners own k tops capturing s p step
          (in_left (stored_starts owners k.flow k.rows p) (passed_starts owners k.flow k.rows p) s
          (at_vars owners k.flow k.rows None (option_list (stored p.action)) x s (has_option (stored p.action) x stores) there
          (site_is k owners own s o site))));
      passed = λ p x s step tail has_x site there.
          begun s (in_step owners own k tops capturing s p step
          (in_right (stored_starts owners k.flow k.rows p) (passed_starts owners k.flow k.rows p) s
          (when_any (nat_eq s) p.tail (vars_sites owners k.flow k.rows (Some p.proc) (passes_on p.action)) tail
          (at_vars owners k.flow k.rows (Some p.proc) (passes_on p.action) x s has_x there (o.owner s p.proc site)))));
      given = λ n s e entry site there.
          let same : suc n ≡ 1 + n = omega arith in
          begun s (in_results owners own k tops capturing s n e entry
          (at_row owners k.rows (Some (1 + n)) (row k.flow (Result e.block)) s there
          (subst (λ q. has (owners s) q ≡ true) same (o.owner s (suc n) site))));
      captured = λ q s has_q site.
          begun s (in_own owners own k tops capturing s
          (in_right (own 0) (flat_map own capturing) s
          (any_flat (nat_eq s) own capturing ∙ any_number (λ p. has (own p) s) capturing q has_q (o.own_one s q site))));
      first = λ s site. begun s (in_own owners own k tops capturing s (in_left (own 0) (flat_map own capturing) s (o.own_one s 0 site)));
      held = λ s t r there has_r site in_row.
          l.led s t there
          (at_rows owners k.rows None (contents k.flow free (slice_get k.flow.kinds (10 + s))) r t
          (contents_within k.flow (free_in (length k.procs) k.procs) free (slice_get k.flow.kinds (10 + s)) r (λ q x h. are q x ∙ h) has_r)
          in_row (site_is k owners own t o site));
    }

-- A closed set has what the graph has

of_step : (k : Facts) (owners own : ℕ → List ℕ) (tops : ℕ) (capturing : List ℕ) (xs : Set ℕ) (s : ℕ) → Owned k owners own
    → HasEscaping tops k capturing xs → has (steps_of owners k) s ≡ true → xs s ≡ true
of_step k owners own tops capturing xs s o c h =
    let i = item_of (λ x. has (step_starts owners k.flow k.rows x) s) k.steps
    (sym (any_flat (nat_eq s) (step_starts owners k.flow k.rows) k.steps) ∙ h) in
    let p = i.item in
    let w = any_when (nat_eq s) (is_reached k.flow k.rows p.block)
    (stored_starts owners k.flow k.rows p ++ passed_starts owners k.flow k.rows p) i.passes in
    let step : IsReachedStep k p = record { number = i.at; there = i.there; reached = w.0 } in
    elim (of_append (stored_starts owners k.flow k.rows p) (passed_starts owners k.flow k.rows p) s w.1) [
      | inl stores ↦
          let v = of_vars owners k.flow k.rows None (option_list (stored p.action)) s stores in
          c.stored p v.item s step (the_option (stored p.action) v.item v.there) (is_site k owners own s o v.one) v.in_row
      | inr passes ↦
          let t = any_when (nat_eq s) p.tail (vars_sites owners k.flow k.rows (Some p.proc) (passes_on p.action)) passes in
          let v = of_vars owners k.flow k.rows (Some p.proc) (passes_on p.action) s t.1 in
          c.passed p v.item s step t.0 v.there (o.owned s p.proc v.one) v.in_row
    ]
  where
    the_option : (o : Option ℕ) (x : ℕ) → has (option_list o) x ≡ true → o ≡ Some x
    the_option None x h = absurd (cc)
    the_option (Some y) x h = elim (or_cases (nat_eq x y) false h) [
      | inl e ↦ ap Some (sym (eqb-true x y e))
      | inr e ↦ absurd (cc)
    ]

of_rows_start : (k : Facts) (owners own : ℕ → List ℕ) (tops : ℕ) (capturing : List ℕ) (xs : Set ℕ) (s : ℕ) → Owned k owners own
    → HasEscaping tops k capturing xs → has (row_starts owners k.flow k.rows tops k.steps) s ≡ true → xs s ≡ true
of_rows_start k owners own tops capturing xs s o c h =
    elim (of_append (tops_of owners k tops) (steps_of owners k ++ results_of owners k) s h) [
      | inl top ↦
          let r = of_rows owners k.rows None (numbers_from 0 tops) s top in
          let below = has_less 0 tops r.item r.there in
          c.named r.item s (omega (arith, below)) (is_site k owners own s o r.one) r.in_row
      | inr later ↦ elim (of_append (steps_of owners k) (results_of owners k) s later) [
        | inl step ↦ of_step k owners own tops capturing xs s o c step
        | inr result ↦
            let g = given_of (nat_eq s) (result_starts owners k.flow k.rows) 1 k.flow.entries result in
            let r = of_row owners k.rows (Some (1 + g.at)) (row k.flow (Result g.entry.block)) s g.passes in
            let same : 1 + g.at ≡ suc g.at = omega arith in
            c.given g.at s g.entry g.there (subst (λ q. SiteOf k q s) same (o.owned s (1 + g.at) r.1)) r.0
      ]
    ]

of_start : (k : Facts) (owners own : ℕ → List ℕ) (tops : ℕ) (capturing : List ℕ) (xs : Set ℕ) (s : ℕ) → Owned k owners own
    → HasEscaping tops k capturing xs → has (starts owners own k tops capturing) s ≡ true → xs s ≡ true
of_start k owners own tops capturing xs s o c h =
    elim (of_append (row_starts owners k.flow k.rows tops k.steps) (own_of own capturing) s h) [
      | inl by_rows ↦ of_rows_start k owners own tops capturing xs s o c by_rows
      | inr owned ↦ elim (of_append (own 0) (flat_map own capturing) s owned) [
        | inl program ↦ c.first s (o.one_own s 0 program)
        | inr captured ↦
            let n = number_of (λ q. has (own q) s) capturing (sym (any_flat (nat_eq s) own capturing) ∙ captured) in
            c.captured n.number s n.there (o.one_own s n.number n.passes)
      ]
    ]

led_by : (k : Facts) (owners own free : ℕ → List ℕ) (tops : ℕ) (capturing : List ℕ) (xs : Set ℕ) → Owned k owners own
    → FreeAre k free → HasEscaping tops k capturing xs → IsLed (starts owners own k tops capturing) (held_sites owners k.flow k.rows free) xs
led_by k owners own free tops capturing xs o are c =
    record {
      begun = all_of xs (starts owners own k tops capturing) (λ s h. of_start k owners own tops capturing xs s o c h);
      led = λ s t there h.
          let kind = slice_get k.flow.kinds (10 + s) in
          let r = of_rows owners k.rows None (contents k.flow free kind) t h in
          c.held s t r.item there
          (contents_within k.flow free (free_in (length k.procs) k.procs) kind r.item (λ q x in_free. sym (are q x) ∙ in_free) r.there)
          (is_site k owners own t o r.one) r.in_row;
    }

pub least_escaping : (k : Facts) (owners own free : ℕ → List ℕ) (tops : ℕ) (capturing : List ℕ) (xs : Set ℕ) → Owned k owners own
    → FreeAre k free → IsLeast (IsLed (starts owners own k tops capturing) (held_sites owners k.flow k.rows free)) xs
    → IsLeast (HasEscaping tops k capturing) xs
least_escaping k owners own free tops capturing xs o are l =
    record {
      closed = closed_in k owners own free tops capturing xs o are l.closed;
      within = λ other c x there. l.within other (led_by k owners own free tops capturing other o are c) x there;
    }

-- All sites are below a bound of theirs

below_closed : (k : Facts) (many tops : ℕ) (capturing : List ℕ) → ((s q : ℕ) → SiteOf k q s → s < many)
    → HasEscaping tops k capturing (λ s. nat_lt s many)
below_closed k many tops capturing below =
    record {
      named = λ g s less site there. lt-ltb s many (below s site.proc site.site_of);
      stored = λ p x s step stores site there. lt-ltb s many (below s site.proc site.site_of);
      passed = λ p x s step tail has_x site there. lt-ltb s many (below s p.proc site);
      given = λ n s e entry site there. lt-ltb s many (below s (suc n) site);
      captured = λ q s has_q site. lt-ltb s many (below s q site);
      first = λ s site. lt-ltb s many (below s 0 site);
      held = λ s t r there has_r site in_row. lt-ltb t many (below t site.proc site.site_of);
    }

pub starts_below : (k : Facts) (owners own : ℕ → List ℕ) (many tops : ℕ) (capturing : List ℕ) → Owned k owners own
    → ((whose : Option ℕ) (s : ℕ) → belongs owners whose s ≡ true → s < many)
    → all_below many (all_starts owners own k.flow k.rows tops k.steps capturing) ≡ true
starts_below k owners own many tops capturing o below =
    all_of (λ s. nat_lt s many) (starts owners own k tops capturing)
    (λ s h. of_start k owners own tops capturing (λ x. nat_lt x many) s o
    (below_closed k many tops capturing (λ x q site. below (Some q) x (o.owner x q site))) h)

pub held_below : (owners : ℕ → List ℕ) (f : Flow) (rows : Rows) (free : ℕ → List ℕ) (many s : ℕ)
    → ((whose : Option ℕ) (s : ℕ) → belongs owners whose s ≡ true → s < many) → all_below many (held_sites owners f rows free s) ≡ true
held_below owners f rows free many s below =
    all_of (λ t. nat_lt t many) (held_sites owners f rows free s)
    (λ t h. lt-ltb t many (below None t (of_rows owners rows None (contents f free (slice_get f.kinds (10 + s))) t h).one))

-- All escaping sites of a well-formed program are among its sites

pub escaping_below : (f : Form) (rows : Rows) (capturing sites : List ℕ) → WellFormed f → IsEscaping f rows capturing sites
    → all_below (totals f.procs).sites sites ≡ true
escaping_below f rows capturing sites w e =
    let many = (totals f.procs).sites in
    all_of (λ s. nat_lt s many) sites
    (λ s h. e.within (λ x. nat_lt x many)
    (below_closed (facts_of f rows) many f.tops capturing (λ x q site. site_below f rows w q x site)) s h)
