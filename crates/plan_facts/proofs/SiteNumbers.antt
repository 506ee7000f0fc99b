-- The sites of a well-formed program have numbers below how many sites it has.
use Rattle.std.proofs.Common.{◌≡◌, ℕ, zero, suc, ◌+◌, ◌-◌, ◌<◌, ◌≤◌, Bool, true, List, [], ◌∷◌, ◌++◌, length, Option, Some, None, refl, sym, subst, arith}
use Rattle.std.specs.Prelude.{is_some, if◌then◌else◌}
use Rattle.std.specs.List.{AllByRecursion}
use Rattle.scheme_base.specs.declared.pos.Pos.{Pos}
use Rattle.flow_constraints.specs.declared.flow.Entry.{Entry}
use Rattle.flow_constraints.specs.Layout.{begins, entry_of, flow_of, laid_all, laid_lambda, laid_lambdas, laid_main, started}
use Rattle.flow_constraints.proofs.EachOf.{of_both, of_each, of_had}
use Rattle.flow_constraints.proofs.LayoutGrows.{body_lists, lambda_entries, lambda_grows, main_entries, main_grows}
use Rattle.flow_form.specs.declared.rows.Rows.{Rows}
use Rattle.least_set.specs.Least.{has}
use Rattle.named_form.specs.Code.{Act, Code, Ends, Then, Prim, CallCC, If, Closure, Fix, MakeBox, MakeHole, Counts, Label, Written, arms_close, but_first, closes_in, closure_site, first_sites, in_tail, labelled, labelled_act, makes, option_list, past, past_all, past_arms, past_code, procedures, rest_lists, sites_of, totals}
use Rattle.named_form.specs.Code as code
use Rattle.named_form.specs.Valid.{AnyValue, Form, LaterOnes, NamesIn, Throughout, ThroughoutArms, WellFormed}
use Rattle.named_form.proofs.Labels.{all_at}
use Rattle.plan_facts.specs.declared.place.Place.{Place}
use Rattle.plan_facts.specs.Escaping.{Closes, Lists, Makes, SiteOf, closes, makes_object}
use Rattle.plan_facts.specs.Places.{arm_steps, facts_of, places_of, step_at, steps_from, steps_in}

split : (P : ℕ → Type 0) (xs ys : List ℕ) → AllByRecursion P (xs ++ ys) → AllByRecursion P xs × AllByRecursion P ys
split P [] ys h = (tt, h)
split P (x ∷ xs) ys h = let parts = split P xs ys h.1 in ((h.0, parts.0), parts.1)

-- Sites do not fall along a text

mutual
  code_grows : (at : Counts) (c : Code Pos) → at.sites ≤ (past_code at c).sites
  code_grows at (Ends value) = omega arith
  code_grows at (Then pos vars act rest) =
      let arms = arms_grow (past at act) act in
      let others = code_grows (past_arms (past at act) act) rest in
      omega (arith, arms, others)

  arms_grow : (at : Counts) (act : Act Pos) → at.sites ≤ (past_arms at act).sites
  arms_grow at (If test this that) =
      let first = code_grows at this in
      let second = code_grows (past_code at this) that in
      omega (arith, first, second)
  arms_grow at act = omega arith

all_grow : (at : Counts) (ps : List Written) → at.sites ≤ (past_all at ps).sites
all_grow at [] = omega arith
all_grow at (p ∷ ps) =
    let inside : Counts = record { steps = at.steps; sites = at.sites; blocks = suc at.blocks } in
    let body = code_grows inside p.body in
    let others = all_grow (past_code inside p.body) ps in
    omega (arith, body, others)

-- Steps

-- what a step makes, and the closures that it makes, are of sites below this number
record Below (most : ℕ) (p : Place) : Type 0 where
  made : makes_object p.action ≡ true → p.site < most
  closed : (q : ℕ) → has (closes p.action) q ≡ true → closure_site q < most

closure_below : (most procs q : ℕ) → procs ≤ suc most → q < procs → 0 < q → closure_site q < most
closure_below most procs zero few less more = absurd (omega (arith, more))
closure_below most procs (suc q) few less more = omega (arith, few, less)

closures_below : (most procs : ℕ) (qs : List ℕ) → procs ≤ suc most → AllByRecursion (λ q. q < procs) qs
    → AllByRecursion (λ q. 0 < q) qs → (q : ℕ) → has qs q ≡ true → closure_site q < most
closures_below most procs qs few less more q h =
    closure_below most procs q few (of_had (λ q. q < procs) qs q less h) (of_had (λ q. 0 < q) qs q more h)

step_below : (g : Form) (most q b : ℕ) (l : Label) (pos : Pos) (vars : List ℕ) (at : Counts) (last : Bool) (act : Act Pos)
    → length g.procs ≤ suc most → NamesIn g pos vars act → AllByRecursion (λ r. 0 < r) (code.closes act)
    → l.site + sites_of act ≤ most → Below most (step_at q b l vars (labelled_act at last act))
step_below g most q b l pos vars at last (Prim o ys) few names later fits =
    record {
      made = λ h.
          let one : l.site + 1 ≤ most = subst (λ m. l.site + (if m then 1 else 0) ≤ most) h fits in
          omega (arith, one);
      closed = λ r h. absurd (cc);
    }
step_below g most q b l pos vars at last (Closure r) few names later fits =
    record {
      made = λ h. absurd (cc);
      closed = closures_below most (length g.procs) (r ∷ []) few (names, tt) later;
    }
step_below g most q b l pos vars at last (Fix rs) few names later fits =
    record { made = λ h. absurd (cc); closed = closures_below most (length g.procs) rs few names later }
step_below g most q b l pos vars at last (MakeBox y) few names later fits =
    record { made = λ h. omega (arith, fits); closed = λ r h. absurd (cc) }
step_below g most q b l pos vars at last MakeHole few names later fits =
    record { made = λ h. omega (arith, fits); closed = λ r h. absurd (cc) }
step_below g most q b l pos vars at last (CallCC y) few names later fits =
    record { made = λ h. omega (arith, fits); closed = λ r h. absurd (cc) }
step_below g most q b l pos vars at last act few names later fits =
    record { made = λ h. absurd (cc); closed = λ r h. absurd (cc) }

mutual
  code_below : (g : Form) (most q b : ℕ) (at : Counts) (tail : Bool) (c : Code Pos) → length g.procs ≤ suc most
      → Throughout (NamesIn g) AnyValue c → AllByRecursion (λ r. 0 < r) (closes_in c) → (past_code at c).sites ≤ most
      → AllByRecursion (Below most) (steps_in q b (labelled at tail c))
  code_below g most q b at tail (Ends value) few names later fits = tt
  code_below g most q b at tail (Then pos vars act rest) few names later fits =
      let last = in_tail tail rest vars in
      let next = past_arms (past at act) act in
      let own = split (λ r. 0 < r) (code.closes act) (arms_close act ++ closes_in rest) later in
      let others = split (λ r. 0 < r) (arms_close act) (closes_in rest) own.1 in
      let arms = arms_grow (past at act) act in
      let past_rest = code_grows next rest in
      let l : Label = record { place = pos; step = at.steps; site = at.sites; arm = at.blocks; tail = last } in (
        step_below g most q b l pos vars (past at act) last act few names.0 own.0 (omega (arith, arms, past_rest, fits)),
        of_both (Below most) (arm_steps q at.blocks (labelled_act (past at act) last act)) (steps_in q b (labelled next tail rest))
            (arms_below g most q at.blocks (past at act) last act few names.1 others.0 (omega (arith, past_rest, fits)))
            (code_below g most q b next tail rest few names.2 others.1 fits),
      )

  arms_below : (g : Form) (most q arm : ℕ) (at : Counts) (last : Bool) (act : Act Pos) → length g.procs ≤ suc most
      → ThroughoutArms (NamesIn g) AnyValue act → AllByRecursion (λ r. 0 < r) (arms_close act) → (past_arms at act).sites ≤ most
      → AllByRecursion (Below most) (arm_steps q arm (labelled_act at last act))
  arms_below g most q arm at last (If test this that) few names later fits =
      let parts = split (λ r. 0 < r) (closes_in this) (closes_in that) later in
      let second = code_grows (past_code at this) that in
      of_both (Below most) (steps_in q arm (labelled at last this)) (steps_in q (arm + 1) (labelled (past_code at this) last that))
      (code_below g most q arm at last this few names.0 parts.0 (omega (arith, second, fits)))
      (code_below g most q (arm + 1) (past_code at this) last that few names.1 parts.1 fits)
  arms_below g most q arm at last act few names later fits = tt

procs_below : (g : Form) (all : List Written) (most q site : ℕ) (at : Counts) (ps : List Written) → length g.procs ≤ suc most
    → AllByRecursion (λ (p : Written). Throughout (NamesIn g) AnyValue p.body) ps → LaterOnes q ps → (past_all at ps).sites ≤ most
    → AllByRecursion (Below most) (steps_from q (procedures all q site at ps))
procs_below g all most q site at [] few names later fits = tt
procs_below g all most q site at (p ∷ ps) few names later fits =
    let inside : Counts = record { steps = at.steps; sites = at.sites; blocks = suc at.blocks } in
    let next = past_code inside p.body in
    let others = all_grow next ps in
    of_both (Below most) (steps_in q at.blocks (labelled inside true p.body))
    (steps_from (suc q) (procedures all (suc q) (site + length (option_list p.rest)) next ps))
    (code_below g most q at.blocks inside true p.body few names.0
    (of_each (λ r. q < r) (λ r. 0 < r) (λ r h. omega (arith, h)) (closes_in p.body) later.0) (omega (arith, others, fits)))
    (procs_below g all most (suc q) (site + length (option_list p.rest)) next ps few names.1 later.1 fits)

-- Rest lists

-- the rest lists of a procedure, if it has some, are of an atom below this one
record ListBelow (most : ℕ) (e : Entry) : Type 0 where
  below : is_some e.rest ≡ true → e.list < most

one_list : (o : Option ℕ) → is_some o ≡ true → length (option_list o) ≡ 1
one_list None h = absurd (cc)
one_list (Some x) h = refl

-- how procedures are laid out one after another, as far as their rest lists go
record Lays {L : Type 0} (one : Written → L → L) (entry : Written → L → Entry) (entries : L → List Entry) (next : L → ℕ) : Type 0 where
  noted : (p : Written) (t : L) → entries (one p t) ≡ entries t ++ entry p t ∷ []
  rest : (p : Written) (t : L) → (entry p t).rest ≡ p.rest
  list : (p : Written) (t : L) → (entry p t).list ≡ next t
  past : (p : Written) (t : L) → next (one p t) ≡ next t + length (option_list p.rest)

lists_below : {L : Type 0} (one : Written → L → L) (all : List Written → L → L) (entry : Written → L → Entry) (entries : L → List Entry)
    (next : L → ℕ) → Lays one entry entries next → ((t : L) → all [] t ≡ t)
    → ((p : Written) (ps : List Written) (t : L) → all (p ∷ ps) t ≡ all ps (one p t)) → (most : ℕ) (ps : List Written) (t : L)
    → next t + rest_lists ps ≤ most → AllByRecursion (ListBelow most) (entries t) → AllByRecursion (ListBelow most) (entries (all ps t))
lists_below one all entry entries next lays ends goes most [] t fits h =
    subst (λ u. AllByRecursion (ListBelow most) (entries u)) (sym (ends t)) h
lists_below one all entry entries next lays ends goes most (p ∷ ps) t fits h =
    let past = lays.past p t in
    let this : ListBelow most (entry p t) =
    record {
      below = λ some.
          let many = one_list p.rest (subst (λ o. is_some o ≡ true) (lays.rest p t) some) in
          let is = lays.list p t in
          omega (arith, many, is, fits);
    } in
    subst (λ u. AllByRecursion (ListBelow most) (entries u)) (sym (goes p ps t))
    (lists_below one all entry entries next lays ends goes most ps (one p t) (omega (arith, past, fits))
    (subst (λ es. AllByRecursion (ListBelow most) es) (sym (lays.noted p t))
    (of_both (ListBelow most) (entries t) (entry p t ∷ []) h (this, tt))))

all_lists_below : (most tops : ℕ) (ps : List Written) → 10 + first_sites ps ≤ most
    → AllByRecursion (ListBelow most) (laid_all ps (started tops (length ps - 1))).entries
all_lists_below most tops [] fits = tt
all_lists_below most tops (p ∷ ps) fits =
    let begun = started tops (length (p ∷ ps) - 1) in
    let same = (main_grows p begun).first in
    let more = body_lists p (begins 1 begun) in
    lists_below laid_lambda laid_lambdas entry_of (λ t. t.entries) (λ t. t.first_list + length t.lists)
    (record {
      noted = λ q t. lambda_entries q t;
      rest = λ q t. refl;
      list = λ q t. refl;
      past = λ q t.
          let first = (lambda_grows q t).first in
          let lists = body_lists q (begins 2 (record t { entries = t.entries ++ entry_of q t ∷ [] })) in
          omega (arith, first, lists);
    })
    (λ t. refl) (λ q qs t. refl) most ps (laid_main p begun) (omega (arith, same, more, fits))
    (subst (λ es. AllByRecursion (ListBelow most) es) (sym (main_entries p begun)) tt)

-- All sites

but_first_many : (ps : List Written) → length ps - 1 ≡ length (but_first ps)
but_first_many [] = refl
but_first_many (p ∷ ps) = omega arith

record Sizes (f : Form) : Type 0 where
  procs : length f.procs ≤ suc (totals f.procs).sites
  first : first_sites f.procs ≤ (totals f.procs).sites

sizes : (f : Form) → Sizes f
sizes f =
    let first = all_grow (record { steps = 0; sites = first_sites f.procs; blocks = 0 }) f.procs in
    let many = but_first_many f.procs in
    record { procs = omega (arith, first, many); first = first }

pub site_below : (f : Form) (rows : Rows) → WellFormed f → (q s : ℕ) → SiteOf (facts_of f rows) q s → s < (totals f.procs).sites
site_below f rows w q s site = by_site site
  where
    most : ℕ
    most = (totals f.procs).sites

    steps : AllByRecursion (Below most) (places_of f)
    steps = procs_below f f.procs most 0 _ _ f.procs (sizes f).procs w.names w.made.later (omega arith)

    lists : AllByRecursion (ListBelow (10 + most)) (flow_of f).entries
    lists =
        let fits = (sizes f).first in all_lists_below (10 + most) f.tops f.procs (omega (arith, fits))

    by_site : SiteOf (facts_of f rows) q s → s < most
    by_site (Makes n p there home makes is) =
        subst (λ m. m < most) (sym is) ((all_at (Below most) (places_of f) n p steps there).made makes)
    by_site (Closes n p r there home has_r is) =
        subst (λ m. m < most) (sym is) ((all_at (Below most) (places_of f) n p steps there).closed r has_r)
    by_site (Lists n e there number rest list) =
        let below = (all_at (ListBelow (10 + most)) (flow_of f).entries n e lists there).below rest in
        omega (arith, list, below)
