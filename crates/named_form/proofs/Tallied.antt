-- What a walk over a program counts is what the plain plan has an entry for.
use Rattle.std.proofs.Common.{◌≡◌, ℕ, zero, suc, ◌+◌, ◌-◌, Bool, true, false, List, [], ◌∷◌, ◌++◌, length, refl, sym, ap, ◌∙◌, arith, length-append, append_assoc, append-nil}
use Rattle.std.specs.Prelude.{map, replicate, ◌||◌, ◌&&◌, not, if◌then◌else◌}
use Rattle.std.specs.List.{flat_map}
use Rattle.scheme_base.specs.declared.pos.Pos.{Pos}
use Rattle.scheme_base.specs.declared.place.Mark.TheVariants.{Global}
use Rattle.named_form.specs.declared.plan.Plan.{Plan}
use Rattle.named_form.specs.declared.plan.Repr.TheVariants.{Tagged}
use Rattle.named_form.specs.declared.tally.Tally.{Tally}
use Rattle.named_form.specs.Code.{Code, Ends, Then, Act, If, Prim, Counts, Written, Lambda, past, past_code, past_arms, past_all, in_tail, labelled, labelled_act, procedures, program, sites_of, arms_of, is_call, is_callcc, option_list, binds, arms_bind, bound_in, rest_lists, but_first, first_sites, totals}
use Rattle.named_form.specs.PlainPlan.{waits, waiting_in, arms_wait, captures_in, arms_capture, captures_any, all_waiting, capturing, var_count, before, all_before, all_free, used, plain}
use Rattle.named_form.specs.Tallies.{met_step, met_code, met_arms, met_proc, met_all, vars_before, started, planned}
use Rattle.named_form.specs.Valid.{Form, numbers_from}

-- Steps, sites and blocks: what is met and what stands before grow alike.
record Alike (t u : Tally) (at past : Counts) : Type 0 where
  steps : u.steps + at.steps ≡ t.steps + past.steps
  sites : u.sites + at.sites ≡ t.sites + past.sites
  blocks : u.blocks + at.blocks ≡ t.blocks + past.blocks

onward : (t u v : Tally) (a b c : Counts) → Alike t u a b → Alike u v b c → Alike t v a c
onward t u v a b c h k =
    record {
      steps = omega (arith, h.steps, k.steps);
      sites = omega (arith, h.sites, k.sites);
      blocks = omega (arith, h.blocks, k.blocks);
    }

step_alike : (tail : Bool) (vars : List ℕ) (act : Act Pos) (t : Tally) (at : Counts)
    → Alike t (met_step tail vars act t) at (past at act)
step_alike tail vars act t at =
    record {
      steps = omega arith;
      sites = regroup t.sites (sites_of act) at.sites;
      blocks = regroup t.blocks (arms_of act) at.blocks;
    }
  where
    regroup : (a b c : ℕ) → a + b + c ≡ a + (c + b)
    regroup a b c = omega arith

mutual
  code_alike : (tail : Bool) (c : Code Pos) (t : Tally) (at : Counts) → Alike t (met_code tail c t) at (past_code at c)
  code_alike tail (Ends value) t at = record { steps = refl; sites = refl; blocks = refl }
  code_alike tail (Then pos vars act rest) t at =
      let last = in_tail tail rest vars in
      onward t (met_step last vars act t) (met_code tail rest (met_arms last act (met_step last vars act t))) at (past at act) _
      (step_alike last vars act t at)
      (onward (met_step last vars act t) (met_arms last act (met_step last vars act t)) _ (past at act) (past_arms (past at act) act) _
      (arms_alike last act (met_step last vars act t) (past at act))
      (code_alike tail rest (met_arms last act (met_step last vars act t)) (past_arms (past at act) act)))

  arms_alike : (tail : Bool) (act : Act Pos) (t : Tally) (at : Counts) → Alike t (met_arms tail act t) at (past_arms at act)
  arms_alike tail (If test this that) t at =
      onward t (met_code tail this t) _ at (past_code at this) _ (code_alike tail this t at)
      (code_alike tail that (met_code tail this t) (past_code at this))
  arms_alike tail act t at = record { steps = refl; sites = refl; blocks = refl }

-- of whole programs, but for the sites of rest lists, which stand before all others
record AllAlike (ps : List Written) (t u : Tally) (at past : Counts) : Type 0 where
  steps : u.steps + at.steps ≡ t.steps + past.steps
  sites : u.sites + at.sites ≡ t.sites + past.sites + rest_lists ps
  blocks : u.blocks + at.blocks ≡ t.blocks + past.blocks

all_alike : (ps : List Written) (t : Tally) (at : Counts) → AllAlike ps t (met_all ps t) at (past_all at ps)
all_alike [] t at = record { steps = refl; sites = omega arith; blocks = refl }
all_alike (p ∷ ps) t at =
    let inside : Counts = record { steps = at.steps; sites = at.sites; blocks = suc at.blocks } in
    let entered : Tally = record t {
      sites = t.sites + length (option_list p.rest);
      blocks = t.blocks + 1;
      vars = t.vars + (length p.params + length (option_list p.rest));
    } in
    let body = code_alike true p.body entered inside in
    let rest = all_alike ps (met_proc p t) (past_code inside p.body) in
    record {
      steps = omega (arith, body.steps, rest.steps);
      sites = omega (arith, body.sites, rest.sites);
      blocks = omega (arith, body.blocks, rest.blocks);
    }

pub counted : (ps : List Written) → (met_all ps (started (length ps - 1))).steps ≡ (totals ps).steps
counted ps =
    let h = all_alike ps (started (length ps - 1)) (record { steps = 0; sites = first_sites ps; blocks = 0 }) in
    omega (arith, h.steps)

pub counted_blocks : (ps : List Written) → (met_all ps (started (length ps - 1))).blocks ≡ (totals ps).blocks
counted_blocks ps =
    let h = all_alike ps (started (length ps - 1)) (record { steps = 0; sites = first_sites ps; blocks = 0 }) in
    omega (arith, h.blocks)

pub length_others : (ps : List Written) → length ps - 1 ≡ length (but_first ps)
length_others [] = omega arith
length_others (p ∷ ps) = omega arith

pub counted_sites : (ps : List Written) → (met_all ps (started (length ps - 1))).sites ≡ (totals ps).sites
counted_sites ps =
    let h = all_alike ps (started (length ps - 1)) (record { steps = 0; sites = first_sites ps; blocks = 0 }) in
    let others = length_others ps in
    omega (arith, h.sites, others)

-- Variables

mutual
  code_vars : (tail : Bool) (c : Code Pos) (t : Tally) → (met_code tail c t).vars ≡ t.vars + length (binds c)
  code_vars tail (Ends value) t = omega arith
  code_vars tail (Then pos vars act rest) t =
      let last = in_tail tail rest vars in
      let arms = arms_vars last act (met_step last vars act t) in
      let past = code_vars tail rest (met_arms last act (met_step last vars act t)) in
      let one = length-append vars (arms_bind act ++ binds rest) in
      let two = length-append (arms_bind act) (binds rest) in
      omega (arith, arms, past, one, two)

  arms_vars : (tail : Bool) (act : Act Pos) (t : Tally) → (met_arms tail act t).vars ≡ t.vars + length (arms_bind act)
  arms_vars tail (If test this that) t =
      let one = code_vars tail this t in
      let two = code_vars tail that (met_code tail this t) in
      let long = length-append (binds this) (binds that) in
      omega (arith, one, two, long)
  arms_vars tail act t = omega arith

proc_vars : (p : Written) (t : Tally) → (met_proc p t).vars ≡ t.vars + length (bound_in p)
proc_vars p t =
    let entered : Tally = record t {
      sites = t.sites + length (option_list p.rest);
      blocks = t.blocks + 1;
      vars = t.vars + (length p.params + length (option_list p.rest));
    } in
    let body = code_vars true p.body entered in
    let one = length-append p.params (option_list p.rest ++ binds p.body) in
    let two = length-append (option_list p.rest) (binds p.body) in
    omega (arith, body, one, two)

pub all_vars : (ps : List Written) (t : Tally) → (met_all ps t).vars ≡ t.vars + var_count ps
all_vars [] t = omega arith
all_vars (p ∷ ps) t =
    let here = proc_vars p t in
    let past = all_vars ps (met_proc p t) in
    let long = length-append (bound_in p) (flat_map bound_in ps) in
    omega (arith, here, past, long)

shift : {X : Type 0} (f : ℕ → X) (lo n : ℕ) → map f (numbers_from (suc lo) n) ≡ map (λ q. f (suc q)) (numbers_from lo n)
shift f lo zero = refl
shift f lo (suc n) = ap (λ xs. f (suc lo) ∷ xs) (shift f (suc lo) n)

same_at : {X : Type 0} (f g : ℕ → X) (lo n : ℕ) → ((q : ℕ) → f q ≡ g q) → map f (numbers_from lo n) ≡ map g (numbers_from lo n)
same_at f g lo zero h = refl
same_at f g lo (suc n) h =
    ap (λ x. x ∷ map f (numbers_from (suc lo) n)) (h lo) ∙ ap (λ xs. g lo ∷ xs) (same_at f g (suc lo) n h)

before_of : (ps : List Written) (t : Tally) → vars_before ps t ≡ map (λ q. t.vars + before ps q) (numbers_from 0 (length ps))
before_of [] t = refl
before_of (p ∷ ps) t =
    let here : t.vars ≡ t.vars + 0 = omega arith in
    let more = proc_vars p t in
    ap (λ n. n ∷ vars_before ps (met_proc p t)) here
    ∙ ap (λ xs. (t.vars + 0) ∷ xs)
    (before_of ps (met_proc p t)
    ∙ (same_at (λ q. (met_proc p t).vars + before ps q) (λ q. t.vars + (length (bound_in p) + before ps q)) 0 (length ps)
    (λ q. omega (arith, more))
    ∙ sym (shift (λ q. t.vars + before (p ∷ ps) q) 0 (length ps))))

-- where each procedure's variables begin
pub begins : (ps : List Written) (n : ℕ) → vars_before ps (started n) ≡ all_before ps
begins ps n =
    before_of ps (started n) ∙ same_at (λ q. 0 + before ps q) (before ps) 0 (length ps) (λ q. omega arith)

-- Calls that are no tail calls

call_labelled : (at : Counts) (t : Bool) (act : Act Pos) → is_call (labelled_act at t act) ≡ is_call act
call_labelled at t (If test this that) = refl
call_labelled at t act = refl

pub waits_labelled : (at : Counts) (t last : Bool) (vars : List ℕ) (act : Act Pos)
    → waits last vars (labelled_act at t act) ≡ waits last vars act
waits_labelled at t last [] act = refl
waits_labelled at t last (x ∷ xs) act =
    ap (λ b. if b && not last then x ∷ [] else []) (call_labelled at t act)

regroup : (a b c d : List ℕ) → ((a ++ b) ++ c) ++ d ≡ a ++ (b ++ (c ++ d))
regroup a b c d = simp append_assoc

mutual
  code_waits : (tail : Bool) (c : Code Pos) (t : Tally) (at : Counts)
      → (met_code tail c t).recording ≡ t.recording ++ waiting_in (labelled at tail c)
  code_waits tail (Ends value) t at = sym (append-nil t.recording)
  code_waits tail (Then pos vars act rest) t at =
      let last = in_tail tail rest vars in
      let here = waits_labelled (past at act) last last vars act in
      let arms = arms_waits last act (met_step last vars act t) (past at act) in
      let others = code_waits tail rest (met_arms last act (met_step last vars act t)) (past_arms (past at act) act) in
      others
      ∙ (ap (λ xs. xs ++ waiting_in (labelled (past_arms (past at act) act) tail rest)) arms
      ∙ (regroup t.recording (waits last vars act) (arms_wait (labelled_act (past at act) last act)) (waiting_in (labelled (past_arms (past at act) act) tail rest))
      ∙ ap (λ xs. t.recording ++ (xs ++ (arms_wait (labelled_act (past at act) last act) ++ waiting_in (labelled (past_arms (past at act) act) tail rest)))) (sym here)))

  arms_waits : (tail : Bool) (act : Act Pos) (t : Tally) (at : Counts)
      → (met_arms tail act t).recording ≡ t.recording ++ arms_wait (labelled_act at tail act)
  arms_waits tail (If test this that) t at =
      code_waits tail that (met_code tail this t) (past_code at this)
      ∙ (ap (λ xs. xs ++ waiting_in (labelled (past_code at this) tail that)) (code_waits tail this t at)
      ∙ append_assoc t.recording (waiting_in (labelled at tail this)) (waiting_in (labelled (past_code at this) tail that)))
  arms_waits tail act t at = sym (append-nil t.recording)

all_waits : (all : List Written) (q site : ℕ) (at : Counts) (ps : List Written) (t : Tally)
    → (met_all ps t).recording ≡ t.recording ++ flat_map (λ r. waiting_in r.body) (procedures all q site at ps)
all_waits all q site at [] t = sym (append-nil t.recording)
all_waits all q site at (p ∷ ps) t =
    let inside : Counts = record { steps = at.steps; sites = at.sites; blocks = suc at.blocks } in
    let rest = flat_map (λ (r : Lambda). waiting_in r.body) (procedures all (suc q) (site + length (option_list p.rest)) (past_code inside p.body) ps) in
    all_waits all (suc q) (site + length (option_list p.rest)) (past_code inside p.body) ps (met_proc p t)
    ∙ (ap (λ xs. xs ++ rest) (code_waits true p.body _ inside)
    ∙ append_assoc t.recording (waiting_in (labelled inside true p.body)) rest)

pub counted_calls : (f : Form) (n : ℕ) → (met_all f.procs (started n)).recording ≡ all_waiting (program f.procs f.lits)
counted_calls f n = all_waits f.procs 0 _ _ f.procs (started n)

-- Continuations

or_assoc : (a b c : Bool) → (a || b) || c ≡ a || (b || c)
or_assoc true b c = refl
or_assoc false b c = refl

or_false : (a : Bool) → a ≡ a || false
or_false true = refl
or_false false = refl

mutual
  code_captures : (tail : Bool) (c : Code Pos) (t : Tally) → (met_code tail c t).captures ≡ t.captures || captures_in c
  code_captures tail (Ends value) t = or_false t.captures
  code_captures tail (Then pos vars act rest) t =
      let last = in_tail tail rest vars in
      let arms = arms_captures last act (met_step last vars act t) in
      let past = code_captures tail rest (met_arms last act (met_step last vars act t)) in
      past
      ∙ (ap (λ b. b || captures_in rest) arms
      ∙ (or_assoc (t.captures || is_callcc act) (arms_capture act) (captures_in rest)
      ∙ or_assoc t.captures (is_callcc act) (arms_capture act || captures_in rest)))

  arms_captures : (tail : Bool) (act : Act Pos) (t : Tally) → (met_arms tail act t).captures ≡ t.captures || arms_capture act
  arms_captures tail (If test this that) t =
      code_captures tail that (met_code tail this t)
      ∙ (ap (λ b. b || captures_in that) (code_captures tail this t)
      ∙ or_assoc t.captures (captures_in this) (captures_in that))
  arms_captures tail act t = or_false t.captures

all_captures : (ps : List Written) (t : Tally) → (met_all ps t).captures ≡ t.captures || captures_any ps
all_captures [] t = or_false t.captures
all_captures (p ∷ ps) t =
    all_captures ps (met_proc p t)
    ∙ (ap (λ b. b || captures_any ps) (code_captures true p.body _)
    ∙ or_assoc t.captures (captures_in p.body) (captures_any ps))

-- The plan of what is met is the plain one.

abbrev planned_by : (captures : Bool) (recording : List ℕ) (sites vars blocks steps others : ℕ)
    → (kept : List (List ℕ)) → (procs : ℕ) → Plan
planned_by captures recording sites vars blocks steps others kept procs =
    record {
      capturing = capturing captures procs recording;
      slots = record { kept = kept; fictitious = []; global = []; compared = numbers_from 1 others };
      marks = replicate sites Global;
      reprs = record { vars = replicate vars Tagged; blocks = replicate blocks true; steps = replicate steps used };
    }

by_parts : (captures captures' : Bool) (recording recording' : List ℕ) (sites sites' vars vars' blocks blocks' steps steps' others others' : ℕ)
    (kept : List (List ℕ)) (procs : ℕ)
    → captures ≡ captures' → recording ≡ recording' → sites ≡ sites' → vars ≡ vars' → blocks ≡ blocks' → steps ≡ steps'
    → others ≡ others'
    → planned_by captures recording sites vars blocks steps others kept procs
    ≡ planned_by captures' recording' sites' vars' blocks' steps' others' kept procs
by_parts c c' r r' s s' v v' b b' n n' o o' kept procs hc hr hs hv hb hn ho =
    ap (λ c. planned_by c r s v b n o kept procs) hc
    ∙ (ap (λ r. planned_by c' r s v b n o kept procs) hr
    ∙ (ap (λ s. planned_by c' r' s v b n o kept procs) hs
    ∙ (ap (λ v. planned_by c' r' s' v b n o kept procs) hv
    ∙ (ap (λ b. planned_by c' r' s' v' b n o kept procs) hb
    ∙ (ap (λ n. planned_by c' r' s' v' b' n o kept procs) hn
    ∙ ap (λ o. planned_by c' r' s' v' b' n' o kept procs) ho)))))

pub planned_is : (f : Form)
    → planned (met_all f.procs (started (length f.procs - 1))) (all_free f.procs) (length f.procs) ≡ plain f
planned_is f =
    by_parts _ _ _ _ _ _ _ _ _ _ _ _ _ _ (all_free f.procs) (length f.procs)
    (all_captures f.procs (started (length f.procs - 1)))
    (counted_calls f (length f.procs - 1)) (counted_sites f.procs) (all_vars f.procs (started (length f.procs - 1)) ∙ zero_more (var_count f.procs))
    (counted_blocks f.procs) (counted f.procs) (length_others f.procs)
  where
    zero_more : (n : ℕ) → 0 + n ≡ n
    zero_more n = omega arith
