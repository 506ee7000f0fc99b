-- Labelling changes what stands beside steps and nothing else: what is bound, read and made in a block, and all
-- that is asked of the steps of a well-formed program.
use Rattle.std.proofs.Common.{◌≡◌, ℕ, zero, suc, ◌+◌, ◌<◌, Bool, true, List, [], ◌∷◌, ◌++◌, length, Option, Some, refl, sym, subst, arith}
use Rattle.std.specs.Prelude.{slice_get}
use Rattle.std.specs.List.{AllByRecursion, flat_map}
use Rattle.scheme_base.specs.declared.lit.Lit.{Lit}
use Rattle.scheme_base.specs.declared.pos.Pos.{Pos}
use Rattle.named_form.specs.Code.{Code, Ends, Then, Act, Prim, If, Counts, Label, Written, Lambda, past, past_code, past_arms, in_tail, labelled, labelled_act, procedures, program, binds, arms_bind, reads, reads_in, arms_read, closes, closes_in, arms_close, option_list, bound_in, free_in}
use Rattle.named_form.specs.Valid.{OfSteps, OfValues, AnyValue, Throughout, ThroughoutArms, NamesIn, Binds, Takes, StandsAt, RunsAt, Placed, IsThere, NoDefinition, IsProgram, InScope, ArmsInScope, BoundBefore, scope_with, Form, makes_box, boxes_in, boxes_in_arms, all_boxes, constant, constants_in, constants_in_arms, ReadsBoxes, GivesNoBox, WellFormed, RunsWell, Valued, LaterOnes, Bodies}

-- What a step reads, closes and makes

reads_labelled : (at : Counts) (t : Bool) (act : Act Pos) → reads (labelled_act at t act) ≡ reads act
reads_labelled at t (If test this that) = refl
reads_labelled at t act = refl

closes_labelled : (at : Counts) (t : Bool) (act : Act Pos) → closes (labelled_act at t act) ≡ closes act
closes_labelled at t (If test this that) = refl
closes_labelled at t act = refl

scope_labelled : (at : Counts) (t : Bool) (act : Act Pos) (vars xs : List ℕ)
    → scope_with (labelled_act at t act) vars xs ≡ scope_with act vars xs
scope_labelled at t (If test this that) vars xs = refl
scope_labelled at t act vars xs = refl

box_labelled : (at : Counts) (t : Bool) (act : Act Pos) (vars : List ℕ)
    → makes_box (labelled_act at t act) vars ≡ makes_box act vars
box_labelled at t (If test this that) vars = refl
box_labelled at t act vars = refl

constant_labelled : (at : Counts) (t : Bool) (act : Act Pos) → constant (labelled_act at t act) ≡ constant act
constant_labelled at t (If test this that) = refl
constant_labelled at t act = refl

-- What a block binds, reads, closes and makes

three : (a a' b b' c c' : List ℕ) → a ≡ a' → b ≡ b' → c ≡ c' → a ++ (b ++ c) ≡ a' ++ (b' ++ c')
three a a' b b' c c' p q r = cc

two : (a a' b b' : List ℕ) → a ≡ a' → b ≡ b' → a ++ b ≡ a' ++ b'
two a a' b b' p q = cc

mutual
  pub binds_in : (at : Counts) (t : Bool) (c : Code Pos) → binds (labelled at t c) ≡ binds c
  binds_in at t (Ends value) = refl
  binds_in at t (Then pos vars act rest) =
      three vars vars _ _ _ _ refl (arms_bound (past at act) (in_tail t rest vars) act)
      (binds_in (past_arms (past at act) act) t rest)

  arms_bound : (at : Counts) (t : Bool) (act : Act Pos) → arms_bind (labelled_act at t act) ≡ arms_bind act
  arms_bound at t (If test this that) = two _ _ _ _ (binds_in at t this) (binds_in (past_code at this) t that)
  arms_bound at t act = refl

mutual
  pub reads_within : (at : Counts) (t : Bool) (c : Code Pos) → reads_in (labelled at t c) ≡ reads_in c
  reads_within at t (Ends value) = refl
  reads_within at t (Then pos vars act rest) =
      three _ _ _ _ _ _ (reads_labelled (past at act) (in_tail t rest vars) act)
      (arms_reading (past at act) (in_tail t rest vars) act)
      (reads_within (past_arms (past at act) act) t rest)

  arms_reading : (at : Counts) (t : Bool) (act : Act Pos) → arms_read (labelled_act at t act) ≡ arms_read act
  arms_reading at t (If test this that) =
      two _ _ _ _ (reads_within at t this) (reads_within (past_code at this) t that)
  arms_reading at t act = refl

mutual
  pub closes_within : (at : Counts) (t : Bool) (c : Code Pos) → closes_in (labelled at t c) ≡ closes_in c
  closes_within at t (Ends value) = refl
  closes_within at t (Then pos vars act rest) =
      three _ _ _ _ _ _ (closes_labelled (past at act) (in_tail t rest vars) act)
      (arms_closing (past at act) (in_tail t rest vars) act)
      (closes_within (past_arms (past at act) act) t rest)

  arms_closing : (at : Counts) (t : Bool) (act : Act Pos) → arms_close (labelled_act at t act) ≡ arms_close act
  arms_closing at t (If test this that) =
      two _ _ _ _ (closes_within at t this) (closes_within (past_code at this) t that)
  arms_closing at t act = refl

mutual
  pub boxes_within : (at : Counts) (t : Bool) (c : Code Pos) → boxes_in (labelled at t c) ≡ boxes_in c
  boxes_within at t (Ends value) = refl
  boxes_within at t (Then pos vars act rest) =
      three _ _ _ _ _ _ (box_labelled (past at act) (in_tail t rest vars) act vars)
      (arms_boxing (past at act) (in_tail t rest vars) act)
      (boxes_within (past_arms (past at act) act) t rest)

  arms_boxing : (at : Counts) (t : Bool) (act : Act Pos)
      → boxes_in_arms (labelled_act at t act) ≡ boxes_in_arms act
  arms_boxing at t (If test this that) =
      two _ _ _ _ (boxes_within at t this) (boxes_within (past_code at this) t that)
  arms_boxing at t act = refl

mutual
  pub constants_within : (at : Counts) (t : Bool) (c : Code Pos) → constants_in (labelled at t c) ≡ constants_in c
  constants_within at t (Ends value) = refl
  constants_within at t (Then pos vars act rest) =
      three _ _ _ _ _ _ (constant_labelled (past at act) (in_tail t rest vars) act)
      (arms_naming (past at act) (in_tail t rest vars) act)
      (constants_within (past_arms (past at act) act) t rest)

  arms_naming : (at : Counts) (t : Bool) (act : Act Pos)
      → constants_in_arms (labelled_act at t act) ≡ constants_in_arms act
  arms_naming at t (If test this that) =
      two _ _ _ _ (constants_within at t this) (constants_within (past_code at this) t that)
  arms_naming at t act = refl

-- What is asked of each step: it is kept where labelling keeps it of one step.

abbrev pub Lasts : OfSteps Pos → OfSteps Label → Type 0
Lasts P R =
    (l : Label) (at : Counts) (t : Bool) (vars : List ℕ) (act : Act Pos)
    → P l.place vars act → R l vars (labelled_act at t act)

mutual
  pub throughout : (P : OfSteps Pos) (R : OfSteps Label) (Q : OfValues) → Lasts P R
      → (at : Counts) (t : Bool) (c : Code Pos) → Throughout P Q c → Throughout R Q (labelled at t c)
  throughout P R Q k at t (Ends value) h = h
  throughout P R Q k at t (Then pos vars act rest) h = (
    k _ (past at act) (in_tail t rest vars) vars act h.0,
    throughout_arms P R Q k (past at act) (in_tail t rest vars) act h.1,
    throughout P R Q k (past_arms (past at act) act) t rest h.2,
  )

  pub throughout_arms : (P : OfSteps Pos) (R : OfSteps Label) (Q : OfValues) → Lasts P R
      → (at : Counts) (t : Bool) (act : Act Pos) → ThroughoutArms P Q act → ThroughoutArms R Q (labelled_act at t act)
  throughout_arms P R Q k at t (If test this that) h =
      (throughout P R Q k at t this h.0, throughout P R Q k (past_code at this) t that h.1)
  throughout_arms P R Q k at t act h = tt

names_last : (f : Form) → Lasts (NamesIn f) (NamesIn f)
names_last f l at t vars (If test this that) h = h
names_last f l at t vars act h = h

binds_last : Lasts Binds Binds
binds_last l at t vars (If test this that) h = h
binds_last l at t vars act h = h

takes_last : Lasts Takes Takes
takes_last l at t vars (Prim o ys) h = h
takes_last l at t vars (If test this that) h = h
takes_last l at t vars act h = tt

places_last : Lasts StandsAt RunsAt
places_last l at t vars act h = h

definitions_last : Lasts NoDefinition NoDefinition
definitions_last l at t vars (If test this that) h = h
definitions_last l at t vars act h = h

boxes_last : (boxes : List ℕ) → Lasts (ReadsBoxes boxes) (ReadsBoxes boxes)
boxes_last boxes l at t vars (If test this that) h = h
boxes_last boxes l at t vars act h = h

is_program : (at : Counts) (t : Bool) (c : Code Pos) → IsProgram c → IsProgram (labelled at t c)
is_program at t (Ends value) h = h
is_program at t (Then pos vars act rest) h = (
  throughout_arms NoDefinition NoDefinition IsThere definitions_last (past at act) (in_tail t rest vars) act h.0,
  is_program (past_arms (past at act) act) t rest h.1,
)

mutual
  in_scope : (ps : List Written) (own : List ℕ) (at : Counts) (t : Bool) (xs : List ℕ) (c : Code Pos)
      → InScope ps own xs c → InScope ps own xs (labelled at t c)
  in_scope ps own at t xs (Ends value) h = h
  in_scope ps own at t xs (Then pos vars act rest) h =
      let inner = past at act in
      let tail = in_tail t rest vars in (
        subst (λ ys. BoundBefore own xs ys) (sym (reads_labelled inner tail act)) h.0,
        subst (λ ys. BoundBefore own ys (flat_map (free_in (length ps) ps) (closes (labelled_act inner tail act))))
            (sym (scope_labelled inner tail act vars xs))
            (subst (λ qs. BoundBefore own (scope_with act vars xs) (flat_map (free_in (length ps) ps) qs))
            (sym (closes_labelled inner tail act)) h.1),
        arms_in_scope ps own inner tail xs act h.2,
        in_scope ps own (past_arms inner act) t (vars ++ xs) rest h.3,
      )

  arms_in_scope : (ps : List Written) (own : List ℕ) (at : Counts) (t : Bool) (xs : List ℕ) (act : Act Pos)
      → ArmsInScope ps own xs act → ArmsInScope ps own xs (labelled_act at t act)
  arms_in_scope ps own at t xs (If test this that) h =
      (in_scope ps own at t xs this h.0, in_scope ps own (past_code at this) t xs that h.1)
  arms_in_scope ps own at t xs act h = tt

-- Procedures as they run

-- procedure q as it is written, and as it runs
pub record RunsAs (all : List Written) (q : ℕ) (p : Written) (r : Lambda) : Type 0 where
  pub at : Counts
  pub params : r.params ≡ p.params
  pub rest : r.rest ≡ p.rest
  pub body : r.body ≡ labelled at true p.body
  pub free : r.free ≡ free_in (length all) all q
  pub bound : r.bound ≡ bound_in p

-- the procedure that runs is one that is written
pub record Found (all ps : List Written) (q k : ℕ) (r : Lambda) : Type 0 where
  pub written : Written
  pub there : slice_get ps k ≡ Some written
  pub runs : RunsAs all (q + k) written r

found_next : (all : List Written) (p : Written) (ps : List Written) (q k : ℕ) (r : Lambda)
    → Found all ps (suc q) k r → Found all (p ∷ ps) q (suc k) r
found_next all p ps q k r h =
    let e : suc q + k ≡ q + suc k = omega arith in
    record { written = h.written; there = h.there; runs = subst (λ n. RunsAs all n h.written r) e h.runs }

found_in : (all : List Written) (q site : ℕ) (at : Counts) (ps : List Written) (k : ℕ) (r : Lambda)
    → slice_get (procedures all q site at ps) k ≡ Some r → Found all ps q k r
found_in all q site at [] k r h = cc
found_in all q site at (p ∷ ps) zero r h =
    let e : q + 0 ≡ q = omega arith in
    record {
      written = p;
      there = refl;
      runs =
          record {
            at = record { steps = at.steps; sites = at.sites; blocks = suc at.blocks };
            params = cc;
            rest = cc;
            body = cc;
            free = cc;
            bound = cc;
          };
    }
found_in all q site at (p ∷ ps) (suc k) r h =
    found_next all p ps q k r
    (found_in all (suc q) (site + length (option_list p.rest))
    (past_code (record { steps = at.steps; sites = at.sites; blocks = suc at.blocks }) p.body) ps k r h)

pub all_at : {X : Type 0} (P : X → Type 0) (xs : List X) (k : ℕ) (x : X)
    → AllByRecursion P xs → slice_get xs k ≡ Some x → P x
all_at P [] k x h e = cc
all_at P (y ∷ ys) zero x h e = let same : y ≡ x = cc in subst P same h.0
all_at P (y ∷ ys) (suc k) x h e = all_at P ys k x h.1 e

later_at : (n : ℕ) (ps : List Written) (k : ℕ) (p : Written)
    → LaterOnes n ps → slice_get ps k ≡ Some p → AllByRecursion (λ r. n + k < r) (closes_in p.body)
later_at n [] k p h e = cc
later_at n (q ∷ ps) zero p h e =
    let same : q ≡ p = cc in
    let here : n ≡ n + 0 = omega arith in
    subst (λ m. AllByRecursion (λ r. m < r) (closes_in p.body)) here
    (subst (λ (w : Written). AllByRecursion (λ r. n < r) (closes_in w.body)) same h.0)
later_at n (q ∷ ps) (suc k) p h e =
    let here : suc n + k ≡ n + suc k = omega arith in
    subst (λ m. AllByRecursion (λ r. m < r) (closes_in p.body)) here (later_at (suc n) ps k p h.1 e)

-- a procedure makes closures of later ones
pub makes_later : (ps : List Written) (q : ℕ) (p : Written)
    → LaterOnes 0 ps → slice_get ps q ≡ Some p → AllByRecursion (λ r. q < r) (closes_in p.body)
makes_later ps q p h e =
    let here : 0 + q ≡ q = omega arith in
    subst (λ m. AllByRecursion (λ r. m < r) (closes_in p.body)) here (later_at 0 ps q p h e)

valued : (ps : List Written) (q : ℕ) (p : Written) → Bodies ps → slice_get ps q ≡ Some p → Valued q p.body
valued [] q p h e = cc
valued (r ∷ ps) zero p h e = let same : r ≡ p = cc in subst (λ (w : Written). IsProgram w.body) same h.3
valued (r ∷ ps) (suc q) p h e =
    all_at (λ (w : Written). Throughout NoDefinition IsThere w.body) ps q p h.4 e

valued_labelled : (q : ℕ) (at : Counts) (t : Bool) (c : Code Pos) → Valued q c → Valued q (labelled at t c)
valued_labelled zero at t c h = is_program at t c h
valued_labelled (suc q) at t c h = throughout NoDefinition NoDefinition IsThere definitions_last at t c h

-- the procedure that runs under a number is the one that is written under it
pub found : (all : List Written) (lits : List Lit) (q : ℕ) (r : Lambda)
    → slice_get (program all lits).procs q ≡ Some r → (p : Written) × (slice_get all q ≡ Some p) × RunsAs all q p r
found all lits q r h =
    let here : 0 + q ≡ q = omega arith in
    let at = found_in all 0 _ _ all q r h in
    (at.written, at.there, subst (λ n. RunsAs all n at.written r) here at.runs)

scope_of : (ps : List Written) (own own' params params' : List ℕ) (rest rest' : Option ℕ) (body body' : Code Label)
    → own ≡ own' → params ≡ params' → rest ≡ rest' → body ≡ body'
    → InScope ps own' (params' ++ option_list rest') body' → InScope ps own (params ++ option_list rest) body
scope_of ps own own' params params' rest rest' body body' o p r b h = rw (o, p, r, b) h

-- a procedure with the body of one that is written, and what is asked of it
well_body : (f : Form) (q : ℕ) (p : Written) (at : Counts) → WellFormed f → slice_get f.procs q ≡ Some p
    → RunsWell f q
    (record {
      params = p.params;
      rest = p.rest;
      body = labelled at true p.body;
      block = 0;
      list_site = 0;
      free = free_in (length f.procs) f.procs q;
      bound = bound_in p;
    })
well_body f q p at w e =
    record {
      free = refl;
      names = throughout _ _ AnyValue (names_last f) at true p.body (all_at (λ (r : Written). Throughout (NamesIn f) AnyValue r.body) f.procs q p w.names e);
      binds = throughout _ _ AnyValue binds_last at true p.body (all_at (λ (r : Written). Throughout Binds AnyValue r.body) f.procs q p w.binds e);
      takes = throughout _ _ AnyValue takes_last at true p.body (all_at (λ (r : Written). Throughout Takes AnyValue r.body) f.procs q p w.takes e);
      placed = throughout _ _ AnyValue places_last at true p.body (all_at Placed f.procs q p w.placed e).1;
      values = valued_labelled q at true p.body (valued f.procs q p w.bodies e);
      later =
          subst (λ qs. AllByRecursion (λ r. q < r) qs) (sym (closes_within at true p.body))
          (makes_later f.procs q p w.made.later e);
      scoped =
          in_scope f.procs (bound_in p) at true (p.params ++ option_list p.rest) p.body
          (all_at (λ (r : Written). InScope f.procs (bound_in r) (r.params ++ option_list r.rest) r.body) f.procs q p w.scoped.inside e);
      boxes =
          throughout _ _ (GivesNoBox (all_boxes f.procs)) (boxes_last (all_boxes f.procs)) at true p.body
          (all_at (λ (r : Written). Throughout (ReadsBoxes (all_boxes f.procs)) (GivesNoBox (all_boxes f.procs)) r.body) f.procs q p w.boxes e);
    }

-- procedures of a well-formed program run well
pub runs_well : (f : Form) (q : ℕ) (r : Lambda) → WellFormed f → slice_get (program f.procs f.lits).procs q ≡ Some r
    → RunsWell f q r
runs_well f q r w e =
    let at = found f.procs f.lits q r e in
    let well = well_body f q at.0 at.2.at w at.1 in
    let here = at.2 in
    record {
      free = here.free;
      names = subst (λ c. Throughout (NamesIn f) AnyValue c) (sym here.body) well.names;
      binds = subst (λ c. Throughout Binds AnyValue c) (sym here.body) well.binds;
      takes = subst (λ c. Throughout Takes AnyValue c) (sym here.body) well.takes;
      placed = subst (λ c. Throughout RunsAt AnyValue c) (sym here.body) well.placed;
      values = subst (λ c. Valued q c) (sym here.body) well.values;
      later = subst (λ (c : Code Label). AllByRecursion (λ n. q < n) (closes_in c)) (sym here.body) well.later;
      scoped = scope_of f.procs _ _ _ _ _ _ _ _ here.bound here.params here.rest here.body well.scoped;
      boxes = subst (λ c. Throughout (ReadsBoxes (all_boxes f.procs)) (GivesNoBox (all_boxes f.procs)) c) (sym here.body) well.boxes;
    }
