-- Each rule of a program names rows and atoms that are there, where each of its steps has its rows and its atom.
use Rattle.std.proofs.Common.{◌≡◌, ℕ, ◌+◌, ◌<◌, ◌≤◌, false, List, [], ◌∷◌, ◌++◌, length, map, Option, Some, refl, sym, subst, arith}
use Rattle.std.proofs.lemmas.Option.{slice_get_within}
use Rattle.std.specs.List.{AllByRecursion}
use Rattle.std.specs.Prelude.{slice_get}
use Rattle.scheme_base.specs.declared.op.Op.{Op}
use Rattle.scheme_base.specs.declared.op.Op.TheVariants as op
use Rattle.scheme_base.specs.declared.pos.Pos.{Pos}
use Rattle.flow_form.specs.declared.rule.Test.TheVariants.{Has, Other}
use Rattle.named_form.specs.Code as named
use Rattle.named_form.specs.Code.{Code, Ends, Then, Act, Const, Copy, Prim, Call, Apply, CallCC, If, Closure, Fix, MakeBox, MakeHole, Unbox, SetBox, TopGet, TopSet, TopDefine, Written, past, past_arms, past_code, single}
use Rattle.named_form.specs.Valid.{AnyValue, Binds, Form, GivesNoBox, NamesIn, ReadsBoxes, Throughout, ThroughoutArms, all_boxes, boxes_in, boxes_in_arms, makes_box}
use Rattle.flow_constraints.specs.declared.flow.Flow.{Flow}
use Rattle.flow_constraints.specs.declared.flow.Kind.{Kind}
use Rattle.flow_constraints.specs.declared.flow.Kind.TheVariants as kind
use Rattle.flow_constraints.specs.declared.steps.Spot.{Spot}
use Rattle.flow_constraints.specs.Layout.{made_kinds, own_rows, prim_kinds}
use Rattle.flow_constraints.specs.Listed.{reached_block}
use Rattle.flow_constraints.specs.Rows.{row, Reach, Result, Var, Spine, Items, Given, contents_row, number_at}
use Rattle.flow_constraints.specs.Table.{also, apply_rules, choice_rules, closure_atom, operation_of, ending, own_rules, set_rules, site_of, spine_rules, spot_of, value_rules}
use Rattle.flow_constraints.specs.Walk.{inside, put_arms, put_code, put_lambda, put_lambdas, put_procs}
use Rattle.flow_constraints.proofs.EachOf.{of_any_mapped, of_both, of_each, of_had}
use Rattle.flow_constraints.proofs.RulesNamed.{AllNames, FlowFits, Guards, IsAtom, IsRow, MakesFit, Named, SiteFits, also_names, always_names, apply_named, block_row, call_named, const_named, fix_named, gives_atom, gives_row, low_atom, prim_named, spine_named, value_named, var_row}

-- A step's variable has its row behind the first, and those of the step behind its own; what the step makes is of
-- this atom.
pub record StepFits (f : Flow) (atom : ℕ) (vars : List ℕ) (act : Act Pos) : Type 0 where
  pub rows : (x : ℕ) → vars ≡ x ∷ [] → (1 ≤ number_at f.vars x) × IsRow f (number_at f.vars x + own_rows act)
  pub from : ℕ
  pub makes : (k : Kind) → made_kinds act (single vars) from ≡ k ∷ [] → slice_get f.kinds atom ≡ Some k

abbrev mutual
  pub CodeFits : Flow → named.Counts → Code Pos → Type 0
  CodeFits f at (Ends value) = Unit {0}
  CodeFits f at (Then pos vars act rest) =
      StepFits f (10 + at.sites) vars act × ArmsFit f (past at act) act × CodeFits f (past_arms (past at act) act) rest

  pub ArmsFit : Flow → named.Counts → Act Pos → Type 0
  ArmsFit f at (If test this that) = CodeFits f at this × CodeFits f (past_code at this) that
  ArmsFit f at act = Unit {0}

-- the row of a procedure's results is there, and its steps fit
abbrev pub LambdasFit : Flow → named.Counts → List Written → Type 0
LambdasFit f at [] = Unit {0}
LambdasFit f at (p ∷ ps) =
    IsRow f (number_at f.blocks at.blocks + 1) × CodeFits f (inside at) p.body
    × LambdasFit f (past_code (inside at) p.body) ps

abbrev pub started : (sites : ℕ) → named.Counts
started n = record { steps = 0; sites = n; blocks = 0 }

abbrev pub ProcsFit : Flow → (sites : ℕ) → List Written → Type 0
ProcsFit f n [] = Unit {0}
ProcsFit f n (p ∷ ps) =
    CodeFits f (inside (started n)) p.body × LambdasFit f (past_code (inside (started n)) p.body) ps

-- the rows behind those of a program's boxes are there, its top-level variables and its closures
pub record Fits (g : Form) (f : Flow) : Type 0 where
  pub flow : FlowFits f g.lits
  pub closures : 9 + length g.procs ≤ length f.kinds
  pub tops : g.tops ≤ f.rows
  pub boxes : AllByRecursion (λ x. IsRow f (number_at f.vars x + 1)) (all_boxes g.procs)

one_var : (vars : List ℕ) → length vars ≡ 1 → vars ≡ single vars ∷ []
one_var [] h = absurd (omega (arith, h))
one_var (x ∷ []) h = refl
one_var (x ∷ y ∷ ys) h = absurd (omega (arith, h))

reached_names : (f : Flow) (g : Form) → FlowFits f g.lits → (b : ℕ) → Guards f (reached_block f b)
reached_names f g h b = record { first = (block_row f g.lits h b, low_atom_0); second = tt }
  where
    low_atom_0 : IsAtom f 0
    low_atom_0 = let many = h.fixed in omega (arith, many)

makes_fit : (f : Flow) (g : Form) → FlowFits f g.lits → (o : Op) (a r : ℕ)
    → ((k : Kind) → prim_kinds o r ≡ k ∷ [] → slice_get f.kinds a ≡ Some k) → MakesFit f o a
makes_fit f g h op.Cons a r makes =
    let there = makes (kind.Pair r false) refl in
    record {
      atom = slice_get_within f.kinds a (kind.Pair r false) there;
      parts = subst (λ o. IsRow f (contents_row o + 1)) (sym there) (h.pair a r false there);
    }
makes_fit f g h op.MakeVector a r makes = slice_get_within f.kinds a (kind.Vector r false) (makes (kind.Vector r false) refl)
makes_fit f g h op.MakeSymbol a r makes = slice_get_within f.kinds a (kind.Symbol r) (makes (kind.Symbol r) refl)
makes_fit f g h op.MakeString a r makes = slice_get_within f.kinds a (kind.Text false) (makes (kind.Text false) refl)
makes_fit f g h o a r makes = tt

-- a row that stands behind that of a step's variable
behind : (f : Flow) (atom n : ℕ) (vars : List ℕ) (act : Act Pos) → StepFits f atom vars act → length vars ≡ 1
    → n ≤ own_rows act → IsRow f (number_at f.vars (single vars) + n)
behind f atom n vars act h one few =
    let there = (h.rows (single vars) (one_var vars one)).1 in
    omega (arith, there, few)

second_row : (f : Flow) (atom : ℕ) (vars : List ℕ) (act : Act Pos) → StepFits f atom vars act → length vars ≡ 1
    → IsRow f 1
second_row f atom vars act h one =
    let there = h.rows (single vars) (one_var vars one) in
    let first = there.0 in
    let more = there.1 in
    omega (arith, first, more)

set_named : (f : Flow) (g : Form) → FlowFits f g.lits → (s : Spot) (y to : ℕ) → Guards f s.guard → IsRow f s.row
    → IsRow f to → AllNames f (set_rules f s y to)
set_named f g h s y to guard value there = (
  gives_row f s.guard _ to guard (var_row f g.lits h y) there,
  (gives_atom f s.guard 6 s.row guard (low_atom f g.lits h 6 (omega arith)) value, tt),
)

choice_named : (f : Flow) (g : Form) → FlowFits f g.lits → (s : Spot) (v : ℕ) (this that : Option ℕ) → Guards f s.guard
    → IsRow f s.row → AllNames f (choice_rules f s v this that)
choice_named f g h s v this that guard value =
    let lits = g.lits in
    let nought = low_atom f lits h 0 (omega arith) in
    let three = low_atom f lits h 3 (omega arith) in
    let test = var_row f lits h v in
    let first = also (Has (row f (Reach s.arm)) 0) s.guard in
    let second = also (Has (row f (Reach (s.arm + 1))) 0) s.guard in (
      gives_atom f _ 0 _ (also_names f (Other (row f (Var v)) 3) s.guard (test, three) guard) nought (block_row f lits h s.arm),
      (
        gives_atom f _ 0 _ (also_names f (Has (row f (Var v)) 3) s.guard (test, three) guard) nought
            (block_row f lits h (s.arm + 1)),
        of_both (Named f) (value_rules f first this s.row) (value_rules f second that s.row)
            (value_named f lits h first this s.row
            (also_names f (Has (row f (Reach s.arm)) 0) s.guard (block_row f lits h s.arm, nought) guard) value)
            (value_named f lits h second that s.row
            (also_names f (Has (row f (Reach (s.arm + 1))) 0) s.guard (block_row f lits h (s.arm + 1), nought) guard) value),
      ),
    )

-- The rules of a step

closure_there : (f : Flow) (g : Form) → Fits g f → (q : ℕ) → q < length g.procs → IsAtom f (closure_atom q)
closure_there f g h q less = let many = h.closures in omega (arith, many, less)

top_there : (f : Flow) (g : Form) → Fits g f → (top : ℕ) → top < g.tops → IsRow f top
top_there f g h top less = let many = h.tops in omega (arith, many, less)

site_fits : (f : Flow) (g : Form) → FlowFits f g.lits → (b site arm : ℕ) (vars : List ℕ) (operator : ℕ)
    → SiteFits f (site_of f (spot_of f (reached_block f b) site arm vars) operator)
site_fits f g h b site arm vars operator =
    record {
      guard = reached_names f g h b;
      operator = var_row f g.lits h operator;
      value = var_row f g.lits h (single vars);
    }

own_named : (f : Flow) (g : Form) → Fits g f → (b site arm : ℕ) (pos : Pos) (vars : List ℕ) (act : Act Pos)
    → StepFits f (10 + site) vars act → NamesIn g pos vars act → Binds pos vars act
    → ReadsBoxes (all_boxes g.procs) pos vars act
    → AllNames f (own_rules f g.lits (spot_of f (reached_block f b) site arm vars) vars act)
own_named f g h b site arm pos vars (Const l) fits names one boxes =
    const_named f g.lits h.flow _ _ l (reached_names f g h.flow b) (var_row f g.lits h.flow (single vars))
    (second_row f _ vars _ fits one)
own_named f g h b site arm pos vars (Copy y) fits names one boxes = (
  gives_row f _ _ _ (reached_names f g h.flow b) (var_row f g.lits h.flow y) (var_row f g.lits h.flow (single vars)),
  tt,
)
own_named f g h b site arm pos vars (Prim o ys) fits names one boxes =
    prim_named f g.lits h.flow (operation_of (spot_of f (reached_block f b) site arm vars)) o ys (reached_names f g h.flow b)
    (var_row f g.lits h.flow (single vars)) (makes_fit f g h.flow o (10 + site) fits.from fits.makes)
own_named f g h b site arm pos vars (Call operator ys) fits names one boxes =
    call_named f g.lits h.flow _ (map (number_at f.vars) ys) (site_fits f g h.flow b site arm vars operator)
    (of_any_mapped (IsRow f) (number_at f.vars) (λ y. var_row f g.lits h.flow y) ys)
own_named f g h b site arm pos vars (Apply operator y) fits names one boxes =
    let s = spot_of f (reached_block f b) site arm vars in
    let guard = reached_names f g h.flow b in
    let spine : IsRow f (row f (Spine s.var)) = behind f _ 1 vars _ fits one (omega arith) in
    let items : IsRow f (row f (Items s.var)) = behind f _ 2 vars _ fits one (omega arith) in (
      gives_row f s.guard _ _ guard (var_row f g.lits h.flow y) spine,
      of_both (Named f) (spine_rules f s.guard (row f (Spine s.var)) (row f (Items s.var)))
          (apply_rules f (site_of f s operator) (row f (Items s.var)))
          (spine_named f g.lits h.flow s.guard _ _ guard spine items)
          (apply_named f g.lits h.flow _ _ (site_fits f g h.flow b site arm vars operator) items),
    )
own_named f g h b site arm pos vars (CallCC operator) fits names one boxes =
    let s = spot_of f (reached_block f b) site arm vars in
    let given : IsRow f (row f (Given s.var)) = behind f _ 1 vars _ fits one (omega arith) in (
      gives_atom f s.guard s.made _ (reached_names f g h.flow b)
          (slice_get_within f.kinds (10 + site) (kind.Continuation (single vars)) (fits.makes (kind.Continuation (single vars)) refl))
          given,
      call_named f g.lits h.flow _ (row f (Given s.var) ∷ []) (site_fits f g h.flow b site arm vars operator) (given, tt),
    )
own_named f g h b site arm pos vars (If v this that) fits names one boxes =
    choice_named f g h.flow (spot_of f (reached_block f b) site arm vars) v (ending this) (ending that)
    (reached_names f g h.flow b) (var_row f g.lits h.flow (single vars))
own_named f g h b site arm pos vars (Closure q) fits names one boxes = (
  gives_atom f _ (closure_atom q) _ (reached_names f g h.flow b) (closure_there f g h q names)
      (var_row f g.lits h.flow (single vars)),
  tt,
)
own_named f g h b site arm pos vars (Fix qs) fits names one boxes =
    fix_named f g.lits h.flow _ vars qs (reached_names f g h.flow b)
    (of_each (λ q. q < length g.procs) (λ q. IsAtom f (closure_atom q)) (closure_there f g h) qs names)
own_named f g h b site arm pos vars (MakeBox y) fits names one boxes = (
  gives_atom f _ (10 + site) _ (reached_names f g h.flow b)
      (slice_get_within f.kinds (10 + site) (kind.Boxed (single vars)) (fits.makes (kind.Boxed (single vars)) refl))
      (var_row f g.lits h.flow (single vars)),
  (gives_row f _ _ _ (reached_names f g h.flow b) (var_row f g.lits h.flow y) (behind f _ 1 vars _ fits one (omega arith)), tt),
)
own_named f g h b site arm pos vars MakeHole fits names one boxes = (
  gives_atom f _ (10 + site) _ (reached_names f g h.flow b)
      (slice_get_within f.kinds (10 + site) (kind.Boxed (single vars)) (fits.makes (kind.Boxed (single vars)) refl))
      (var_row f g.lits h.flow (single vars)),
  tt,
)
own_named f g h b site arm pos vars (Unbox boxed checked) fits names one boxes = (
  gives_row f _ _ _ (reached_names f g h.flow b)
      (of_had (λ x. IsRow f (number_at f.vars x + 1)) (all_boxes g.procs) boxed h.boxes boxes)
      (var_row f g.lits h.flow (single vars)),
  tt,
)
own_named f g h b site arm pos vars (SetBox boxed y) fits names one boxes =
    set_named f g h.flow (spot_of f (reached_block f b) site arm vars) y _ (reached_names f g h.flow b)
    (var_row f g.lits h.flow (single vars))
    (of_had (λ x. IsRow f (number_at f.vars x + 1)) (all_boxes g.procs) boxed h.boxes boxes.0)
own_named f g h b site arm pos vars (TopGet top checked) fits names one boxes = (
  gives_row f _ _ _ (reached_names f g h.flow b) (top_there f g h top names) (var_row f g.lits h.flow (single vars)),
  tt,
)
own_named f g h b site arm pos vars (TopSet top y checked) fits names one boxes =
    set_named f g h.flow (spot_of f (reached_block f b) site arm vars) y _ (reached_names f g h.flow b)
    (var_row f g.lits h.flow (single vars)) (top_there f g h top names)
own_named f g h b site arm pos vars (TopDefine top y) fits names one boxes =
    set_named f g h.flow (spot_of f (reached_block f b) site arm vars) y _ (reached_names f g h.flow b)
    (var_row f g.lits h.flow (single vars)) (top_there f g h top names)

-- The rules of blocks and procedures

mutual
  code_named : (f : Flow) (g : Form) → Fits g f → (at : named.Counts) (b : ℕ) (c : Code Pos) → CodeFits f at c
      → Throughout (NamesIn g) AnyValue c → Throughout Binds AnyValue c
      → Throughout (ReadsBoxes (all_boxes g.procs)) (GivesNoBox (all_boxes g.procs)) c
      → AllNames f (put_code f g.lits at b c)
  code_named f g h at b (Ends value) fits names binds boxes = tt
  code_named f g h at b (Then pos vars act rest) fits names binds boxes =
      let others = put_code f g.lits (past_arms (past at act) act) b rest in
      of_both (Named f) (own_rules f g.lits (spot_of f (reached_block f b) at.sites at.blocks vars) vars act)
      (put_arms f g.lits (past at act) at.blocks act ++ others)
      (own_named f g h b at.sites at.blocks pos vars act fits.0 names.0 binds.0 boxes.0)
      (of_both (Named f) (put_arms f g.lits (past at act) at.blocks act) others
      (arms_named f g h (past at act) at.blocks act fits.1 names.1 binds.1 boxes.1)
      (code_named f g h (past_arms (past at act) act) b rest fits.2 names.2 binds.2 boxes.2))

  arms_named : (f : Flow) (g : Form) → Fits g f → (at : named.Counts) (arm : ℕ) (act : Act Pos) → ArmsFit f at act
      → ThroughoutArms (NamesIn g) AnyValue act → ThroughoutArms Binds AnyValue act
      → ThroughoutArms (ReadsBoxes (all_boxes g.procs)) (GivesNoBox (all_boxes g.procs)) act
      → AllNames f (put_arms f g.lits at arm act)
  arms_named f g h at arm (If v this that) fits names binds boxes =
      of_both (Named f) (put_code f g.lits at arm this) (put_code f g.lits (past_code at this) (arm + 1) that)
      (code_named f g h at arm this fits.0 names.0 binds.0 boxes.0)
      (code_named f g h (past_code at this) (arm + 1) that fits.1 names.1 binds.1 boxes.1)
  arms_named f g h at arm act fits names binds boxes = tt

lambdas_named : (f : Flow) (g : Form) → Fits g f → (at : named.Counts) (ps : List Written) → LambdasFit f at ps
    → AllByRecursion (λ p. Throughout (NamesIn g) AnyValue p.body) ps
    → AllByRecursion (λ p. Throughout Binds AnyValue p.body) ps
    → AllByRecursion (λ p. Throughout (ReadsBoxes (all_boxes g.procs)) (GivesNoBox (all_boxes g.procs)) p.body) ps
    → AllNames f (put_lambdas f g.lits at ps)
lambdas_named f g h at [] fits names binds boxes = tt
lambdas_named f g h at (p ∷ ps) fits names binds boxes =
    let body = put_code f g.lits (inside at) at.blocks p.body in
    let result = value_rules f (reached_block f at.blocks) (ending p.body) (row f (Result at.blocks)) in
    of_both (Named f) (put_lambda f g.lits at p) (put_lambdas f g.lits (past_code (inside at) p.body) ps)
    (of_both (Named f) body result
    (code_named f g h (inside at) at.blocks p.body fits.1 names.0 binds.0 boxes.0)
    (value_named f g.lits h.flow (reached_block f at.blocks) (ending p.body) _ (reached_names f g h.flow at.blocks) fits.0))
    (lambdas_named f g h (past_code (inside at) p.body) ps fits.2 names.1 binds.1 boxes.1)

pub procs_named : (f : Flow) (g : Form) → Fits g f → (n : ℕ) (ps : List Written) → ProcsFit f n ps
    → AllByRecursion (λ p. Throughout (NamesIn g) AnyValue p.body) ps
    → AllByRecursion (λ p. Throughout Binds AnyValue p.body) ps
    → AllByRecursion (λ p. Throughout (ReadsBoxes (all_boxes g.procs)) (GivesNoBox (all_boxes g.procs)) p.body) ps
    → AllNames f (put_procs f g.lits n ps)
procs_named f g h n [] fits names binds boxes = tt
procs_named f g h n (p ∷ ps) fits names binds boxes =
    let at = started n in
    let body = put_code f g.lits (inside at) 0 p.body in (
      gives_atom f _ 0 _ (always_names f) (low_atom f g.lits h.flow 0 (omega arith)) (block_row f g.lits h.flow 0),
      of_both (Named f) body (put_lambdas f g.lits (past_code (inside at) p.body) ps)
          (code_named f g h (inside at) 0 p.body fits.0 names.0 binds.0 boxes.0)
          (lambdas_named f g h (past_code (inside at) p.body) ps fits.1 names.1 binds.1 boxes.1),
    )

-- The rows behind those of boxes

own_boxes : (f : Flow) (atom : ℕ) (pos : Pos) (vars : List ℕ) (act : Act Pos) → StepFits f atom vars act
    → Binds pos vars act → AllByRecursion (λ x. IsRow f (number_at f.vars x + 1)) (makes_box act vars)
own_boxes f atom pos [] (MakeBox y) fits one = tt
own_boxes f atom pos (x ∷ []) (MakeBox y) fits one = ((fits.rows x refl).1, tt)
own_boxes f atom pos (x ∷ y ∷ ys) (MakeBox z) fits one = absurd (omega (arith, one))
own_boxes f atom pos [] MakeHole fits one = tt
own_boxes f atom pos (x ∷ []) MakeHole fits one = ((fits.rows x refl).1, tt)
own_boxes f atom pos (x ∷ y ∷ ys) MakeHole fits one = absurd (omega (arith, one))
own_boxes f atom pos vars act fits one = tt

mutual
  code_boxes : (f : Flow) (at : named.Counts) (c : Code Pos) → CodeFits f at c → Throughout Binds AnyValue c
      → AllByRecursion (λ x. IsRow f (number_at f.vars x + 1)) (boxes_in c)
  code_boxes f at (Ends value) fits binds = tt
  code_boxes f at (Then pos vars act rest) fits binds =
      of_both (λ x. IsRow f (number_at f.vars x + 1)) (makes_box act vars) (boxes_in_arms act ++ boxes_in rest)
      (own_boxes f (10 + at.sites) pos vars act fits.0 binds.0)
      (of_both (λ x. IsRow f (number_at f.vars x + 1)) (boxes_in_arms act) (boxes_in rest)
      (arms_boxes f (past at act) act fits.1 binds.1)
      (code_boxes f (past_arms (past at act) act) rest fits.2 binds.2))

  arms_boxes : (f : Flow) (at : named.Counts) (act : Act Pos) → ArmsFit f at act → ThroughoutArms Binds AnyValue act
      → AllByRecursion (λ x. IsRow f (number_at f.vars x + 1)) (boxes_in_arms act)
  arms_boxes f at (If v this that) fits binds =
      of_both (λ x. IsRow f (number_at f.vars x + 1)) (boxes_in this) (boxes_in that)
      (code_boxes f at this fits.0 binds.0) (code_boxes f (past_code at this) that fits.1 binds.1)
  arms_boxes f at act fits binds = tt

lambdas_boxes : (f : Flow) (at : named.Counts) (ps : List Written) → LambdasFit f at ps
    → AllByRecursion (λ p. Throughout Binds AnyValue p.body) ps
    → AllByRecursion (λ x. IsRow f (number_at f.vars x + 1)) (all_boxes ps)
lambdas_boxes f at [] fits binds = tt
lambdas_boxes f at (p ∷ ps) fits binds =
    of_both (λ x. IsRow f (number_at f.vars x + 1)) (boxes_in p.body) (all_boxes ps)
    (code_boxes f (inside at) p.body fits.1 binds.0)
    (lambdas_boxes f (past_code (inside at) p.body) ps fits.2 binds.1)

pub procs_boxes : (f : Flow) (n : ℕ) (ps : List Written) → ProcsFit f n ps
    → AllByRecursion (λ p. Throughout Binds AnyValue p.body) ps
    → AllByRecursion (λ x. IsRow f (number_at f.vars x + 1)) (all_boxes ps)
procs_boxes f n [] fits binds = tt
procs_boxes f n (p ∷ ps) fits binds =
    of_both (λ x. IsRow f (number_at f.vars x + 1)) (boxes_in p.body) (all_boxes ps)
    (code_boxes f (inside (started n)) p.body fits.0 binds.0)
    (lambdas_boxes f (past_code (inside (started n)) p.body) ps fits.1 binds.1)
