-- The steps of a program, each with where it stands.
use Rattle.std.specs.Prelude.{ℕ, suc, ◌+◌, List, [], ◌∷◌, ◌++◌, Option, IsTrue, nat_lt}
use Rattle.std.specs.List.{list_all}
use Rattle.flow_constraints.specs.declared.flow.Flow.{Flow}
use Rattle.flow_constraints.specs.Layout.{flow_of}
use Rattle.flow_form.specs.declared.rows.Rows.{Rows}
use Rattle.named_form.specs.Code.{Act, Code, Ends, Then, If, Label, Lambda, Written, program, reads, single}
use Rattle.named_form.specs.Code as code
use Rattle.named_form.specs.Valid.{Form}
use Rattle.plan_facts.specs.declared.place.Action.{Action}
use Rattle.plan_facts.specs.declared.place.Action.TheVariants.{Prim, Call, Apply, CallCC, Make, SetBox, NewBox, Other}
use Rattle.plan_facts.specs.declared.place.Place.{Place}

-- what a step does
abbrev pub action_of : {L : Type 0} → Act L → Action
action_of (code.Prim o operands) = Prim o operands
action_of (code.Call operator operands) = Call operator operands
action_of (code.Apply operator list) = Apply operator list
action_of (code.CallCC operator) = CallCC operator
action_of (code.Closure proc) = Make (proc ∷ [])
action_of (code.Fix procs) = Make procs
action_of (code.SetBox boxed from) = SetBox boxed from
action_of (code.MakeBox from) = NewBox (from ∷ [])
action_of code.MakeHole = NewBox []
action_of act = Other (reads act)

-- a step of a block of a procedure
abbrev pub step_at : (proc block : ℕ) → Label → (vars : List ℕ) → Act Label → Place
step_at q b l vars act =
    record { proc = q; block = b; step = l.step; site = l.site; tail = l.tail; var = single vars; action = action_of act }

abbrev mutual
  -- the steps of a block, those of an `If`'s arms after it
  pub steps_in : (proc block : ℕ) → Code Label → List Place
  steps_in q b (Ends value) = []
  steps_in q b (Then l vars act rest) = step_at q b l vars act ∷ (arm_steps q l.arm act ++ steps_in q b rest)

  pub arm_steps : (proc arm : ℕ) → Act Label → List Place
  arm_steps q arm (If test this that) = steps_in q arm this ++ steps_in q (arm + 1) that
  arm_steps q arm act = []

-- the steps of procedures that are numbered from this one on
abbrev pub steps_from : (proc : ℕ) → List Lambda → List Place
steps_from q [] = []
steps_from q (p ∷ ps) = steps_in q p.block p.body ++ steps_from (suc q) ps

abbrev pub places_of : Form → List Place
places_of f = steps_from 0 (program f.procs f.lits).procs

-- the end of a block, with the variable whose value is the block's
pub record Ending : Type 0 where
  pub proc : ℕ
  pub block : ℕ
  pub value : Option ℕ

abbrev mutual
  pub endings_in : (proc block : ℕ) → Code Label → List Ending
  endings_in q b (Ends value) = (record { proc = q; block = b; value = value }) ∷ []
  endings_in q b (Then l vars act rest) = arm_endings q l.arm act ++ endings_in q b rest

  pub arm_endings : (proc arm : ℕ) → Act Label → List Ending
  arm_endings q arm (If test this that) = endings_in q arm this ++ endings_in q (arm + 1) that
  arm_endings q arm act = []

abbrev pub endings_from : (proc : ℕ) → List Lambda → List Ending
endings_from q [] = []
endings_from q (p ∷ ps) = endings_in q p.block p.body ++ endings_from (suc q) ps

abbrev pub endings_of : Form → List Ending
endings_of f = endings_from 0 (program f.procs f.lits).procs

-- What is known of a program: its procedures, the rows and atoms of its analysis, what the rows hold, and its steps.
pub record Facts : Type 0 where
  pub procs : List Written
  pub flow : Flow
  pub rows : Rows
  pub steps : List Place

abbrev pub facts : List Written → Flow → Rows → List Place → Facts
facts ps f rows steps = record { procs = ps; flow = f; rows = rows; steps = steps }

abbrev pub facts_of : Form → Rows → Facts
facts_of f rows = facts f.procs (flow_of f) rows (places_of f)

-- each step stands in one of so many procedures
pub record AllStand (procs : ℕ) (steps : List Place) : Type 0 where
  pub each : IsTrue (list_all (λ p. nat_lt p.proc procs) steps)
