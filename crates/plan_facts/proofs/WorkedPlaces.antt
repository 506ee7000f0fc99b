-- Small programs whose steps and calls were worked out apart.
use Rattle.std.proofs.Common.{◌≡◌, ℕ, Bool, List, [], ◌∷◌, Some, None, true, false, refl}
use Rattle.scheme_base.specs.declared.op.Op.TheVariants as op
use Rattle.scheme_base.specs.declared.pos.Pos.{Pos}
use Rattle.flow_constraints.specs.Layout.{flow_of}
use Rattle.flow_form.specs.declared.rows.Rows.{Rows}
use Rattle.named_form.specs.Code.{Code, Ends, Then, Written}
use Rattle.named_form.specs.Code as code
use Rattle.named_form.specs.Valid.{Form, nowhere}
use Rattle.plan_facts.specs.declared.place.Action.{Action}
use Rattle.plan_facts.specs.declared.place.Action.TheVariants.{Call, CallCC, Make, Other}
use Rattle.plan_facts.specs.declared.place.Place.{Place}
use Rattle.plan_facts.specs.Calls.{entered, is_reached, may_resume}
use Rattle.plan_facts.specs.Pairs.{members_of}
use Rattle.plan_facts.specs.Places.{places_of}

abbrev place : (proc block step site : ℕ) → (tail : Bool) → (var : ℕ) → Action → Place
place q b n s tail x action = record { proc = q; block = b; step = n; site = s; tail = tail; var = x; action = action }

abbrev proc : List ℕ → Code Pos → Written
proc params body = record { params = params; rest = None; body = body; pos = nowhere }

-- a lambda expression that is called with the continuation, and calls it if it is true
abbrev program : Form
program =
    record {
      procs = (
          proc [] (
          Then nowhere (0 ∷ []) (code.Closure 1) (
          Then nowhere (1 ∷ []) (code.CallCC 0) (
          Ends None)))
          ∷ proc (2 ∷ []) (
          Then nowhere (3 ∷ []) (code.If 2 (
          Then nowhere (4 ∷ []) (code.Call 2 (2 ∷ [])) (
          Ends (Some 4)))
          (Ends (Some 2))) (
          Ends (Some 3)))
          ∷ []);
      tops = 0;
      lits = [];
    }

steps : places_of program ≡ (
    place 0 0 0 1 false 0 (Make (1 ∷ []))
    ∷ place 0 0 1 1 false 1 (CallCC 0)
    ∷ place 1 1 2 2 true 3 (Other (2 ∷ []))
    ∷ place 1 2 3 2 true 4 (Call 2 (2 ∷ []))
    ∷ [])
steps = refl

-- The rows are those of the first block and of variables 0 and 1, what the continuation is given as, the second
-- body, its result, variables 2 and 3, its arms, and variable 4. The closure has the atom 10, the continuation 11.
abbrev rows : Rows
rows = record { stride = 1; words = 1 ∷ 1024 ∷ 2048 ∷ 2048 ∷ 1 ∷ 2048 ∷ 2048 ∷ 2048 ∷ 1 ∷ 0 ∷ 0 ∷ [] }

operator_atoms : members_of rows 1 ≡ 10 ∷ []
operator_atoms = refl

enters_the_lambda : entered program.procs (flow_of program) rows (CallCC 0) ≡ 1 ∷ []
enters_the_lambda = refl

resumes_no_closure : may_resume (flow_of program) rows (CallCC 0) ≡ false
resumes_no_closure = refl

resumes_the_continuation : may_resume (flow_of program) rows (Call 2 (2 ∷ [])) ≡ true
resumes_the_continuation = refl

takes_no_two_operands : may_resume (flow_of program) rows (Call 2 (2 ∷ 2 ∷ [])) ≡ false
takes_no_two_operands = refl

reaches_the_first_arm : is_reached (flow_of program) rows 2 ≡ true
reaches_the_first_arm = refl

reaches_no_second_arm : is_reached (flow_of program) rows 3 ≡ false
reaches_no_second_arm = refl
