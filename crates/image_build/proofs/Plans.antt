-- The plan of a program, from what each analysis answers, and its flat form.
use Rattle.std.proofs.Common.{◌≡◌, length, Ok, Err, Result, sym, subst}
use Rattle.std.specs.Prelude.{IfOk, IsTrue, map}
use Rattle.std.specs.List.{list_all}
use Rattle.std.specs.declared.alloc.AllocError.{AllocError}
use Rattle.flow_form.specs.Shape.{HoldsLeast}
use Rattle.flow_form.specs.declared.constraints.Constraints.{Constraints}
use Rattle.flow_form.specs.declared.rows.Rows.{Rows}
use Rattle.named_form.specs.Code.{program, totals}
use Rattle.named_form.specs.PlainPlan.{var_count}
use Rattle.named_form.specs.Valid.{Form}
use Rattle.named_form.specs.ValidPlan.{FitsProgram, is_set}
use Rattle.named_form.specs.Written.{form}
use Rattle.named_form.specs.declared.plan.Plan.{Plan}
use Rattle.named_form.specs.declared.program.Named.{Named}
use Rattle.flat_form.specs.FlatWritten.{form as flat_form_of}
use Rattle.flat_form.specs.declared.program.Flat.{Flat}
use Rattle.closure_conv.specs.FlatOf.{flat_of}
use Rattle.plan_facts.specs.Represented.{IsReprs}
use Rattle.slot_facts.specs.Fits.{FitsSlots}
use Rattle.image_build.specs.Emitted.{IsFlat, IsRuled}
use Rattle.image_build.specs.Planned.{Plans}

-- what the analyses answer speaks of the parts of their program alone
pub fits_program : (f : Form) (rows : Rows) (plan : Plan) → IsTrue (is_set (length f.procs) plan.capturing.procs)
    → IsTrue (is_set (var_count f.procs) plan.capturing.recording) → length plan.marks ≡ (totals f.procs).sites
    → FitsSlots f.procs plan.slots → IsReprs f rows plan.slots plan.reprs → FitsProgram plan f.procs
fits_program f rows plan captured recorded marks slots reprs =
    let many = sym reprs.many_vars in
    record {
      kept = slots.kept;
      marks = marks;
      vars = reprs.many_vars;
      blocks = reprs.many_blocks;
      steps = reprs.many_steps;
      capturing = captured;
      recording = subst (λ n. IsTrue (is_set n plan.capturing.recording)) many recorded;
      each_kept = subst (λ n. IsTrue (list_all (is_set n) plan.slots.kept)) many slots.each_kept;
      fictitious = subst (λ n. IsTrue (is_set n (map (λ f. f.var) plan.slots.fictitious))) many slots.fictitious;
      stated = slots.stated;
      global = subst (λ n. IsTrue (is_set n plan.slots.global)) many slots.global;
      compared = slots.compared;
    }

-- the flat program that is made under a plan of the least solution
pub flat_planned : (answer : Result Flat AllocError) (named : Named) (constraints : Constraints) (rows : Rows) (plan : Plan)
    → IsRuled named constraints → HoldsLeast constraints rows → Plans (form named) rows plan
    → IfOk answer (λ flat. flat_form_of flat ≡ flat_of plan named.tops (program (form named).procs (form named).lits))
    → IfOk answer (IsFlat named)
flat_planned (Ok flat) named constraints rows plan ruled least plans is =
    record {
      plan = plan;
      is_planned = record { constraints = constraints; ruled = ruled; rows = rows; least = least; plans = plans };
      is = is;
    }
flat_planned (Err e) named constraints rows plan ruled least plans is = tt
