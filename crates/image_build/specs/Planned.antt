-- The storage plan of a program, from the rows of its analysis.
use Rattle.std.specs.Prelude.{ℕ, ◌≡◌, List}
use Rattle.flow_form.specs.declared.rows.Rows.{Rows}
use Rattle.named_form.specs.declared.plan.Plan.{Plan}
use Rattle.named_form.specs.Valid.{Form}
use Rattle.named_form.specs.ValidPlan.{FitsProgram}
use Rattle.plan_facts.specs.Capturing.{IsCapturing, recording}
use Rattle.plan_facts.specs.Escaping.{IsEscaping}
use Rattle.plan_facts.specs.Represented.{IsReprs}
use Rattle.plan_facts.specs.Slotted.{IsSlots}
use Rattle.region_infer.specs.Regions.{AreMarks}

-- A plan is that of a program with these rows: its captured procedures and the calls that leave records, the objects
-- that outlive their activation, its slots and its representations. It speaks of the program's parts and of no others.
pub record Plans (f : Form) (rows : Rows) (plan : Plan) : Type 0 where
  pub captured : IsCapturing f rows plan.capturing.procs
  pub recorded : plan.capturing.recording ≡ recording f rows plan.capturing.procs
  pub escaping : List ℕ
  pub escapes : IsEscaping f rows plan.capturing.procs escaping
  pub marked : AreMarks escaping plan.marks
  pub slotted : IsSlots f rows plan.capturing.procs plan.slots
  pub represented : IsReprs f rows plan.slots plan.reprs
  pub fits : FitsProgram plan f.procs
