-- The procedures whose closures are told apart, step by step.
use Rattle.std.specs.Prelude.{ℕ, List, [], ◌∷◌, slice_get, if◌then◌else◌}
use Rattle.std.specs.List.{flat_map}
use Rattle.scheme_base.specs.declared.op.Op.TheVariants as op
use Rattle.flow_constraints.specs.declared.flow.Flow.{Flow}
use Rattle.flow_constraints.specs.Rows.{row, Var}
use Rattle.flow_form.specs.declared.rows.Rows.{Rows}
use Rattle.named_form.specs.Code.{option_list}
use Rattle.plan_facts.specs.declared.place.Action.{Action}
use Rattle.plan_facts.specs.declared.place.Action.TheVariants.{Prim}
use Rattle.plan_facts.specs.declared.place.Place.{Place}
use Rattle.plan_facts.specs.Calls.{is_reached}
use Rattle.plan_facts.specs.Pairs.{holds, members_of}
use Rattle.plan_facts.specs.Slotted.{closed_by}

-- the procedure of an atom's closures, if a variable may have that atom
abbrev pub closures_of : (procs : ℕ) → Flow → Rows → (other atom : ℕ) → List ℕ
closures_of n f rows y a =
    if holds rows (row f (Var y)) a then option_list (closed_by n (slice_get f.kinds a)) else []

abbrev pub met_by : (procs : ℕ) → Flow → Rows → Action → List ℕ
met_by n f rows (Prim op.Eqv (x ∷ y ∷ [])) = flat_map (closures_of n f rows y) (members_of rows (row f (Var x)))
met_by n f rows action = []

abbrev pub compared_at : (procs : ℕ) → Flow → Rows → Place → List ℕ
compared_at n f rows p = if is_reached f rows p.block then met_by n f rows p.action else []
