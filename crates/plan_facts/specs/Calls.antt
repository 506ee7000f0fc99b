-- What a call may reach, by what its operator may be.
use Rattle.std.specs.Prelude.{ℕ, List, [], ◌∷◌, length, Option, Some, None, is_some, Bool, true, false, slice_get, if◌then◌else◌}
use Rattle.std.specs.List.{flat_map, list_any}
use Rattle.scheme_base.specs.Operations.{takes}
use Rattle.flow_constraints.specs.declared.flow.Flow.{Flow}
use Rattle.flow_constraints.specs.declared.flow.Kind.{Kind}
use Rattle.flow_constraints.specs.declared.flow.Kind.TheVariants.{Closure}
use Rattle.flow_constraints.specs.Rows.{row, Reach, Var}
use Rattle.flow_form.specs.declared.rows.Rows.{Rows}
use Rattle.named_form.specs.Code.{Written, option_list}
use Rattle.plan_facts.specs.declared.place.Action.{Action}
use Rattle.plan_facts.specs.declared.place.Action.TheVariants.{Call, Apply, CallCC}
use Rattle.plan_facts.specs.Pairs.{holds, members_of}

-- a block is reached whose row has the atom of what is reached
abbrev pub is_reached : Flow → Rows → (block : ℕ) → Bool
is_reached f rows b = holds rows (row f (Reach b)) 0

abbrev pub operator_of : Action → Option ℕ
operator_of (Call g ys) = Some g
operator_of (Apply g y) = Some g
operator_of (CallCC g) = Some g
operator_of action = None

abbrev pub is_call : Action → Bool
is_call action = is_some (operator_of action)

abbrev pub is_callcc : Action → Bool
is_callcc (CallCC g) = true
is_callcc action = false

-- whether a procedure takes what a call gives; of an `Apply` the count is not known
abbrev pub takes_of : Option Written → Action → Bool
takes_of None action = false
takes_of (Some p) (Call g ys) = takes (length p.params) (is_some p.rest) (length ys)
takes_of (Some p) (CallCC g) = takes (length p.params) (is_some p.rest) 1
takes_of (Some p) (Apply g y) = true
takes_of (Some p) action = false

-- the procedure that is entered where the operator has an atom
abbrev pub entered_by : List Written → Action → Option Kind → Option ℕ
entered_by ps action (Some (Closure q)) = if takes_of (slice_get ps q) action then Some q else None
entered_by ps action kind = None

abbrev pub entered_at : List Written → Flow → Action → (atom : ℕ) → Option ℕ
entered_at ps f action a = entered_by ps action (slice_get f.kinds a)

-- the procedures that may be entered where the operator's row has these atoms
abbrev pub entered_with : List Written → Flow → Rows → Action → Option ℕ → List ℕ
entered_with ps f rows action None = []
entered_with ps f rows action (Some g) =
    flat_map (λ a. option_list (entered_at ps f action a)) (members_of rows (row f (Var g)))

-- the procedures that a call may enter
abbrev pub entered : List Written → Flow → Rows → Action → List ℕ
entered ps f rows action = entered_with ps f rows action (operator_of action)

-- whether a variable may be bound to a continuation
abbrev pub resumes : Flow → Rows → (operator : ℕ) → Bool
resumes f rows g = list_any (holds rows (row f (Var g))) f.continuations

-- whether a call may reach a continuation, which takes one operand
abbrev pub may_resume : Flow → Rows → Action → Bool
may_resume f rows (Call g (y ∷ [])) = resumes f rows g
may_resume f rows (Apply g y) = resumes f rows g
may_resume f rows (CallCC g) = resumes f rows g
may_resume f rows action = false
