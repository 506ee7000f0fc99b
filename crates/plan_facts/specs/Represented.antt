-- How values are held, what is reached, and which checks stand.
use Rattle.std.specs.Prelude.{ℕ, ◌≡◌, ◌<◌, ◌||◌, not, List, [], ◌∷◌, length, Option, Some, None, is_some, Bool, true, false, nat_eq, slice_get}
use Rattle.std.specs.List.{list_any}
use Rattle.scheme_base.specs.Operands.{Any, AnInteger, ACharacter, APair, AString, AVector, ASymbol, operands_of}
use Rattle.scheme_base.specs.Operands as operand
use Rattle.scheme_base.specs.Operations.{takes}
use Rattle.flow_constraints.specs.declared.flow.Flow.{Flow}
use Rattle.flow_constraints.specs.declared.flow.Kind.{Kind}
use Rattle.flow_constraints.specs.declared.flow.Kind.TheVariants.{Closure, Continuation, Pair, Symbol, Text, Vector}
use Rattle.flow_constraints.specs.Layout.{flow_of}
use Rattle.flow_constraints.specs.Rows.{row, Var}
use Rattle.flow_form.specs.declared.rows.Rows.{Rows}
use Rattle.named_form.specs.declared.plan.Fiction.{Fiction}
use Rattle.named_form.specs.declared.plan.Repr.{Repr}
use Rattle.named_form.specs.declared.plan.Repr.TheVariants.{Nothing, Raw, Tagged}
use Rattle.named_form.specs.declared.plan.Reprs.{Reprs}
use Rattle.named_form.specs.declared.plan.Slots.{Slots}
use Rattle.named_form.specs.declared.plan.StepUse.{StepUse}
use Rattle.named_form.specs.Code.{Written, totals}
use Rattle.named_form.specs.PlainPlan.{var_count}
use Rattle.named_form.specs.Valid.{Form}
use Rattle.named_form.specs.ValidPlan.{fiction_of}
use Rattle.plan_facts.specs.declared.place.Action.{Action}
use Rattle.plan_facts.specs.declared.place.Action.TheVariants.{Prim, Call, Apply, CallCC}
use Rattle.plan_facts.specs.declared.place.Place.{Place}
use Rattle.plan_facts.specs.Calls.{is_reached}
use Rattle.plan_facts.specs.Pairs.{members_of}
use Rattle.plan_facts.specs.Places.{places_of}

-- the atoms that a variable may be
abbrev pub atoms : Flow → Rows → (var : ℕ) → List ℕ
atoms f rows x = members_of rows (row f (Var x))

-- whether these atoms are that of integers alone
abbrev pub are_integers : List ℕ → Bool
are_integers (x ∷ []) = nat_eq x 1
are_integers xs = false

abbrev pub repr_in : (is_fictitious integers : Bool) → Repr
repr_in true integers = Nothing
repr_in false true = Raw
repr_in false false = Tagged

-- how a variable's value is held, where these need no slot
abbrev pub repr_of : Flow → Rows → List Fiction → (var : ℕ) → Repr
repr_of f rows fictions x = repr_in (is_some (fiction_of fictions x)) (are_integers (atoms f rows x))

-- whether an operand of this kind takes what an atom stands for
abbrev pub suits : operand.Kind → (atom : ℕ) → Option Kind → Bool
suits Any a kind = true
suits AnInteger a kind = nat_eq a 1
suits ACharacter a kind = nat_eq a 2
suits APair a (Some (Pair r literal)) = true
suits AString a (Some (Text literal)) = true
suits AString a kind = nat_eq a 9
suits AVector a (Some (Vector r literal)) = true
suits ASymbol a (Some (Symbol r)) = true
suits ASymbol a kind = nat_eq a 8
suits wanted a kind = false

-- whether some atom of a variable does not suit an operand
abbrev pub is_refused : Flow → Rows → operand.Kind → (var : ℕ) → Bool
is_refused f rows wanted x = list_any (λ a. not (suits wanted a (slice_get f.kinds a))) (atoms f rows x)

abbrev pub any_refused : Flow → Rows → List operand.Kind → List ℕ → Bool
any_refused f rows (w ∷ ws) (x ∷ xs) = is_refused f rows w x || any_refused f rows ws xs
any_refused f rows ws xs = false

-- whether a procedure is there that takes so many operands
abbrev pub takes_many : Option Written → (operands : ℕ) → Bool
takes_many None n = false
takes_many (Some p) n = takes (length p.params) (is_some p.rest) n

-- whether a call of what an atom stands for is refused: it is no closure and no continuation that takes so many
-- operands
abbrev pub takes_not : List Written → (operands : ℕ) → Option Kind → Bool
takes_not ps n (Some (Closure q)) = not (takes_many (slice_get ps q) n)
takes_not ps n (Some (Continuation x)) = not (nat_eq n 1)
takes_not ps n kind = true

abbrev pub call_refused : List Written → Flow → Rows → (operator operands : ℕ) → Bool
call_refused ps f rows g n = list_any (λ a. takes_not ps n (slice_get f.kinds a)) (atoms f rows g)

-- Whether a step's checks stand: some operand may be of a kind that the operation does not take, or what is called
-- may not take the operands. The list of an `Apply` is always looked at.
abbrev pub is_checked : List Written → Flow → Rows → Action → Bool
is_checked ps f rows (Prim o ys) = any_refused f rows (operands_of o) ys
is_checked ps f rows (Call g ys) = call_refused ps f rows g (length ys)
is_checked ps f rows (CallCC g) = call_refused ps f rows g 1
is_checked ps f rows action = true

abbrev pub use_in : List Written → Flow → Rows → Place → StepUse
use_in ps f rows p = record { reached = is_reached f rows p.block; checked = is_checked ps f rows p.action }

-- The representations of a program with these slots: of its variables, its blocks and its steps, and of nothing else.
pub record IsReprs (f : Form) (rows : Rows) (slots : Slots) (r : Reprs) : Type 0 where
  pub vars : (x : ℕ) → x < var_count f.procs → slice_get r.vars x ≡ Some (repr_of (flow_of f) rows slots.fictitious x)
  pub blocks : (b : ℕ) → b < (totals f.procs).blocks → slice_get r.blocks b ≡ Some (is_reached (flow_of f) rows b)
  pub steps :
      (n : ℕ) (p : Place) → slice_get (places_of f) n ≡ Some p
      → slice_get r.steps p.step ≡ Some (use_in f.procs (flow_of f) rows p)
  pub many_vars : length r.vars ≡ var_count f.procs
  pub many_blocks : length r.blocks ≡ (totals f.procs).blocks
  pub many_steps : length r.steps ≡ (totals f.procs).steps
