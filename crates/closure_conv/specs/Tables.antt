-- What the tables of a plan tell: for each list of the plan, the index of each member.
use Rattle.std.specs.List.{filter}
use Rattle.std.specs.Option.{option_map}
use Rattle.std.specs.Prelude.{ℕ, suc, ◌≡◌, ◌||◌, List, [], map, slice_get, Option, Some, None, is_some, Bool, not, true, false, if◌then◌else◌}
use Rattle.scheme_base.specs.Operations.{item_or}
use Rattle.flat_form.specs.declared.program.At.{At}
use Rattle.scheme_base.specs.declared.place.Stated.{Stated}
use Rattle.named_form.specs.declared.plan.Fiction.{Fiction}
use Rattle.named_form.specs.declared.plan.Plan.{Plan}
use Rattle.named_form.specs.Code as named
use Rattle.named_form.specs.Code.{Written, Lambda, bound_in, labelled}
use Rattle.named_form.specs.Storage.{keeps, is_fictitious, is_global}
use Rattle.closure_conv.specs.declared.counts.Counts.{Counts}
use Rattle.closure_conv.specs.declared.numbering.Numbering.{Numbering}
use Rattle.closure_conv.specs.declared.tables.Tables.{Tables}
use Rattle.closure_conv.specs.FlatOf.{Scene, index_of, stated_or, cell_or, slot_or, kept_or_none}
use Rattle.flat_form.specs.declared.program.Mode.{Mode}
use Rattle.flat_form.specs.declared.program.Mode.TheVariants as mode

-- the number that a numbering has for a member
abbrev pub number_of : Numbering → (x : ℕ) → Option ℕ
number_of n x = item_or None (slice_get n.numbers.items x)

-- the first of two answers that is there
abbrev pub or_else : Option ℕ → Option ℕ → Option ℕ
or_else (Some n) other = Some n
or_else None other = other

-- it numbers the members of a list, and nothing else
abbrev pub Numbers : Numbering → List ℕ → Type 0
Numbers n xs = (x : ℕ) → number_of n x ≡ index_of xs x

-- the tables of a plan
pub record Tells (plan : Plan) (t : Tables) : Type 0 where
  pub capturing : Numbers t.capturing plan.capturing.procs
  pub recording : Numbers t.recording plan.capturing.recording
  pub fictitious : Numbers t.fictitious (map (λ f. f.var) plan.slots.fictitious)
  pub global : Numbers t.global plan.slots.global
  pub compared : Numbers t.compared plan.slots.compared

-- between procedures
pub record Rests (plan : Plan) (t : Tables) : Type 0 where
  pub tells : Tells plan t
  pub slots : Numbers t.slots []
  pub kept : Numbers t.kept []

-- while a procedure runs
pub record Runs (plan : Plan) (t : Tables) : Type 0 where
  pub tells : Tells plan t
  pub slots : Numbers t.slots t.slotted
  pub kept : Numbers t.kept (keeps plan t.proc)

-- whether a variable has a slot in the frame of the procedure that binds it
abbrev pub has_slot : Tables → (x : ℕ) → Bool
has_slot t x = not (is_some (number_of t.fictitious x) || is_some (number_of t.global x))

abbrev pub scene : Plan → Tables → Scene
scene plan t = record { plan = plan; tops = t.tops; proc = t.proc; slots = t.slotted }

-- the value of the variable of this number among those whose values are known
abbrev pub value_at : List Fiction → (number : Option ℕ) → Option Stated
value_at fs None = None
value_at fs (Some n) = option_map (λ f. f.value) (slice_get fs n)

-- where a variable is found by its numbers
abbrev pub home_in : Plan → Tables → (x : ℕ) → At
home_in plan t x =
    stated_or (value_at plan.slots.fictitious (number_of t.fictitious x))
    (cell_or t.tops (number_of t.global x)
    (slot_or (number_of t.slots x) (kept_or_none (number_of t.kept x))))

-- how many steps, sites and blocks stand before a step
abbrev pub counts : Counts → named.Counts
counts c = record { steps = c.steps; sites = c.sites; blocks = c.blocks }

-- past the number of a block that begins
abbrev pub next_block : named.Counts → named.Counts
next_block c = record { steps = c.steps; sites = c.sites; blocks = suc c.blocks }

-- what a call does with its caller's frame, in tail position or not
abbrev pub mode_in : Tables → (tail : Bool) → (var : ℕ) → Mode
mode_in t true x = if is_some (number_of t.capturing t.proc) then mode.RecordTail else mode.StackTail
mode_in t false x = if is_some (number_of t.recording x) then mode.Record else mode.Stack

-- the variables of a procedure that have slots in its frames
abbrev pub slotted_of : Plan → Written → List ℕ
slotted_of plan w = filter (λ x. not (is_fictitious plan x || is_global plan x)) (bound_in w)

-- a procedure whose body has this number, and its rest list this site
abbrev pub lambda : named.Counts → (site : ℕ) → Written → Lambda
lambda at site w =
    record {
      params = w.params;
      rest = w.rest;
      body = labelled (next_block at) true w.body;
      block = at.blocks;
      list_site = site;
      free = [];
      bound = bound_in w;
    }

-- a procedure begins to run
pub record Enters (plan : Plan) (before after : Tables) (w : Written) : Type 0 where
  pub runs : Runs plan after
  pub slotted : after.slotted ≡ slotted_of plan w
  pub proc : after.proc ≡ before.proc
  pub tops : after.tops ≡ before.tops

-- a procedure has run
pub record Leaves (plan : Plan) (before after : Tables) : Type 0 where
  pub rests : Rests plan after
  pub proc : after.proc ≡ before.proc
  pub tops : after.tops ≡ before.tops
