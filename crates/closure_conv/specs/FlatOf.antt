-- The flat program of a program in named form under a storage plan: the whole of `flatten` as a function.
--
-- Step for step and block for block the flat program is the named one. A variable becomes the place where
-- its procedure finds it, and what the plan says of a step, a site or a block stands beside it.
use Rattle.std.specs.Prelude.{ℕ, suc, ◌+◌, nat_eq, List, [], ◌∷◌, length, map, Option, Some, None, Bool, true, false, if◌then◌else◌}
use Rattle.std.specs.Option.{option_map}
use Rattle.scheme_base.specs.declared.place.Mark.{Mark}
use Rattle.scheme_base.specs.declared.place.Mark.TheVariants as mark
use Rattle.scheme_base.specs.declared.place.Stated.{Stated}
use Rattle.scheme_base.specs.declared.place.Stated.TheVariants as stated
use Rattle.named_form.specs.declared.plan.Plan.{Plan}
use Rattle.named_form.specs.declared.plan.Repr.{Repr}
use Rattle.named_form.specs.declared.plan.Repr.TheVariants as repr
use Rattle.named_form.specs.Code.{Code, Ends, Then, Act, Const, Copy, Prim, Call, Apply, CallCC, If, Closure, Fix, MakeBox, MakeHole, Unbox, SetBox, TopGet, TopSet, TopDefine, Label, Lambda, Program, makes, single, closure_site}
use Rattle.named_form.specs.Storage.{captures, records, keeps, is_static, mark_of, frame_vars}
use Rattle.named_form.specs.ValidPlan.{use_of, block_reached, fiction_of, repr_of}
use Rattle.flat_form.specs.declared.program.At.{At}
use Rattle.flat_form.specs.declared.program.At.TheVariants as at
use Rattle.flat_form.specs.declared.program.Made.{Made}
use Rattle.flat_form.specs.declared.program.Mode.{Mode}
use Rattle.flat_form.specs.declared.program.Mode.TheVariants as mode
use Rattle.flat_form.specs.declared.program.Place.{Place}
use Rattle.flat_form.specs.FlatCode as flat

-- where a procedure's variables are looked for: the plan, how many top-level variables there are, the
-- procedure, and its variables that have slots
pub record Scene : Type 0 where
  pub plan : Plan
  pub tops : ℕ
  pub proc : ℕ
  pub slots : List ℕ

-- Homes

-- the index of a number in a list, counted from i
abbrev pub index_from : (i : ℕ) → List ℕ → (x : ℕ) → Option ℕ
index_from i [] x = None
index_from i (y ∷ ys) x = if nat_eq x y then Some i else index_from (suc i) ys x

abbrev pub index_of : List ℕ → (x : ℕ) → Option ℕ
index_of xs x = index_from 0 xs x

abbrev pub stated_or : Option Stated → At → At
stated_or (Some s) other = at.Stated s
stated_or None other = other

-- the cells of the top-level variables are the first ones
abbrev pub cell_or : (tops : ℕ) → Option ℕ → At → At
cell_or tops (Some n) other = at.Cell (tops + n)
cell_or tops None other = other

-- slot 0 has the closure
abbrev pub slot_or : Option ℕ → At → At
slot_or (Some n) other = at.Slot (suc n)
slot_or None other = other

-- what has no home is never read
abbrev pub kept_or_none : Option ℕ → At
kept_or_none (Some n) = at.Kept n
kept_or_none None = at.Stated stated.Unspecified

-- a variable is known, or has a cell for good, or a slot, or is kept by the closure
abbrev pub home_at : Scene → (var : ℕ) → At
home_at σ x =
    stated_or (fiction_of σ.plan.slots.fictitious x)
    (cell_or σ.tops (index_of σ.plan.slots.global x)
    (slot_or (index_of σ.slots x) (kept_or_none (index_of (keeps σ.plan σ.proc) x))))

abbrev pub is_raw : Repr → Bool
is_raw repr.Raw = true
is_raw repr.Nothing = false
is_raw repr.Tagged = false

abbrev pub home : Scene → (var : ℕ) → Place
home σ x = record { at = home_at σ x; raw = is_raw (repr_of σ.plan x) }

abbrev pub homes : Scene → List ℕ → List Place
homes σ xs = map (home σ) xs

-- Steps

-- what a call does with its caller's frame, in tail position or not
abbrev pub mode_of : Scene → (tail : Bool) → (var : ℕ) → Mode
mode_of σ true x = if captures σ.plan σ.proc then mode.RecordTail else mode.StackTail
mode_of σ false x = if records σ.plan x then mode.Record else mode.Stack

-- a static closure is made by no step
abbrev pub closure_mark : Plan → (proc : ℕ) → Option Mark
closure_mark plan q = if is_static plan q then None else Some (mark_of plan (closure_site q))

abbrev pub made : Scene → (proc : ℕ) → Made
made σ q = record { proc = q; kept = homes σ (keeps σ.plan q); mark = closure_mark σ.plan q }

abbrev pub arm : (reached : Bool) → flat.Code → flat.Arm
arm true block = flat.Present block
arm false block = flat.Absent

abbrev pub known : Plan → Label → flat.Known
known plan l =
    record { pos = l.place; reached = (use_of plan l.step).reached; checked = (use_of plan l.step).checked }

abbrev mutual
  pub flat_code : Scene → Code Label → flat.Code
  flat_code σ (Ends value) = flat.Ends (option_map (home σ) value)
  flat_code σ (Then l vars act rest) =
      flat.Then (known σ.plan l) (homes σ vars) (flat_act σ l (single vars) act) (flat_code σ rest)

  pub flat_act : Scene → Label → (var : ℕ) → Act Label → flat.Act
  flat_act σ l x (Const lit) = flat.Const lit
  flat_act σ l x (Copy from) = flat.Copy (home σ from)
  flat_act σ l x (Prim o operands) =
      flat.Prim o (homes σ operands) (if makes o then Some (mark_of σ.plan l.site) else None)
  flat_act σ l x (Call operator operands) =
      flat.Call (home σ operator) (homes σ operands) (mode_of σ l.tail x)
  flat_act σ l x (Apply operator list) = flat.Apply (home σ operator) (home σ list) (mode_of σ l.tail x)
  flat_act σ l x (CallCC operator) = flat.CallCC (home σ operator) (mode_of σ l.tail x)
  flat_act σ l x (If test this that) =
      flat.If (home σ test) l.tail
      (arm (block_reached σ.plan l.arm) (flat_code σ this))
      (arm (block_reached σ.plan (suc l.arm)) (flat_code σ that))
  flat_act σ l x (Closure proc) = flat.Closure (made σ proc)
  flat_act σ l x (Fix procs) = flat.Fix (map (made σ) procs)
  flat_act σ l x (MakeBox from) = flat.MakeBox (home σ from) (mark_of σ.plan l.site)
  flat_act σ l x MakeHole = flat.MakeHole (mark_of σ.plan l.site)
  flat_act σ l x (Unbox boxed checked) = flat.Unbox (home σ boxed) checked
  flat_act σ l x (SetBox boxed from) = flat.SetBox (home σ boxed) (home σ from)
  flat_act σ l x (TopGet top checked) = flat.TopGet top checked
  flat_act σ l x (TopSet top from checked) = flat.TopSet top (home σ from) checked
  flat_act σ l x (TopDefine top from) = flat.TopDefine top (home σ from)

-- Procedures

abbrev pub rest_mark : Plan → Option ℕ → (site : ℕ) → Mark
rest_mark plan None site = mark.Global
rest_mark plan (Some x) site = mark_of plan site

-- a part with these parameters and this body, whose rest list has this site
abbrev pub part : Scene → (params : List ℕ) → (rest : Option ℕ) → (site : ℕ) → (body : flat.Code) → flat.Part
part σ params rest site body =
    record {
      params = homes σ params;
      rest = option_map (home σ) rest;
      rest_mark = rest_mark σ.plan rest site;
      body = body;
    }

-- a procedure that is never reached has no parts
abbrev pub parts : (reached : Bool) → flat.Part → List flat.Part
parts true p = p ∷ []
parts false p = []

-- one without a rest parameter takes as many operands as it has parameters
abbrev pub greatest : Option ℕ → (least : ℕ) → Option ℕ
greatest None least = Some least
greatest (Some x) least = None

abbrev pub flat_proc : Scene → Lambda → flat.Procedure
flat_proc σ p =
    let reached = block_reached σ.plan p.block in
    record {
      reached = reached;
      capturing = captures σ.plan σ.proc;
      slots = suc (length σ.slots);
      least = length p.params;
      greatest = greatest p.rest (length p.params);
      parts = parts reached (part σ p.params p.rest p.list_site (flat_code σ p.body));
    }

-- procedures numbered from q on
abbrev pub flat_procs : Plan → (tops : ℕ) → Program → (q : ℕ) → List Lambda → List flat.Procedure
flat_procs plan tops program q [] = []
flat_procs plan tops program q (p ∷ ps) =
    flat_proc (record { plan = plan; tops = tops; proc = q; slots = frame_vars plan program q }) p
    ∷ flat_procs plan tops program (suc q) ps

-- the flat program of a program with so many top-level variables
abbrev pub flat_of : Plan → (tops : ℕ) → Program → flat.Program
flat_of plan tops program =
    record {
      procs = flat_procs plan tops program 0 program.procs;
      cells = record { tops = tops; globals = length plan.slots.global };
      lits = program.lits;
    }
