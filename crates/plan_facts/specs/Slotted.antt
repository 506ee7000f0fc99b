-- Which procedures' closures need slots, and which variables have a place, are kept, or have a cell for good.
use Rattle.std.specs.Prelude.{ℕ, ◌≡◌, ◌≢◌, ◌<◌, ◌↔◌, ◌⊎◌, ◌&&◌, List, [], ◌∷◌, length, Option, Some, None, Bool, true, false, IsTrue, nat_le, nat_lt, slice_get, if◌then◌else◌}
use Rattle.scheme_base.specs.declared.op.Op.TheVariants as op
use Rattle.scheme_base.specs.declared.place.Stated.{Stated}
use Rattle.scheme_base.specs.declared.place.Stated.TheVariants as stated
use Rattle.flow_constraints.specs.declared.flow.Kind.{Kind}
use Rattle.flow_constraints.specs.declared.flow.Kind.TheVariants.{Closure}
use Rattle.flow_constraints.specs.Rows.{row, Var}
use Rattle.flow_form.specs.declared.rows.Rows.{Rows}
use Rattle.least_set.specs.Least.{IsLeast, Set, has}
use Rattle.named_form.specs.declared.plan.Slots.{Slots}
use Rattle.named_form.specs.Code.{bound_in, free_in, written_at}
use Rattle.named_form.specs.Needs.{listed}
use Rattle.named_form.specs.PlainPlan.{var_count}
use Rattle.named_form.specs.Valid.{Form}
use Rattle.named_form.specs.ValidPlan.{fiction_of}
use Rattle.plan_facts.specs.declared.place.Action.{Action}
use Rattle.plan_facts.specs.declared.place.Action.TheVariants.{Prim, Call, Apply, CallCC, Make, SetBox, NewBox, Other}
use Rattle.plan_facts.specs.declared.place.Place.{Place}
use Rattle.plan_facts.specs.Calls.{is_reached}
use Rattle.plan_facts.specs.Escaping.{IsReachedStep, closes}
use Rattle.plan_facts.specs.Pairs.{holds}
use Rattle.plan_facts.specs.Places.{Ending, Facts, endings_of, facts_of}

-- what is brought by one other: that a procedure's closures have slots, that a variable has a place, and that a
-- procedure's closures keep a variable
pub data Item : Type 0 where
  HasSlots : (proc : ℕ) → Item
  IsPlaced : (var : ℕ) → Item
  IsKept : (proc var : ℕ) → Item

-- a variable may have what an atom stands for
abbrev pub may_be : Facts → (var atom : ℕ) → Bool
may_be k x a = holds k.rows (row k.flow (Var x)) a

-- the procedure, one of so many, whose closures are of this kind
abbrev pub closed_by : (procs : ℕ) → Option Kind → Option ℕ
closed_by n (Some (Closure q)) = if nat_lt q n then Some q else None
closed_by n kind = None

-- the procedure whose closures an atom stands for; procedures are named by the kinds of atoms, since 0 has no closure
abbrev pub closing : Facts → (atom : ℕ) → Option ℕ
closing k a = closed_by (length k.procs) (slice_get k.flow.kinds a)

-- a variable may be a closure of a procedure
pub record MayClose (k : Facts) (x q : ℕ) : Type 0 where
  pub atom : ℕ
  pub there : IsTrue (may_be k x atom)
  pub kind : closing k atom ≡ Some q

-- a procedure's closures are met by one of themselves in an `%eqv?`
pub record IsCompared (k : Facts) (q : ℕ) : Type 0 where
  pub place : Place
  pub reached : IsReachedStep k place
  pub one : ℕ
  pub other : ℕ
  pub does : place.action ≡ Prim op.Eqv (one ∷ other ∷ [])
  pub atom : ℕ
  pub kind : closing k atom ≡ Some q
  pub first : IsTrue (may_be k one atom)
  pub second : IsTrue (may_be k other atom)

-- the variables that a step reads itself
abbrev pub reads_of : Action → List ℕ
reads_of (Prim o ys) = ys
reads_of (Call g ys) = g ∷ ys
reads_of (Apply g y) = g ∷ y ∷ []
reads_of (CallCC g) = g ∷ []
reads_of (Make qs) = []
reads_of (SetBox b y) = b ∷ y ∷ []
reads_of (NewBox ys) = ys
reads_of (Other ys) = ys

-- a procedure refers to a variable in a reached step, or as the value of a reached block
pub data Refers (f : Form) (k : Facts) (proc var : ℕ) : Type 0 where
  Reads : (p : Place) → IsReachedStep k p → p.proc ≡ proc → IsTrue (has (reads_of p.action) var) → Refers f k proc var
  Gives :
      (n : ℕ) (e : Ending) → slice_get (endings_of f) n ≡ Some e → e.proc ≡ proc → e.value ≡ Some var
      → IsTrue (is_reached k.flow k.rows e.block) → Refers f k proc var

-- a procedure makes closures of another in a reached step
pub record MakesOf (k : Facts) (proc made : ℕ) : Type 0 where
  pub place : Place
  pub reached : IsReachedStep k place
  pub here : place.proc ≡ proc
  pub closes : IsTrue (has (closes place.action) made)

abbrev pub is_free : Form → (proc var : ℕ) → Bool
is_free f q x = has (free_in (length f.procs) f.procs q) x

abbrev pub is_empty : List ℕ → Bool
is_empty [] = true
is_empty (x ∷ xs) = false

-- a variable of the program's own block, which may have a cell for good where nothing captures
abbrev pub is_own : Form → (capturing : List ℕ) → (var : ℕ) → Bool
is_own f capturing x = has (bound_in (written_at (slice_get f.procs 0))) x && is_empty capturing

-- an atom that stands for one value alone, and not for a closure
abbrev pub is_single : (atom : ℕ) → Bool
is_single a = nat_le 3 a && nat_le a 7

abbrev pub is_variable : Facts → (var : ℕ) → Bool
is_variable k x = nat_lt x (var_count k.procs)

-- A set of items has all that needs a slot, where these procedures are captured.
pub record HasSlotted (f : Form) (k : Facts) (capturing : List ℕ) (items : Set Item) : Type 0 where
  pub compared : (q : ℕ) → IsCompared k q → IsTrue (items (HasSlots q))
  pub keeping : (q x : ℕ) → IsTrue (items (IsKept q x)) → IsTrue (items (HasSlots q))
  pub two :
      (x a b : ℕ) → IsTrue (is_variable k x) → IsTrue (may_be k x a) → IsTrue (may_be k x b) → a ≢ b
      → IsTrue (items (IsPlaced x))
  pub many :
      (x a : ℕ) → IsTrue (is_variable k x) → IsTrue (may_be k x a) → closing k a ≡ None → is_single a ≡ false
      → IsTrue (items (IsPlaced x))
  pub slotted :
      (x q : ℕ) → IsTrue (is_variable k x) → MayClose k x q → IsTrue (items (HasSlots q)) → IsTrue (items (IsPlaced x))
  pub referred :
      (q x : ℕ) → IsTrue (is_free f q x) → Refers f k q x → is_own f capturing x ≡ false → IsTrue (items (IsPlaced x))
      → IsTrue (items (IsKept q x))
  pub made :
      (q r x : ℕ) → IsTrue (is_free f q x) → MakesOf k q r → IsTrue (items (IsKept r x)) → IsTrue (items (IsKept q x))

-- an atom is the only one of a variable
pub record IsOnly (k : Facts) (x a : ℕ) : Type 0 where
  pub there : IsTrue (may_be k x a)
  pub only : (b : ℕ) → IsTrue (may_be k x b) → b ≡ a

abbrev pub IsNothing : Facts → (var : ℕ) → Type 0
IsNothing k x = (a : ℕ) → may_be k x a ≡ false

-- a variable can have this one value alone
abbrev pub States : Facts → Set Item → (var : ℕ) → Stated → Type 0
States k items x stated.False = IsOnly k x 3
States k items x stated.True = IsOnly k x 4
States k items x stated.Nil = IsOnly k x 5
States k items x stated.Unspecified = IsOnly k x 6 ⊎ IsNothing k x
States k items x stated.Eof = IsOnly k x 7
States k items x (stated.Closure q) =
    (a : ℕ) × IsOnly k x a × (closing k a ≡ Some q) × (items (HasSlots q) ≡ false)

-- the slots of a program
pub record IsSlots (f : Form) (rows : Rows) (capturing : List ℕ) (s : Slots) : Type 0 where
  pub items : Set Item
  pub least : IsLeast (HasSlotted f (facts_of f rows) capturing) items
  pub kept : (q x : ℕ) → has (listed s.kept q) x ≡ items (IsKept q x)
  pub stated : (x : ℕ) (v : Stated) → fiction_of s.fictitious x ≡ Some v → States (facts_of f rows) items x v
  pub placed : (x : ℕ) → x < var_count f.procs → fiction_of s.fictitious x ≡ None → IsTrue (items (IsPlaced x))
  pub global :
      (x : ℕ) → x < var_count f.procs → has s.global x ≡ (items (IsPlaced x) && is_own f capturing x)
  pub compared : (q : ℕ) → IsTrue (has s.compared q) ↔ IsCompared (facts_of f rows) q
