-- Procedures that a continuation may capture, and the calls that leave a record of their frame.
use Rattle.std.specs.Prelude.{ℕ, ◌≡◌, ◌||◌, ◌&&◌, not, List, map, Bool, Some, IsTrue, slice_get}
use Rattle.std.specs.List.{filter, list_any}
use Rattle.flow_form.specs.declared.rows.Rows.{Rows}
use Rattle.least_set.specs.Least.{IsLeast, Set, has}
use Rattle.named_form.specs.Valid.{Form}
use Rattle.plan_facts.specs.declared.place.Place.{Place}
use Rattle.plan_facts.specs.Calls.{entered, is_call, is_callcc, is_reached, may_resume}
use Rattle.plan_facts.specs.Places.{Facts, facts_of, places_of}

-- the procedures that a call may enter
abbrev pub callees : Facts → Place → List ℕ
callees k p = entered k.procs k.flow k.rows p.action

-- a call that stands in a reached block
pub record IsReachedCall (k : Facts) (p : Place) : Type 0 where
  pub number : ℕ
  pub there : slice_get k.steps number ≡ Some p
  pub call : IsTrue (is_call p.action)
  pub reached : IsTrue (is_reached k.flow k.rows p.block)

-- A call is joined that captures a continuation, that may reach one or a procedure of the set, or that is a tail call
-- of one.
pub data Joined (k : Facts) (procs : Set ℕ) (p : Place) : Type 0 where
  Captures : IsTrue (is_callcc p.action) → Joined k procs p
  Resumes : IsTrue (may_resume k.flow k.rows p.action) → Joined k procs p
  Enters : (q : ℕ) → IsTrue (has (callees k p) q) → IsTrue (procs q) → Joined k procs p
  Follows : IsTrue p.tail → IsTrue (procs p.proc) → Joined k procs p

-- the set has each procedure in which a joined call stands, and each that a joined call may enter
pub record HasJoined (k : Facts) (procs : Set ℕ) : Type 0 where
  pub caller : (p : Place) → IsReachedCall k p → Joined k procs p → IsTrue (procs p.proc)
  pub callee :
      (p : Place) → IsReachedCall k p → Joined k procs p
      → (q : ℕ) → IsTrue (has (callees k p) q) → IsTrue (procs q)

-- the least such set
abbrev pub IsCapturing : Form → Rows → (procs : List ℕ) → Type 0
IsCapturing f rows procs = IsLeast (HasJoined (facts_of f rows)) (has procs)

-- a call is in record mode that is no tail call and may reach a continuation or a capturing procedure
abbrev pub in_record_mode : Facts → (procs : List ℕ) → Place → Bool
in_record_mode k procs p =
    not p.tail && (may_resume k.flow k.rows p.action || list_any (has procs) (callees k p))

-- the variables of the calls in record mode
abbrev pub recording : Form → Rows → (procs : List ℕ) → List ℕ
recording f rows procs = map (λ p. p.var) (filter (in_record_mode (facts_of f rows) procs) (places_of f))
