-- Runs in a heap of some size: the same runs, but a run stops where it would hold more than the heap.
--
-- Such a run is one of a machine too, so that `SameRuns` compares it with an image in a heap of that size:
-- they show the same, and end alike, a stop for storage among the endings.
use Rattle.std.specs.Prelude.{ℕ, ◌<◌, ◌≤◌, ◌≡◌, List, Option, Some, None, Bool, true, false, nat_le}
use Rattle.scheme_base.specs.Outside.{Event, Ending}
use Rattle.scheme_base.specs.Runs.{Machine, after, HasEnded}

-- a machine whose states hold a number of bytes, and the heap that it has for them
pub record Confined (S : Type 0) : Type 0 where
  pub machine : Machine S
  pub bytes : S → ℕ
  -- the heap's size in bytes
  pub heap : ℕ
  -- the ending of a run that wants more than the heap
  pub full : Ending

pub data InHeap (S : Type 0) : Type 0 where
  Fits : S → InHeap S
  -- the run has stopped for want of storage, at the first state that holds more than the heap
  Full : S → InHeap S

-- A state that has ended stands as it is, whatever it holds.
abbrev pub looked_at : {S : Type 0} → Option Ending → (fits : Bool) → S → InHeap S
looked_at (Some e) fits s = Fits s
looked_at None true s = Fits s
looked_at None false s = Full s

-- storage is looked at where a run begins and after each step
abbrev pub look : {S : Type 0} → Confined S → S → InHeap S
look c s = looked_at (c.machine.ending s) (nat_le (c.bytes s) c.heap) s

abbrev pub step_in : {S : Type 0} → Confined S → InHeap S → InHeap S
step_in c (Fits s) = look c (c.machine.step s)
step_in c (Full s) = Full s

abbrev pub trace_in : {S : Type 0} → Confined S → InHeap S → List Event
trace_in c (Fits s) = c.machine.trace s
trace_in c (Full s) = c.machine.trace s

abbrev pub ending_in : {S : Type 0} → Confined S → InHeap S → Option Ending
ending_in c (Fits s) = c.machine.ending s
ending_in c (Full s) = Some c.full

abbrev pub in_heap : {S : Type 0} → Confined S → Machine (InHeap S)
in_heap c = record { step = step_in c; trace = trace_in c; ending = ending_in c }

-- What such runs are to the machine without a heap

-- a state has ended, or holds no more than the heap
abbrev pub HasRoom : {S : Type 0} → Confined S → S → Type 0
HasRoom c s = c.machine.ending s ≡ None → c.bytes s ≤ c.heap

abbrev pub AlwaysHasRoom : {S : Type 0} → Confined S → S → Type 0
AlwaysHasRoom c s = (n : ℕ) → HasRoom c (after c.machine n s)

-- the state after n steps is the first that has no room
pub record RunsOut {S : Type 0} (c : Confined S) (s : S) (n : ℕ) : Type 0 where
  pub room : (k : ℕ) → k < n → HasRoom c (after c.machine k s)
  pub goes : c.machine.ending (after c.machine n s) ≡ None
  pub wants : c.heap < c.bytes (after c.machine n s)

-- a run stops for storage with all that the first n steps of another have shown, and with nothing else
pub record StopsFull {S T : Type 0} (c : Confined S) (other : Machine T) (s : S) (t : T) (n : ℕ) : Type 0 where
  pub shows : (k : ℕ) → k ≤ n → (m : ℕ) × (other.trace (after other m t) ≡ c.machine.trace (after c.machine k s))
  pub shown : (m : ℕ) → (k : ℕ) × (k ≤ n) × (c.machine.trace (after c.machine k s) ≡ other.trace (after other m t))
  pub stops : (m : ℕ) × HasEnded other (after other m t) c.full (c.machine.trace (after c.machine n s))
  pub only : (m : ℕ) (e : Ending) → other.ending (after other m t) ≡ Some e → e ≡ c.full

-- Two machines go in step: after each number of steps they look the same, and hold as many bytes. They
-- have heaps of one size, and stop alike for storage.
pub record InStep {S T : Type 0} (one : Confined S) (other : Confined T) (s : S) (t : T) : Type 0 where
  pub trace : (n : ℕ) → other.machine.trace (after other.machine n t) ≡ one.machine.trace (after one.machine n s)
  pub ending : (n : ℕ) → other.machine.ending (after other.machine n t) ≡ one.machine.ending (after one.machine n s)
  pub bytes : (n : ℕ) → other.bytes (after other.machine n t) ≡ one.bytes (after one.machine n s)
  pub heap : other.heap ≡ one.heap
  pub full : other.full ≡ one.full
