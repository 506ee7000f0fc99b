-- Open storage: how many bytes of the heap a state of a run holds under a plan.
--
-- A frame has a return address, a link, the closure, and a slot for each parameter and variable of its
-- procedure that needs one. Local objects end with the activation that makes them, global ones stay. A return
-- point of a call in record mode has its frame in a record, which stays, and no frame of its own.
use Rattle.std.specs.Prelude.{ℕ, suc, ◌+◌, ◌*◌, nat_eq, ◌&&◌, ◌||◌, List, [], ◌∷◌, length, map, slice_get, Option, Some, None, Bool, true, false, not, if◌then◌else◌}
use Rattle.std.specs.List.{list_any, filter, sum_by}
use Rattle.scheme_base.specs.declared.place.Mark.{Mark}
use Rattle.scheme_base.specs.declared.place.Mark.TheVariants as mark
use Rattle.scheme_base.specs.Operations.{item_or}
use Rattle.scheme_base.specs.Values.{Content, Pair, String, Vector, Symbol, Blank, Thing, Holding, Procedure}
use Rattle.named_form.specs.declared.plan.Plan.{Plan}
use Rattle.named_form.specs.Code.{Program, Lambda, has}
use Rattle.named_form.specs.NamedRun.{Point, Callee, Closes, Continues, Maker, Entry, Boxed, State}

-- What a plan says

abbrev pub captures : Plan → (proc : ℕ) → Bool
captures plan q = has plan.capturing.procs q

-- whether the call that binds this variable is in record mode, where it is no tail call
abbrev pub records : Plan → (var : ℕ) → Bool
records plan x = has plan.capturing.recording x

abbrev pub is_fictitious : Plan → (var : ℕ) → Bool
is_fictitious plan x = list_any (λ f. nat_eq x f.var) plan.slots.fictitious

abbrev pub is_global : Plan → (var : ℕ) → Bool
is_global plan x = has plan.slots.global x

abbrev pub keeps : Plan → (proc : ℕ) → List ℕ
keeps plan q = item_or [] (slice_get plan.slots.kept q)

abbrev pub is_compared : Plan → (proc : ℕ) → Bool
is_compared plan q = has plan.slots.compared q

abbrev pub is_empty : List ℕ → Bool
is_empty [] = true
is_empty (x ∷ xs) = false

-- a procedure has one closure, which is no object of the heap, where it keeps nothing and is not compared
abbrev pub is_static : Plan → (proc : ℕ) → Bool
is_static plan q = is_empty (keeps plan q) && not (is_compared plan q)

abbrev pub mark_of : Plan → (site : ℕ) → Mark
mark_of plan site = item_or mark.Global (slice_get plan.marks site)

-- Frames

abbrev pub bound : Option Lambda → List ℕ
bound None = []
bound (Some p) = p.bound

-- the variables of a procedure that have slots in its frames
abbrev pub frame_vars : Plan → Program → (proc : ℕ) → List ℕ
frame_vars plan p q = filter (λ x. not (is_fictitious plan x || is_global plan x)) (bound (slice_get p.procs q))

-- how many words a frame has beside its return address and its link: the closure and the slots
abbrev pub frame_slots : Plan → Program → (proc : ℕ) → ℕ
frame_slots plan p q = suc (length (frame_vars plan p q))

abbrev pub frame_bytes : Plan → Program → (proc : ℕ) → ℕ
frame_bytes plan p q = 8 * (2 + frame_slots plan p q)

-- Objects, with a header where they have one

abbrev pub content_bytes : Content → ℕ
content_bytes (Pair a d) = 16
content_bytes (String chars) = 8 * (1 + length chars)
content_bytes (Vector items) = 8 * (1 + length items)
content_bytes (Symbol name) = 16
content_bytes Blank = 0

abbrev pub thing_bytes : Plan → Thing Callee → ℕ
thing_bytes plan (Holding o c) = content_bytes c
thing_bytes plan (Procedure (Closes q kept)) =
    if is_static plan q then 0 else 8 * (1 + length (keeps plan q))
thing_bytes plan (Procedure (Continues points)) = 16

abbrev pub box_bytes : ℕ
box_bytes = 8

-- What is held

-- the activations that have not ended: the one that runs, and those of the continuation
abbrev pub live : State → List ℕ
live s = s.now.activation.number ∷ map (λ p. p.activation.number) s.now.points

abbrev pub held_as : Mark → (live : List ℕ) → (activation : ℕ) → Bool
held_as mark.Local ns n = has ns n
held_as mark.Global ns n = true

-- whether what this maker made takes storage still
abbrev pub is_held : Plan → (live : List ℕ) → Maker → Bool
is_held plan ns m = held_as (mark_of plan m.site) ns m.activation

-- literals take none
abbrev pub entry_bytes : Plan → (live : List ℕ) → Entry → ℕ
entry_bytes plan ns e = by_maker e.maker
  where
    by_maker : Option Maker → ℕ
    by_maker None = 0
    by_maker (Some m) = if is_held plan ns m then thing_bytes plan e.thing else 0

abbrev pub boxed_bytes : Plan → (live : List ℕ) → Boxed → ℕ
boxed_bytes plan ns b = if is_held plan ns b.maker then box_bytes else 0

-- the frame of a return point, or its record
abbrev pub point_bytes : Plan → Program → (recorded : Bool) → Point → ℕ
point_bytes plan p true point = if records plan point.var then frame_bytes plan p point.activation.proc else 0
point_bytes plan p false point = if records plan point.var then 0 else frame_bytes plan p point.activation.proc

-- the bytes that a state holds: the frames of the running activation and of the continuation's return
-- points, the objects and boxes that are held, and all records ever made
abbrev pub open_bytes : Plan → Program → State → ℕ
open_bytes plan p s =
    frame_bytes plan p s.now.activation.proc
    + sum_by (point_bytes plan p false) s.now.points
    + sum_by (entry_bytes plan (live s)) s.world.entries
    + sum_by (boxed_bytes plan (live s)) s.world.boxes
    + sum_by (point_bytes plan p true) s.world.points
