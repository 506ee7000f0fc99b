-- Open storage: how many bytes of the heap a state of a flat program holds.
--
-- A frame has a return address, a link, and its slots. Local objects end with the activation that makes them,
-- global ones stay. A return point in a record has no frame of its own; records stay.
use Rattle.std.specs.Prelude.{ℕ, ◌+◌, ◌*◌, List, ◌∷◌, length, map, nat_eq, slice_get, Option, Some, None, Bool, true, if◌then◌else◌}
use Rattle.std.specs.List.{list_any, sum_by}
use Rattle.scheme_base.specs.declared.place.Mark.{Mark}
use Rattle.scheme_base.specs.declared.place.Mark.TheVariants as mark
use Rattle.scheme_base.specs.Values.{Content, Pair, String, Vector, Symbol, Blank, Thing, Holding, Procedure}
use Rattle.flat_form.specs.FlatCode.{Program}
use Rattle.flat_form.specs.FlatCode as flat
use Rattle.flat_form.specs.FlatRun.{Point, Callee, Closes, Continues, Maker, Entry, Boxed, State}

abbrev pub slots_of : Option flat.Procedure → ℕ
slots_of None = 0
slots_of (Some p) = p.slots

abbrev pub frame_bytes : Program → (proc : ℕ) → ℕ
frame_bytes p q = 8 * (2 + slots_of (slice_get p.procs q))

-- Objects, with a header where they have one

abbrev pub content_bytes : Content → ℕ
content_bytes (Pair a d) = 16
content_bytes (String chars) = 8 * (1 + length chars)
content_bytes (Vector items) = 8 * (1 + length items)
content_bytes (Symbol name) = 16
content_bytes Blank = 0

abbrev pub thing_bytes : Thing Callee → ℕ
thing_bytes (Holding o c) = content_bytes c
thing_bytes (Procedure (Closes q kept)) = 8 * (1 + length kept)
thing_bytes (Procedure (Continues points)) = 16

abbrev pub box_bytes : ℕ
box_bytes = 8

-- What is held

-- the activations that have not ended: the one that runs, and those of the continuation
abbrev pub live : State → List ℕ
live s = s.now.frame.number ∷ map (λ p. p.frame.number) s.now.points

abbrev pub held_as : Mark → (live : List ℕ) → (activation : ℕ) → Bool
held_as mark.Local ns n = list_any (nat_eq n) ns
held_as mark.Global ns n = true

abbrev pub is_held : (live : List ℕ) → Maker → Bool
is_held ns m = held_as m.mark ns m.activation

-- literals and the one closure of each procedure take none
abbrev pub entry_bytes : (live : List ℕ) → Entry → ℕ
entry_bytes ns e = by_maker e.maker
  where
    by_maker : Option Maker → ℕ
    by_maker None = 0
    by_maker (Some m) = if is_held ns m then thing_bytes e.thing else 0

abbrev pub boxed_bytes : (live : List ℕ) → Boxed → ℕ
boxed_bytes ns b = if is_held ns b.maker then box_bytes else 0

-- the frame of a return point, where it is in no record
abbrev pub point_bytes : Program → Point → ℕ
point_bytes p point = if point.recorded then 0 else frame_bytes p point.frame.proc

abbrev pub record_bytes : Program → Point → ℕ
record_bytes p point = frame_bytes p point.frame.proc

-- the bytes that a state holds: the frames of the running activation and of the continuation's return
-- points, the objects and boxes that are held, and all records ever made
abbrev pub open_bytes : Program → State → ℕ
open_bytes p s =
    frame_bytes p s.now.frame.proc
    + sum_by (point_bytes p) s.now.points
    + sum_by (entry_bytes (live s)) s.world.entries
    + sum_by (boxed_bytes (live s)) s.world.boxes
    + sum_by (record_bytes p) s.world.records
