-- What a step of the named machine leaves as it is.
use Rattle.std.specs.Prelude.{◌≤◌, ◌≡◌, List, ◌++◌, map}
use Rattle.scheme_base.specs.Values.{Thing, Holding, Procedure, Blank}
use Rattle.named_form.specs.NamedRun.{Callee, Maker, Entry, Boxed, Point, World, State}

abbrev pub outline : Thing Callee → Thing Callee
outline (Holding o c) = Holding o Blank
outline (Procedure f) = Procedure f

-- what never changes of an object: who made it, how it came to be, and all of a closure or a continuation
abbrev pub lasting : Entry → Entry
lasting e = record { thing = outline e.thing; maker = e.maker }

abbrev pub maker_of : Boxed → Maker
maker_of b = b.maker

-- Objects, boxes, return points and activations only get more, and keep their numbers.
pub record Keeps (before after : World) : Type 0 where
  pub more : List Entry
  pub entries : map lasting after.entries ≡ map lasting before.entries ++ more
  pub more_boxes : List Maker
  pub boxes : map maker_of after.boxes ≡ map maker_of before.boxes ++ more_boxes
  pub more_points : List Point
  pub points : after.points ≡ before.points ++ more_points
  pub started : before.started ≤ after.started

-- A state holds what another does, channels aside.
pub record HoldsAsMuch (before after : State) : Type 0 where
  pub now : after.now ≡ before.now
  pub entries : after.world.entries ≡ before.world.entries
  pub boxes : after.world.boxes ≡ before.world.boxes
  pub points : after.world.points ≡ before.world.points
  pub started : after.world.started ≡ before.world.started
  pub tops : after.world.tops ≡ before.world.tops
