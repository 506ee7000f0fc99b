-- What a step of the source machine leaves as it is.
use Rattle.std.specs.Prelude.{◌≤◌, ◌≡◌, List, ◌++◌, length, map}
use Rattle.scheme_base.specs.Values.{Thing, Holding, Procedure, Blank}
use Rattle.core_form.specs.Source.{Proc, World}

-- what never changes of an object: how it came to be, and all of a procedure
abbrev pub outline : {P : Type 0} → Thing P → Thing P
outline (Holding o c) = Holding o Blank
outline (Procedure f) = Procedure f

-- Locations and objects only get more, and keep their numbers.
pub record Keeps {V : Type 0} (before after : World V) : Type 0 where
  pub locations : length before.locations ≤ length after.locations
  pub more : List (Thing (Proc V))
  pub things : map outline after.things ≡ map outline before.things ++ more
