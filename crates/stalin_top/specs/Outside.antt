-- What a command changes outside: what its shelf and its console tell.
use Rattle.std.specs.Prelude.{ℕ, List, Option, Some, None}
use Rattle.stalin_outside.specs.Console.{Told}
use Rattle.stalin_outside.specs.Shelf.{Files}
use Rattle.stalin_outside.specs.declared.shelf.Ask.{Ask}

pub record Outside : Type 0 where
  -- the bytes of each file, where the shelf tells them
  pub files : Option Files
  -- the files that were asked for, the newest first
  pub asks : List Ask
  -- how many calls of the shelf have failed, at least
  pub faults : ℕ
  pub console : Told

abbrev pub outside : Option Files → List Ask → (faults : ℕ) → Told → Outside
outside files asks faults console = record { files = files; asks = asks; faults = faults; console = console }

-- what is so of files, where they are told
abbrev pub IfTold : Option Files → (Files → Type 0) → Type 0
IfTold None P = Unit {0}
IfTold (Some files) P = P files
