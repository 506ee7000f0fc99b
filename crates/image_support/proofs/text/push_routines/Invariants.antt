use Rattle.std.proofs.Common.{◌≡◌, ◌++◌, drop}
use Rattle.image_support.specs.Text.{text_of}
use Rattle.image_support.proofs.text.push_routines.Given as goal

abbrev pub invariant-loop-routine : goal.invariant-loop-routine
invariant-loop-routine l = l.asm ++ text_of (drop l.routine-index l.routines) ≡ l.initial.asm ++ text_of l.routines
