-- What is put, with what is left to put, is all of it.
use Rattle.std.proofs.Common.{◌≡◌, ◌++◌, length}
use Rattle.tail_codegen.specs.Items.{Text}
use Rattle.tail_codegen.specs.Templates.{take_items}
use Rattle.tail_codegen.specs.Written.{unit}
use Rattle.tail_codegen.proofs.entry.take_items.Given as goal

abbrev pub invariant-loop-place : goal.invariant-loop-place
invariant-loop-place l =
    (rest : Text)
    → l.asm ++ take_items (unit l.unit) l.left rest ≡ l.initial.asm ++ take_items (unit l.unit) l.params rest

abbrev pub decreases-loop-place : goal.decreases-loop-place
decreases-loop-place l = length l.left
