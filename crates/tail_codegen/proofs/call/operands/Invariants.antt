-- What is put, with what is left to put, is all of it.
use Rattle.std.proofs.Common.{◌≡◌, ◌++◌, length}
use Rattle.tail_codegen.specs.Items.{Text}
use Rattle.tail_codegen.specs.Templates.{operands_from}
use Rattle.tail_codegen.specs.Written.{unit}
use Rattle.tail_codegen.proofs.call.operands.Given as goal

abbrev pub invariant-loop-place : goal.invariant-loop-place
invariant-loop-place l =
    (rest : Text)
    → l.asm ++ operands_from (unit l.unit) l.offset l.left rest ≡ l.initial.asm ++ operands_from (unit l.unit) 0 l.places rest

abbrev pub decreases-loop-place : goal.decreases-loop-place
decreases-loop-place l = length l.left
