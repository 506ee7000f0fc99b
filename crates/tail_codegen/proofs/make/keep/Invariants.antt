-- What is put, with what is left to put, is all of it.
use Rattle.std.proofs.Common.{◌≡◌, ◌++◌, length}
use Rattle.tail_codegen.specs.Items.{Text}
use Rattle.tail_codegen.specs.Templates.{keep}
use Rattle.tail_codegen.specs.Written.{unit}
use Rattle.tail_codegen.proofs.make.keep.Given as goal

abbrev pub invariant-loop-place : goal.invariant-loop-place
invariant-loop-place l =
    (rest : Text)
    → l.asm ++ keep (unit l.unit) l.left l.offset rest ≡ l.initial.asm ++ keep (unit l.unit) l.kept l.first rest

abbrev pub decreases-loop-place : goal.decreases-loop-place
decreases-loop-place l = length l.left
