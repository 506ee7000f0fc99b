-- What is put, with what is left to put, is all of it.
use Rattle.std.proofs.Common.{◌≡◌, ◌++◌, length}
use Rattle.tail_codegen.specs.Items.{Text}
use Rattle.tail_codegen.specs.Templates.{empty_closures}
use Rattle.tail_codegen.specs.Written.{unit}
use Rattle.tail_codegen.proofs.make.empty_closures.Given as goal

abbrev pub invariant-loop-one : goal.invariant-loop-one
invariant-loop-one l =
    (rest : Text)
    → l.asm ++ empty_closures (unit l.unit) l.closures l.places rest
    ≡ l.initial.asm ++ empty_closures (unit l.unit) l.made l.to rest

abbrev pub decreases-loop-one : goal.decreases-loop-one
decreases-loop-one l = length l.closures
