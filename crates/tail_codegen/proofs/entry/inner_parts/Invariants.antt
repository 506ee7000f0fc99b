-- What is put, with what is left to put, is all of it.
use Rattle.std.proofs.Common.{◌≡◌, ◌++◌, length}
use Rattle.std.specs.Prelude.{map}
use Rattle.flat_form.specs.FlatWritten.{part}
use Rattle.tail_codegen.specs.Items.{Text}
use Rattle.tail_codegen.specs.Templates.{inner_parts}
use Rattle.tail_codegen.specs.Written.{unit}
use Rattle.tail_codegen.proofs.entry.inner_parts.Given as goal

abbrev pub invariant-loop-part : goal.invariant-loop-part
invariant-loop-part l =
    (rest : Text)
    → l.asm ++ inner_parts (unit l.unit) l.labels l.number (map part l.left) rest
    ≡ l.initial.asm ++ inner_parts (unit l.unit) l.initial.labels 1 (map part l.parts) rest

abbrev pub decreases-loop-part : goal.decreases-loop-part
decreases-loop-part l = length l.left
