-- What is put, with what is left to put, is all of it; so it is with the labels.
use Rattle.std.proofs.Common.{◌≡◌, ◌+◌, ◌++◌, true}
use Rattle.flat_form.specs.FlatWritten.{code}
use Rattle.tail_codegen.specs.Items.{Text}
use Rattle.tail_codegen.specs.Templates.{block, labels_in}
use Rattle.tail_codegen.specs.Written.{end_of, unit}
use Rattle.tail_codegen.proofs.Linked.{left}
use Rattle.tail_codegen.proofs.block.+code.Given as goal

abbrev pub invariant-block-loop-step : goal.invariant-block-loop-step
invariant-block-loop-step l =
    ((rest : Text)
    → l.asm ++ block (unit l.unit) l.labels l.open (left l.step-items l.step-index l.block) (end_of l.end) rest
    ≡ l.initial.asm ++ block (unit l.unit) l.initial.labels true (code l.block) (end_of l.end) rest)
    × (l.labels + labels_in (left l.step-items l.step-index l.block) ≡ l.initial.labels + labels_in (code l.block))
