use Rattle.std.proofs.Common.{◌≡◌, drop}
use Rattle.callcc_conv.specs.Recording.{marked, marked_after}
use Rattle.callcc_conv.proofs.recording.marked.Given as goal

abbrev pub invariant-loop-number : goal.invariant-loop-number
invariant-loop-number l = marked_after l.marks.items (drop l.number-index l.numbers) ≡ marked l.many l.numbers
