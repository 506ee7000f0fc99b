use Rattle.std.proofs.Common.{◌≡◌, false, take}
use Rattle.std.specs.List.{list_any}
use Rattle.callcc_conv.specs.Recording.{is_marked}
use Rattle.callcc_conv.proofs.recording.any_marked.Given as goal

abbrev pub invariant-loop-number : goal.invariant-loop-number
invariant-loop-number l = list_any (is_marked l.marks) (take l.number-index l.numbers) ≡ false
