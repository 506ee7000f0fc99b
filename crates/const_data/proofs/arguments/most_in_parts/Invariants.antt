use Rattle.std.proofs.Common.{◌≡◌, length}
use Rattle.std.specs.Prelude.{map, max}
use Rattle.flat_form.specs.FlatWritten.{part}
use Rattle.const_data.specs.Words.{most_in_parts}
use Rattle.const_data.proofs.arguments.most_in_parts.Given as goal

abbrev pub invariant-loop-part : goal.invariant-loop-part
invariant-loop-part l = max l.most (most_in_parts (map part l.left)) ≡ most_in_parts (map part l.parts)

abbrev pub decreases-loop-part : goal.decreases-loop-part
decreases-loop-part l = length l.left
