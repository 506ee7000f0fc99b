use Rattle.std.proofs.Common.{◌≡◌, take}
use Rattle.prelude_text.specs.Closure.{marked_numbers}
use Rattle.prelude_text.proofs.closure.numbers_of.Given as goal

abbrev pub invariant-loop-at : goal.invariant-loop-at
invariant-loop-at l = l.ids ≡ marked_numbers 1 (take l.at l.fn.marked)
