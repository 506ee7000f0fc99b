use Rattle.std.proofs.Common.{◌≡◌, false, take}
use Rattle.least_set.specs.Least.{has}
use Rattle.escape_facts.proofs.rows.has.Given as goal

abbrev pub invariant-loop-number : goal.invariant-loop-number
invariant-loop-number l = has (take l.number-index l.numbers) l.wanted ≡ false
