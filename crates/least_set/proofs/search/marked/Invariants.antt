use Rattle.std.proofs.Common.{◌≡◌, ◌++◌, drop}
use Rattle.least_set.specs.Search.{trues}
use Rattle.least_set.proofs.search.marked.Given as goal

abbrev pub invariant-loop-at : goal.invariant-loop-at
invariant-loop-at l = l.numbers ++ trues l.at (drop l.at l.marks) ≡ trues 0 l.marks
