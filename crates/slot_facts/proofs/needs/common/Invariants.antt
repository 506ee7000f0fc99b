use Rattle.std.proofs.Common.{◌≡◌, ◌++◌, drop}
use Rattle.std.specs.List.{filter}
use Rattle.least_set.specs.Least.{has}
use Rattle.slot_facts.proofs.needs.common.Given as goal

abbrev pub invariant-loop-var : goal.invariant-loop-var
invariant-loop-var l =
    l.both ++ filter (has l.initial.wanted.items) (drop l.var-index l.variables) ≡ filter (has l.initial.wanted.items) l.variables
