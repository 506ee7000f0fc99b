use Rattle.std.proofs.Common.{◌≡◌, ◌++◌, length}
use Rattle.flow_constraints.specs.Table.{fix_rules}
use Rattle.flow_constraints.proofs.steps.put_fix.Given as goal

abbrev pub invariant-loop-var : goal.invariant-loop-var
invariant-loop-var l =
    l.rules ++ fix_rules l.flow l.guard l.vars l.procs
    ≡ l.initial.rules ++ fix_rules l.flow l.guard l.initial.vars l.initial.procs

abbrev pub decreases-loop-var : goal.decreases-loop-var
decreases-loop-var l = length l.vars
