use Rattle.std.proofs.Common.{◌≡◌, ◌++◌, drop, map}
use Rattle.named_form.specs.Written.{procedure}
use Rattle.flow_constraints.specs.Walk.{counts, put_lambdas}
use Rattle.flow_constraints.proofs.steps.put_all.Given as goal

abbrev pub invariant-loop-proc : goal.invariant-loop-proc
invariant-loop-proc l =
    l.rules ++ put_lambdas l.flow l.lits (counts l.before) (map procedure (drop l.proc-index l.lambdas))
    ≡ l.initial.rules ++ put_lambdas l.flow l.lits (counts l.initial.before) (map procedure l.lambdas)
