use Rattle.std.proofs.Common.{◌≡◌, drop, map}
use Rattle.named_form.specs.Written.{procedure}
use Rattle.flow_constraints.specs.Census.{counted_lambdas}
use Rattle.flow_constraints.proofs.census.Census.procs.Given as goal

abbrev pub invariant-loop-proc : goal.invariant-loop-proc
invariant-loop-proc l =
    counted_lambdas (map procedure (drop l.proc-index l.lambdas)) l.census ≡ counted_lambdas (map procedure l.lambdas) l.initial.census
