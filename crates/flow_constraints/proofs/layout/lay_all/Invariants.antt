use Rattle.std.proofs.Common.{◌≡◌, drop, map}
use Rattle.named_form.specs.Written.{procedure}
use Rattle.flow_constraints.specs.Layout.{laid_lambdas}
use Rattle.flow_constraints.proofs.layout.lay_all.Given as goal

abbrev pub invariant-loop-proc : goal.invariant-loop-proc
invariant-loop-proc l =
    laid_lambdas (map procedure (drop l.proc-index l.lambdas)) l.layout ≡ laid_lambdas (map procedure l.lambdas) l.initial.layout
