use Rattle.std.proofs.Common.{◌≡◌, ◌+◌, drop, map}
use Rattle.named_form.specs.Written.{procedure}
use Rattle.flow_constraints.specs.Census.{cut}
use Rattle.flow_constraints.specs.Counting.{Remembers, lambdas_count}
use Rattle.flow_constraints.proofs.tally.meet_lambdas.Given as goal

abbrev pub invariant-loop-proc : goal.invariant-loop-proc
invariant-loop-proc l =
    record {
      counted :
          cut (l.tally.rules + lambdas_count l.flow l.lits (map procedure (drop l.proc-index l.lambdas)))
          ≡ cut (l.initial.tally.rules + lambdas_count l.flow l.lits (map procedure l.lambdas));
      remembers : Remembers l.flow l.tally;
    }
