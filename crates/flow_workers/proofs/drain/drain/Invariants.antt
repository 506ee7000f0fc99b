use Rattle.flow_workers.specs.PassSteps.{Steps}
use Rattle.flow_workers.proofs.drain.drain.Given as goal

abbrev pub invariant-loop : goal.invariant-loop
invariant-loop l = Steps l.c l.table l.initial.pass l.pass
