use Rattle.flow_workers.specs.PassSteps.{Steps}
use Rattle.flow_workers.proofs.drain.begin.Given as goal

abbrev pub invariant-loop-run : goal.invariant-loop-run
invariant-loop-run l = Steps l.desk.c.now l.desk.table.now l.initial.pass l.pass
