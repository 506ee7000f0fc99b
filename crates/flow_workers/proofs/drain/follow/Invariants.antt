use Rattle.flow_workers.specs.PassSteps.{Steps}
use Rattle.flow_workers.proofs.drain.follow.Given as goal

abbrev pub invariant-loop-part : goal.invariant-loop-part
invariant-loop-part l = Steps l.desk.c.now l.desk.table.now l.initial.pass l.pass
