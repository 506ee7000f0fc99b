use Rattle.flow_workers.specs.PassSteps.{Steps}
use Rattle.flow_workers.proofs.drain.follow_atoms.Given as goal

abbrev pub invariant-loop : goal.invariant-loop
invariant-loop l = Steps l.desk.c.now l.desk.table.now l.initial.pass l.pass
