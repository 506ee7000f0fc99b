use Rattle.flow_workers.specs.PassSteps.{Steps}
use Rattle.flow_workers.proofs.drain.follow_words.Given as goal

abbrev pub invariant-loop-at : goal.invariant-loop-at
invariant-loop-at l = Steps l.desk.c.now l.desk.table.now l.initial.pass l.pass
