use Rattle.flow_workers.proofs.Others.{Searches}
use Rattle.flow_workers.proofs.rule.has_other.Given as goal

abbrev pub invariant-loop-at : goal.invariant-loop-at
invariant-loop-at l = Searches l.c l.table l.initial.pass l.pass l.row l.atom l.at
