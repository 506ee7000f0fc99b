use Rattle.flow_workers.proofs.Gifts.{GivesRow}
use Rattle.flow_workers.proofs.rule.give_row.Given as goal

abbrev pub invariant-loop-at : goal.invariant-loop-at
invariant-loop-at l = GivesRow l.c l.table l.initial.pass l.pass l.fn.rule l.at
