use Rattle.type_table.specs.Tables.{IsOf}
use Rattle.flow_workers.proofs.round.draw_all.Given as goal

abbrev pub invariant-loop : goal.invariant-loop
invariant-loop g l = IsOf l.pass l.table
