use Rattle.std.specs.Prelude.{◌+◌, ◌*◌}
use Rattle.flow_workers.proofs.round.+fn-run-join+arg3+run.Given as goal

-- the other workers are fewer
abbrev pub decreases-join+arg3 : goal.decreases-join+arg3
decreases-join+arg3 g l = 2 * l.others + 1

abbrev pub decreases-run : goal.decreases-run
decreases-run g l = 2 * l.workers
