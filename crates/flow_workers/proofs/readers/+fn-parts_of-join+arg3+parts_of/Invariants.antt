use Rattle.std.specs.Prelude.{◌+◌, ◌*◌}
use Rattle.flow_workers.proofs.readers.+fn-parts_of-join+arg3+parts_of.Given as goal

-- the other threads are fewer
abbrev pub decreases-join+arg3 : goal.decreases-join+arg3
decreases-join+arg3 g l = 2 * l.others + 1

abbrev pub decreases-parts_of : goal.decreases-parts_of
decreases-parts_of g l = 2 * l.threads
