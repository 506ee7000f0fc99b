use Rattle.std.specs.Prelude.{◌+◌, ◌*◌}
use Rattle.flow_workers.proofs.settled.+fn-settled_between-join+arg2+fn-settled_between-join+arg3+settled_between.Given as goal

-- the threads of the halves are fewer
abbrev pub decreases-join+arg2 : goal.decreases-join+arg2
decreases-join+arg2 g l = 2 * l.half + 1

abbrev pub decreases-join+arg3 : goal.decreases-join+arg3
decreases-join+arg3 g l = 2 * l.others + 1

abbrev pub decreases-settled_between : goal.decreases-settled_between
decreases-settled_between g l = 2 * l.threads
