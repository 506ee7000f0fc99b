use Rattle.std.specs.Prelude.{◌+◌, ◌*◌}
use Rattle.image_build.proofs.codes.+codes+fn-codes-join+arg2+fn-codes-join+arg3.Given as goal

-- the threads of the halves are fewer
abbrev pub decreases-join+arg2 : goal.decreases-join+arg2
decreases-join+arg2 g l = 2 * l.helpers + 1

abbrev pub decreases-join+arg3 : goal.decreases-join+arg3
decreases-join+arg3 g l = 2 * l.left + 1

abbrev pub decreases-codes : goal.decreases-codes
decreases-codes g l = 2 * l.workers
