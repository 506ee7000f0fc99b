use Rattle.std.proofs.Common.{length}
use Rattle.box_name.proofs.Numbering.{Taking}
use Rattle.box_name.proofs.namer.Namer.param_vars.Given as goal

abbrev pub invariant-loop-others : goal.invariant-loop-others
invariant-loop-others l = Taking l.fn.self l.self (length l.params) (length l.left) l.vars

abbrev pub decreases-loop-others : goal.decreases-loop-others
decreases-loop-others l = length l.left
