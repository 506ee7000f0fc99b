use Rattle.std.proofs.Common.{length}
use Rattle.box_name.proofs.Numbering.{Numbering}
use Rattle.box_name.proofs.namer.Namer.fix_vars.Given as goal

abbrev pub invariant-loop-var : goal.invariant-loop-var
invariant-loop-var l = Numbering l.fn.self l.self l.vars l.left l.bound

abbrev pub decreases-loop-var : goal.decreases-loop-var
decreases-loop-var l = length l.left
