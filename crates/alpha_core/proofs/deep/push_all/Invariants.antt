use Rattle.std.proofs.Common.{◌≡◌, ◌++◌, map, length}
use Rattle.alpha_core.proofs.Depths.{level}
use Rattle.alpha_core.proofs.deep.push_all.Given as goal

abbrev pub invariant-loop-expr : goal.invariant-loop-expr
invariant-loop-expr l =
    l.levels.items ++ map (level l.around) l.rest ≡ l.fn.levels.items ++ map (level l.around) l.fn.exprs

abbrev pub decreases-loop-expr : goal.decreases-loop-expr
decreases-loop-expr l = length l.rest
