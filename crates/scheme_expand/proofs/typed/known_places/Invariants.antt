use Rattle.std.proofs.Common.{length}
use Rattle.scheme_expand.specs.Laws.{ArePlaced}
use Rattle.scheme_expand.proofs.typed.known_places.Given as goal

-- where the expressions that are left are placed, all are
abbrev pub invariant-loop-expr : goal.invariant-loop-expr
invariant-loop-expr l = ArePlaced l.rest → ArePlaced l.fn.exprs

abbrev pub decreases-loop-expr : goal.decreases-loop-expr
decreases-loop-expr l = length l.rest
