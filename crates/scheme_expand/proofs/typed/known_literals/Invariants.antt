use Rattle.std.proofs.Common.{length}
use Rattle.scheme_expand.specs.Laws.{AreBytes}
use Rattle.scheme_expand.proofs.typed.known_literals.Given as goal

-- where the characters of the literals that are left are bytes, those of all are
abbrev pub invariant-loop-lit : goal.invariant-loop-lit
invariant-loop-lit l = AreBytes l.rest → AreBytes l.fn.lits

abbrev pub decreases-loop-lit : goal.decreases-loop-lit
decreases-loop-lit l = length l.rest
