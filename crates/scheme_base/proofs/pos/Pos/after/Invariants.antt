use Rattle.std.proofs.Common.{◌≡◌, ◌+◌, ◌≤◌, length}
use Rattle.scheme_base.specs.Positions.{position_after}
use Rattle.scheme_base.proofs.pos.Pos.after.Given as goal

-- what is left goes on to the same position
abbrev pub invariant-loop-first : goal.invariant-loop-first
invariant-loop-first l =
    record {
      same : position_after l.pos l.rest ≡ position_after l.fn.self l.fn.text;
      line : l.pos.line + length l.rest ≤ l.fn.self.line + length l.fn.text;
      col : l.pos.col + length l.rest ≤ l.fn.self.col + length l.fn.text;
    }

abbrev pub decreases-loop-first : goal.decreases-loop-first
decreases-loop-first l = length l.rest
