use Rattle.std.proofs.Common.{◌≡◌, ◌+◌, ◌≤◌, length}
use Rattle.datum_reader.specs.Lexing.{lexed_at}
use Rattle.datum_reader.proofs.lexer.next_token.Given as goal

-- what is left has the same tokens
abbrev pub invariant-loop-spot : goal.invariant-loop-spot
invariant-loop-spot l =
    record {
      same : lexed_at l.spot ≡ lexed_at l.fn.start;
      shorter : length l.spot.rest.now ≤ length l.fn.start.rest.now;
      line : l.spot.pos.line + length l.spot.rest.now ≤ l.fn.start.pos.line + length l.fn.start.rest.now;
      col : l.spot.pos.col + length l.spot.rest.now ≤ l.fn.start.pos.col + length l.fn.start.rest.now;
    }

abbrev pub decreases-loop-spot : goal.decreases-loop-spot
decreases-loop-spot l = length l.spot.rest.now
