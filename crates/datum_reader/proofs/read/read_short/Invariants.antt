use Rattle.std.proofs.Common.{◌+◌, ◌≤◌, length}
use Rattle.datum_form.specs.Text.{lexed}
use Rattle.datum_reader.proofs.AnswerFollows.{Pending}
use Rattle.datum_reader.proofs.read.read_short.Given as goal

-- what is left ends as the text does, and no place is past its bytes
abbrev pub invariant-loop-next : goal.invariant-loop-next
invariant-loop-next l =
    record {
      pending : Pending (lexed l.fn.text) l.reading l.spot;
      line : l.spot.pos.line + length l.spot.rest.now ≤ length l.fn.text + 1;
      col : l.spot.pos.col + length l.spot.rest.now ≤ length l.fn.text + 1;
    }

abbrev pub decreases-loop-next : goal.decreases-loop-next
decreases-loop-next l = length l.spot.rest.now
