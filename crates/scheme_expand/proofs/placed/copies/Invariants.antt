-- The first in the list are copied.
use Rattle.scheme_expand.specs.Copied.{Grows, AreCopies}
use Rattle.scheme_expand.proofs.placed.copies.Given as goal

abbrev pub invariant-loop-turn : goal.invariant-loop-turn
invariant-loop-turn l =
    record {
      grows : Grows l.initial.from.items l.from.items;
      copies : AreCopies l.nodes l.from.items l.copies;
    }
