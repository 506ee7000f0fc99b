-- The first nodes have numbers.
use Rattle.std.proofs.Common.{take}
use Rattle.scheme_expand.specs.Copied.{all_in, Grows, AreAt}
use Rattle.scheme_expand.proofs.placed.wait_all.Given as goal

abbrev pub invariant-loop-id : goal.invariant-loop-id
invariant-loop-id l =
    record {
      grows : Grows l.initial.from.items l.from.items;
      at : AreAt l.from.items (all_in l.form (take l.id-index l.ids)) l.copies;
    }
