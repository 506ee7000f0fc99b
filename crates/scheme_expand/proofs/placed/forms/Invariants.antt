-- The first forms have numbers.
use Rattle.std.proofs.Common.{◌≡◌, ◌+◌, take}
use Rattle.scheme_expand.specs.Copied.{forms_from, AreAt}
use Rattle.scheme_expand.proofs.placed.forms.Given as goal

abbrev pub invariant-loop-id : goal.invariant-loop-id
invariant-loop-id l =
    record {
      count : l.form ≡ 1 + l.id-index;
      at : AreAt l.from.items (forms_from 1 (take l.id-index l.ids)) l.copies;
    }
