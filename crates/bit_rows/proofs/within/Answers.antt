use Rattle.std.proofs.Common.{sym, ◌∙◌}
use Rattle.bit_rows.proofs.Members.{part_of_subset}
use Rattle.bit_rows.proofs.within.Goals as goal

pub returns-then-not-is_part : goal.returns-then-not-is_part
returns-then-not-is_part c = (
  (λ h. cc),
  (λ h.
      let part = c.is_part.ensures.1 (λ bit below set. part_of_subset _ _ h c.loop-at.at bit below set) in
      sym c.if-not-is_part.true ∙ part),
)
