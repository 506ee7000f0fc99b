use Rattle.std.proofs.lemmas.Bool.{eqb-true, eq-eqb}
use Rattle.bit_rows.proofs.Words.{part_from_zero, zero_from_part}
use Rattle.bit_rows.proofs.is_part.Goals as goal

pub returns : goal.returns
returns c = (
  (λ t. part_from_zero _ _ c.ranges.b.fits (eqb-true _ _ t)),
  (λ h. eq-eqb _ _ (zero_from_part _ _ c.ranges.a.fits c.ranges.b.fits h)),
)
