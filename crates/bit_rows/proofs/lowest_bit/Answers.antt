use Rattle.std.proofs.Common.{arith}
use Rattle.bit_rows.proofs.Words.{none_from_zero, lowest_from_shifted}
use Rattle.bit_rows.proofs.lowest_bit.Goals as goal

pub returns-then-rest-eq0 : goal.returns-then-rest-eq0
returns-then-rest-eq0 c = none_from_zero _ _ c.if-rest-eq0.true

pub returns-else-rest-eq0 : goal.returns-else-rest-eq0
returns-else-rest-eq0 c = lowest_from_shifted _ _ c.ranges.word.fits c.requires (omega arith)
