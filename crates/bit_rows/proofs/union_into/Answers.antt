use Rattle.std.proofs.Common.{arith}
use Rattle.bit_rows.proofs.Members.{union_members}
use Rattle.bit_rows.proofs.union_into.Goals as goal

pub returns : goal.returns
returns c =
    union_members _ _ _ c.requires (λ k below. c.loop-at.invariant.0 k (omega arith)) (λ k past. c.loop-at.invariant.1 k (omega arith))
