use Rattle.std.proofs.Common.{arith, rules}
use Rattle.type_table.proofs.StepsAreMoves.{split_allowed}
use Rattle.type_table.proofs.table.TypeTable.split.Goals as goal

pub split_seat-seat-requires : goal.split_seat-seat-requires
split_seat-seat-requires c =
    (search rules, omega (arith, c.self.invariant.words), split_allowed _ _ _ _ c.pass.invariant.live)
