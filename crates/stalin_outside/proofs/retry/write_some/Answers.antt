use Rattle.std.proofs.Common.{take}
use Rattle.stalin_outside.proofs.Interrupted.{keeps_then_appends}
use Rattle.stalin_outside.proofs.retry.write_some.Goals as goal

pub returns-in-Ok-clause-bytes : goal.returns-in-Ok-clause-bytes
returns-in-Ok-clause-bytes g c =
    keeps_then_appends (g.W.Write.contents c.args.writer.now) (g.W.Write.contents c.loop-turn.writer)
    (g.W.Write.contents c.write.new.self) (take c.in-Ok.count c.args.piece.now) c.loop-turn.invariant
    c.in-Ok.ensures.bytes
