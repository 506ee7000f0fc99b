use Rattle.std.proofs.Common.{take}
use Rattle.stalin_outside.proofs.Interrupted.{keeps_then_consumes}
use Rattle.stalin_outside.proofs.retry.read_some.Goals as goal

pub returns-in-Ok-clause-bytes : goal.returns-in-Ok-clause-bytes
returns-in-Ok-clause-bytes g c = (
  keeps_then_consumes (g.R.Read.remaining c.args.reader.now) (g.R.Read.remaining c.loop-turn.reader)
      (g.R.Read.remaining c.read.new.self) (take c.in-Ok.count c.read.new.buf) c.loop-turn.invariant
      c.in-Ok.ensures.bytes.0,
  c.in-Ok.ensures.bytes.1,
)
