use Rattle.std.specs.Io.KnownBytes.{Keeps}
use Rattle.stalin_outside.proofs.retry.read_some.Given as goal

-- what a call took that was interrupted: nothing
abbrev pub invariant-loop-turn : goal.invariant-loop-turn
invariant-loop-turn g l = Keeps (g.R.Read.remaining l.fn.reader) (g.R.Read.remaining l.reader)
