use Rattle.std.specs.Io.KnownBytes.{Keeps}
use Rattle.stalin_outside.proofs.retry.write_some.Given as goal

-- what a call put that was interrupted: nothing
abbrev pub invariant-loop-turn : goal.invariant-loop-turn
invariant-loop-turn g l = Keeps (g.W.Write.contents l.fn.writer) (g.W.Write.contents l.writer)
