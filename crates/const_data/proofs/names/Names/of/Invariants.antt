use Rattle.const_data.specs.Naming.{Knows}
use Rattle.const_data.proofs.names.Names.of.Given as goal

abbrev pub invariant-loop-lit : goal.invariant-loop-lit
invariant-loop-lit l = Knows l.first l.lit-items l.lit-index l.names
