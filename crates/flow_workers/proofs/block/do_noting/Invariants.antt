use Rattle.flow_workers.proofs.Blocks.{DoesRules}
use Rattle.flow_workers.proofs.block.do_noting.Given as goal

abbrev pub invariant-loop-index : goal.invariant-loop-index
invariant-loop-index g l = DoesRules l.c l.table l.initial.pass l.pass l.first l.index
