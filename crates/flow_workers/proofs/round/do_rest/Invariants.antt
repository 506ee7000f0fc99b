use Rattle.flow_workers.proofs.Rests.{DoesBlocks}
use Rattle.flow_workers.proofs.round.do_rest.Given as goal

abbrev pub invariant-loop-block : goal.invariant-loop-block
invariant-loop-block g l = DoesBlocks l.table l.pass l.settled l.block
