use Rattle.flow_workers.proofs.Resting.{RulesRest}
use Rattle.flow_workers.proofs.settled.block_rests.Given as goal

abbrev pub invariant-loop-index : goal.invariant-loop-index
invariant-loop-index l = RulesRest l.c l.grown l.block l.index
