use Rattle.std.specs.Prelude.{◌≤◌}
use Rattle.flow_workers.specs.Rounds.{AreRests}
use Rattle.flow_workers.proofs.settled.settled_among.Given as goal

abbrev pub invariant-loop-block : goal.invariant-loop-block
invariant-loop-block l = (l.first ≤ l.block) × AreRests l.c l.grown l.first l.block l.settled.items
