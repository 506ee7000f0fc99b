use Rattle.std.specs.Prelude.{◌+◌, ◌-◌, ◌*◌}
use Rattle.flow_form.specs.Shape.{size_of}
use Rattle.flow_workers.specs.Rounds.{Reaches}
use Rattle.flow_workers.proofs.rounds.solve.Given as goal

abbrev pub invariant-loop-reached : goal.invariant-loop-reached
invariant-loop-reached g l = Reaches l.c l.reached.closed l.reached.grown.items

-- each round before the last adds a pair
abbrev pub decreases-loop-reached : goal.decreases-loop-reached
decreases-loop-reached g l = 64 * size_of l.c + 2 - l.reached.closed.rounds
