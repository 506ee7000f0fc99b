use Rattle.std.specs.Prelude.{◌≤◌}
use Rattle.flow_workers.specs.Rounds.{GrewBetween}
use Rattle.flow_workers.proofs.settled.grown_among.Given as goal

abbrev pub invariant-loop-row : goal.invariant-loop-row
invariant-loop-row l = (l.first ≤ l.row) × GrewBetween l.c l.before l.after l.first l.row l.grown.items
