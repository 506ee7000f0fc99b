use Rattle.std.proofs.Common.{◌≡◌, ◌++◌, drop}
use Rattle.callcc_conv.specs.Graph.{all_starts, each_from, starts_at}
use Rattle.callcc_conv.proofs.graph.starts_of.Given as goal

abbrev pub invariant-loop-at : goal.invariant-loop-at
invariant-loop-at l =
    l.starts ++ each_from (starts_at l.flow l.rows l.procs) l.at (drop l.at l.places) ≡ all_starts l.flow l.rows l.procs l.places
