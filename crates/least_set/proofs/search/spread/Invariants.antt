use Rattle.std.proofs.Common.{◌≡◌, ◌-◌}
use Rattle.std.specs.Prelude.{vec_len}
use Rattle.least_set.specs.Search.{Tells}
use Rattle.least_set.proofs.Spreading.{Reaches}
use Rattle.least_set.proofs.search.spread.Given as goal

abbrev pub invariant-loop-at : goal.invariant-loop-at
invariant-loop-at g l =
    record {
      size : vec_len l.marks ≡ vec_len l.initial.marks;
      tells : Tells l.marks.items l.found;
      reaches : Reaches (g.G.Graph.leads l.graph) l.at l.initial.found l.found;
    }

abbrev pub decreases-loop-at : goal.decreases-loop-at
decreases-loop-at g l = vec_len l.marks - l.at
