use Rattle.std.proofs.Common.{◌≡◌, ◌++◌, drop, length, map}
use Rattle.named_form.specs.Written.{procedure}
use Rattle.callcc_conv.specs.Graph.{all_links, each_from, links_at}
use Rattle.callcc_conv.proofs.graph.links_of.Given as goal

abbrev pub invariant-loop-at : goal.invariant-loop-at
invariant-loop-at l =
    l.links ++ each_from (links_at (map procedure l.procs) l.flow l.rows (length l.procs)) l.at (drop l.at l.places)
    ≡ all_links (map procedure l.procs) l.flow l.rows (length l.procs) l.places
