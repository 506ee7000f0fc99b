use Rattle.std.proofs.Common.{◌≡◌, ◌++◌, drop}
use Rattle.std.specs.List.{flat_map}
use Rattle.callcc_conv.specs.Graph.{callee_links}
use Rattle.callcc_conv.proofs.graph.put_callees.Given as goal

abbrev pub invariant-loop-callee : goal.invariant-loop-callee
invariant-loop-callee l =
    l.links ++ flat_map (callee_links l.node) (drop l.callee-index l.callees)
    ≡ l.initial.links ++ flat_map (callee_links l.node) l.callees
