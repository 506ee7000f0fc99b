use Rattle.std.proofs.Common.{◌≡◌, ◌++◌, drop}
use Rattle.flow_constraints.specs.Layout.{closure_kinds}
use Rattle.flow_constraints.proofs.layout.push_closures.Given as goal

abbrev pub invariant-loop : goal.invariant-loop
invariant-loop l =
    l.kinds ++ closure_kinds l.proc (drop l.index l.entries) ≡ l.initial.kinds ++ closure_kinds 1 l.entries
