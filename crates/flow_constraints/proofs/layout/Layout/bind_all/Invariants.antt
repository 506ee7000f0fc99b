use Rattle.std.proofs.Common.{◌≡◌, drop}
use Rattle.flow_constraints.specs.Layout.{bound_all}
use Rattle.flow_constraints.proofs.layout.Layout.bind_all.Given as goal

abbrev pub invariant-loop : goal.invariant-loop
invariant-loop l = bound_all (drop l.index l.vars) l.self ≡ bound_all l.vars l.initial.self
