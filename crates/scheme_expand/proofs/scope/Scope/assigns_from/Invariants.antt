use Rattle.std.proofs.Common.{◌≡◌, false, take}
use Rattle.std.specs.List.{list_any}
use Rattle.scheme_expand.proofs.scope.Scope.assigns_from.Given as goal

-- none so far is assigned
abbrev pub invariant-loop-variable : goal.invariant-loop-variable
invariant-loop-variable l = list_any (λ b. b.assigned) (take l.variable-index l.bound) ≡ false
