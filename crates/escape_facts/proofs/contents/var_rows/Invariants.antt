use Rattle.std.proofs.Common.{◌≡◌, ◌++◌, drop, map}
use Rattle.flow_constraints.specs.Rows.{row, Var}
use Rattle.escape_facts.proofs.contents.var_rows.Given as goal

abbrev pub invariant-loop-var : goal.invariant-loop-var
invariant-loop-var l = l.rows ++ map (λ x. row l.flow (Var x)) (drop l.var-index l.vars) ≡ map (λ x. row l.flow (Var x)) l.vars
