use Rattle.std.proofs.Common.{◌≡◌, ◌++◌, ◌+◌, length}
use Rattle.core_form.specs.declared.program.Var.{Var}
use Rattle.core_form.specs.Source.{Scope, scope_with}
use Rattle.alpha_core.specs.Renaming.{locals}
use Rattle.alpha_core.specs.ScopesHeld.{Shows}
use Rattle.alpha_core.proofs.renamer.Renamer.bind_all.Given as goal

abbrev pub invariant-loop-var : goal.invariant-loop-var
invariant-loop-var l =
    (l.bound ++ locals l.self.next l.left ≡ locals l.fn.self.next l.fn.vars)
    × (l.self.next + length l.left ≡ l.fn.self.next + length l.fn.vars) × (l.self.exprs ≡ l.fn.self.exprs)
    × ((ρ : Scope Var) → Shows l.fn.self.scope ρ
    → (σ : Scope Var) × Shows l.self.scope σ × (scope_with l.left l.self.next σ ≡ scope_with l.fn.vars l.fn.self.next ρ))

abbrev pub decreases-loop-var : goal.decreases-loop-var
decreases-loop-var l = length l.left
