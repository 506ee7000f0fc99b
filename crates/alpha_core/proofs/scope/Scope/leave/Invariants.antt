use Rattle.std.proofs.Common.{◌≡◌, ◌++◌, length}
use Rattle.core_form.specs.declared.program.Var.{Var}
use Rattle.core_form.specs.Source.{Scope as Seen}
use Rattle.alpha_core.specs.ScopesHeld.{Shows}
use Rattle.alpha_core.proofs.scope.Scope.leave.Given as goal

abbrev pub invariant-loop-self : goal.invariant-loop-self
invariant-loop-self l =
    (inner ρ : Seen Var) → Shows l.fn.self (inner ++ ρ) → length ρ ≡ l.fn.len
    → (left : Seen Var) × Shows l.self (left ++ ρ)

abbrev pub decreases-loop-self : goal.decreases-loop-self
decreases-loop-self l = length l.self.bindings.items
