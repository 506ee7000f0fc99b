use Rattle.std.proofs.Common.{ap, ◌∙◌}
use Rattle.std.specs.Map.{lookup}
use Rattle.core_form.specs.Variables.{same_var}
use Rattle.alpha_core.specs.ScopesHeld.{flat}
use Rattle.alpha_core.proofs.scope.Scope.find.Goals as goal

pub returns-in-Some : goal.returns-in-Some
returns-in-Some c =
    λ ρ h. ap flat c.in-Some.ensures.value ∙ (h.innermost c.of.result ∙ ap (λ x. lookup (same_var x) ρ) c.of.ensures)
