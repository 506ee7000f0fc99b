-- How a scope is held: what is bound so far, and the innermost number of each name.
use Rattle.std.specs.Prelude.{ℕ, ◌≡◌, List, [], ◌∷◌, map, reverse, Option, None, Some}
use Rattle.std.specs.Map.{lookup}
use Rattle.indexmap.specs.IndexMap.{get}
use Rattle.core_form.specs.declared.program.Var.{Var}
use Rattle.core_form.specs.Source.{Scope}
use Rattle.core_form.specs.Variables.{same_var}
use Rattle.alpha_core.specs.declared.name.Name.{Name}
use Rattle.alpha_core.specs.Names.{var_of, same_name}
use Rattle.alpha_core.specs.declared.scope.Binding.{Binding}
use Rattle.alpha_core.specs.declared.scope.Scope.{Scope as Held}

-- the variables that are seen, the innermost first
abbrev pub seen : List Binding → Scope Var
seen bs = map (λ b. (b.var.now, b.number)) (reverse bs)

-- what each variable's name is bound to outside of its own binding
abbrev pub outers : Scope Var → List (Option ℕ)
outers [] = []
outers (b ∷ ρ) = lookup (same_var b.0) ρ ∷ outers ρ

abbrev pub flat : Option (Option ℕ) → Option ℕ
flat None = None
flat (Some n) = n

-- these variables are seen in the scope that is held
pub record Shows (s : Held) (ρ : Scope Var) : Type 0 where
  pub bindings : seen s.bindings.items ≡ ρ
  pub outer : map (λ b. b.outer) (reverse s.bindings.items) ≡ outers ρ
  pub innermost : (k : Name) → flat (get same_name s.innermost k) ≡ lookup (same_var (var_of k)) ρ
