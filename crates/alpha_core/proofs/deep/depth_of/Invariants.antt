use Rattle.std.proofs.Common.{◌≡◌, ◌-◌, ◌^◌, ℕ, max}
use Rattle.core_form.specs.declared.program.Var.{Var}
use Rattle.core_form.specs.Trees.{Trees, Holds}
use Rattle.alpha_core.specs.Depth.{deepest}
use Rattle.alpha_core.specs.Levels.{Reach}
use Rattle.alpha_core.proofs.deep.depth_of.Given as goal

abbrev pub invariant-loop-level : goal.invariant-loop-level
invariant-loop-level l =
    (forms : Trees Var) → Holds l.core forms
    → (m : ℕ) × Reach l.core.exprs l.levels.items m × (max l.deepest m ≡ deepest forms)

abbrev pub decreases-loop-level : goal.decreases-loop-level
decreases-loop-level l = 2 ^ 64 - l.visits
