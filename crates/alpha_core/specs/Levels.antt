-- How deep the expressions are that still wait to be looked at.
use Rattle.std.specs.Prelude.{ℕ, suc, ◌+◌, ◌≡◌, max, List, [], ◌∷◌, ◌++◌}
use Rattle.core_form.specs.declared.program.Var.{Var}
use Rattle.core_form.specs.declared.program.Node.{Node}
use Rattle.core_form.specs.Trees.{Tree, Stands}
use Rattle.alpha_core.specs.declared.deep.Level.{Level}
use Rattle.alpha_core.specs.Depth.{depth}

-- the deepest part of these expressions has this depth in the core
abbrev pub Reach : List (Node Var) → List Level → ℕ → Type 0
Reach exprs [] m = m ≡ 0
Reach exprs (l ∷ ls) m =
    (e : Tree Var) × (k : ℕ) × Stands exprs l.expr e × Reach exprs ls k × (m ≡ max (l.around + depth e) k)

-- the parts of an expression were left to be looked at; they stand in `inner` expressions
pub record Leaves (exprs : List (Node Var)) (inner : ℕ) (e : Tree Var) (before after : List Level) : Type 0 where
  pub more : List Level
  pub deep : ℕ
  pub items : after ≡ before ++ more
  pub reach : Reach exprs more deep
  pub whole : suc (max inner deep) ≡ inner + depth e
