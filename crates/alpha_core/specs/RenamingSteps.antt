-- What each step of a renaming does with the expressions that it has made so far.
use Rattle.std.specs.Prelude.{ℕ, ◌≡◌, List, [], ◌∷◌, ◌++◌, length}
use Rattle.core_form.specs.declared.program.Var.{Var}
use Rattle.core_form.specs.declared.program.VarRef.{VarRef}
use Rattle.core_form.specs.declared.program.Node.{Node}
use Rattle.core_form.specs.declared.program.What.{What}
use Rattle.scheme_base.specs.declared.pos.Pos.{Pos}
use Rattle.core_form.specs.Trees.{Tree, Trees, Stands, StandAll}
use Rattle.core_form.specs.Source.{Scope}
use Rattle.alpha_core.specs.declared.renamer.Renamer.{Renamer}
use Rattle.alpha_core.specs.Renaming.{past, past_all, renamed, all_renamed}
use Rattle.alpha_core.specs.ScopesHeld.{Shows}

-- An expression was renamed in a scope: its variables have the numbers from n up to m, m excluded, and it
-- stands behind the expressions that were there before.
pub record Renames (ρ : Scope Var) (n m : ℕ) (before after : List (Node VarRef)) (e : Tree Var) (id : ℕ) : Type 0 where
  pub more : List (Node VarRef)
  pub exprs : after ≡ before ++ more
  pub next : m ≡ past n e
  pub stands : Stands after id (renamed ρ n e)

-- the same of some expressions
pub record RenamesAll (ρ : Scope Var) (n m : ℕ) (before after : List (Node VarRef)) (es : Trees Var) (ids : List ℕ) : Type 0 where
  pub more : List (Node VarRef)
  pub exprs : after ≡ before ++ more
  pub next : m ≡ past_all n es
  pub stand : StandAll after ids (all_renamed ρ n es)

-- an expression was renamed in the scope that is held, which stays
abbrev pub Makes : (old new : Renamer) → Tree Var → (id : ℕ) → Type 0
Makes old new e id =
    (ρ : Scope Var) → Shows old.scope ρ
    → Shows new.scope ρ × Renames ρ old.next new.next old.exprs new.exprs e id

abbrev pub MakesAll : (old new : Renamer) → Trees Var → (ids : List ℕ) → Type 0
MakesAll old new es ids =
    (ρ : Scope Var) → Shows old.scope ρ
    → Shows new.scope ρ × RenamesAll ρ old.next new.next old.exprs new.exprs es ids

-- a node was put at the end
pub record Adds (old new : Renamer) (what : What VarRef) (p : Pos) (id : ℕ) : Type 0 where
  pub exprs : new.exprs ≡ old.exprs ++ record { what = what; pos = p } ∷ []
  pub number : id ≡ length old.exprs
  pub scope : new.scope ≡ old.scope
  pub next : new.next ≡ old.next

-- variables were bound, each to the next number, and no expression was made
pub record Binds (old new : Renamer) (added : (ρ : Scope Var) → Scope Var) (many : ℕ) : Type 0 where
  pub exprs : new.exprs ≡ old.exprs
  pub next : new.next ≡ many
  pub scope : (ρ : Scope Var) → Shows old.scope ρ → Shows new.scope (added ρ)
