-- A core that is being made.
use Rattle.std.specs.Prelude.{ℕ, ◌≡◌, List, [], ◌∷◌, ◌++◌, length}
use Rattle.scheme_base.specs.declared.pos.Pos.{Pos}
use Rattle.core_form.specs.declared.program.Var.{Var}
use Rattle.core_form.specs.declared.program.What.{What}
use Rattle.draft_form.specs.declared.growing.Growing.{Growing}
use Rattle.draft_form.specs.Written.{AreWritten}

-- its forms are written, and so are the expressions that stand in none yet
pub record IsReady (g : Growing) : Type 0 where
  pub forms : AreWritten g.exprs g.lits.items g.forms
  pub done : AreWritten g.exprs g.lits.items g.done.items

-- the last expressions are taken
pub record Takes (before after : Growing) (ids : List ℕ) : Type 0 where
  pub exprs : after.exprs ≡ before.exprs
  pub lits : after.lits.items ≡ before.lits.items
  pub forms : after.forms ≡ before.forms
  pub done : before.done.items ≡ after.done.items ++ ids

-- an expression is added, and is done
pub record AddsNode (before after : Growing) (what : What Var) (p : Pos) : Type 0 where
  pub exprs : after.exprs ≡ before.exprs ++ record { what = what; pos = p } ∷ []
  pub lits : after.lits.items ≡ before.lits.items
  pub forms : after.forms ≡ before.forms
  pub done : after.done.items ≡ before.done.items ++ length before.exprs ∷ []

-- the last expression is a form
pub record AddsForm (before after : Growing) : Type 0 where
  pub exprs : after.exprs ≡ before.exprs
  pub lits : after.lits.items ≡ before.lits.items
  pub form : ℕ
  pub done : before.done.items ≡ after.done.items ++ form ∷ []
  pub forms : after.forms ≡ before.forms ++ form ∷ []

-- nothing is there yet
pub record IsEmpty (g : Growing) : Type 0 where
  pub exprs : g.exprs ≡ []
  pub lits : g.lits.items ≡ []
  pub forms : g.forms ≡ []
  pub done : g.done.items ≡ []
