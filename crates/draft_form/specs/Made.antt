-- What is added to a table of drafts, and that all that stood for a draft before still does.
use Rattle.std.specs.Prelude.{ℕ, ◌≡◌, List, [], ◌∷◌, ◌++◌, length, None}
use Rattle.scheme_base.specs.declared.pos.Pos.{Pos}
use Rattle.core_form.specs.declared.program.What.{What}
use Rattle.draft_form.specs.declared.draft.Drafts.{Drafts as Table}
use Rattle.draft_form.specs.declared.draft.Variable.{Variable}
use Rattle.draft_form.specs.Drafts.{Draft, Drafts, Fresh, Ref, Lambda, If, Call, none, item}
use Rattle.draft_form.specs.Drawn.{Names, Data, Drawn, AllDrawn}

pub record Keeps (before after : Table) : Type 0 where
  pub one : (names : Names) (data_nodes : Data) (id : ℕ) (e : Draft) → Drawn names data_nodes before id e → Drawn names data_nodes after id e
  pub all : (names : Names) (data_nodes : Data) (ids : List ℕ) (es : Drafts) → AllDrawn names data_nodes before ids es
      → AllDrawn names data_nodes after ids es

-- this expression is added, and is the last
pub record AddsDraft (before after : Table) (what : What Variable) (p : Pos) (id : ℕ) : Type 0 where
  pub number : id ≡ length before.exprs.items
  pub exprs : after.exprs.items ≡ before.exprs.items ++ record { what = what; pos = p } ∷ []
  pub constants : after.constants.items ≡ before.constants.items

-- a value that a fresh variable holds, if it is true, and else another
abbrev pub either : Pos → (level : ℕ) → (value rest : Draft) → Draft
either p k d e =
    Call p (Lambda p (Fresh k ∷ []) None (If p (Ref p (Fresh k)) (Ref p (Fresh k)) e)) (item d none)
