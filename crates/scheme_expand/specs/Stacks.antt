-- What a call takes from the drafts that are made, and which draft it makes.
use Rattle.std.specs.Prelude.{ℕ, ◌≡◌, List, ◌++◌}
use Rattle.scheme_expand.specs.declared.make.Maker.{Maker}
use Rattle.scheme_expand.specs.declared.step.Step.{Step}
use Rattle.scheme_expand.specs.Making.{ComesTo}
use Rattle.scheme_expand.specs.Viewed.{IsMade}
use Rattle.scheme_expand.specs.Views.{Context, View, pushed}
use Rattle.draft_form.specs.Drafts.{Draft}
use Rattle.draft_form.specs.Drawn.{Drawn}
use Rattle.draft_form.specs.Made.{Keeps}

-- these drafts were made last, and are taken
pub record Takes (before after : Maker) (ids : List ℕ) : Type 0 where
  pub made : before.made.items ≡ after.made.items ++ ids
  pub helpers : after.helpers ≡ before.helpers
  pub scope : after.scope ≡ before.scope
  pub drafts : after.drafts ≡ before.drafts

-- drafts are drawn, and none is put to those that are made
pub record Draws (before after : Maker) : Type 0 where
  pub made : after.made ≡ before.made
  pub helpers : after.helpers ≡ before.helpers
  pub scope : after.scope ≡ before.scope
  pub drafts : Keeps before.drafts after.drafts

-- what is made is a view, but that its last draft has this number and is not put to the others yet
pub record Gives (c : Context) (m : Maker) (id : ℕ) (v : View) : Type 0 where
  pub draft : Draft
  pub others : View
  pub is : v ≡ pushed draft others
  pub drawn : Drawn c.names c.source.nodes.now m.drafts id draft
  pub made : IsMade c m others

-- a step comes to the draft of this number
abbrev pub Makes : Step → (before after : Maker) → ℕ → Type 0
Makes step before after id = (c : Context) (v w : View) → IsMade c before v → ComesTo c step v w → Gives c after id w
