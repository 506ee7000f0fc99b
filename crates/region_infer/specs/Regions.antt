-- The marks of sites.
use Rattle.std.specs.Prelude.{ℕ, ◌≡◌, ◌<◌, List, length, slice_index_or, if◌then◌else◌}
use Rattle.named_form.specs.Code.{has}
use Rattle.scheme_base.specs.declared.place.Mark.{Mark}
use Rattle.scheme_base.specs.declared.place.Mark.TheVariants.{Local, Global}

-- the mark of a site, where these escape
abbrev pub mark_in : (escaping : List ℕ) → (site : ℕ) → Mark
mark_in escaping s = if has escaping s then Global else Local

-- a site is local exactly where it does not escape
pub record AreMarks (escaping : List ℕ) (marks : List Mark) : Type 0 where
  pub each : (site : ℕ) → site < length marks → slice_index_or marks site Global ≡ mark_in escaping site
