-- Marks of the variables that need no slot.
use Rattle.std.specs.Prelude.{ℕ, ◌≡◌, ◌<◌, List, Bool, length, is_some, slice_index_or}
use Rattle.named_form.specs.declared.plan.Fiction.{Fiction}
use Rattle.named_form.specs.ValidPlan.{fiction_of}

pub record MarksFictions (many : ℕ) (fictions : List Fiction) (marks : List Bool) : Type 0 where
  pub long : length marks ≡ many
  pub same : (x : ℕ) (other : Bool) → x < many → slice_index_or marks x other ≡ is_some (fiction_of fictions x)
