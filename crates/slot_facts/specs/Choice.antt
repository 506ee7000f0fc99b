-- The slots, from what is found.
use Rattle.std.specs.Prelude.{ℕ, ◌≡◌, ◌+◌, ◌&&◌, not, List, [], ◌∷◌, length, map, Option, Some, None, Bool, slice_get, if◌then◌else◌}
use Rattle.std.specs.List.{filter, flat_map}
use Rattle.scheme_base.specs.declared.place.Stated.{Stated}
use Rattle.named_form.specs.declared.plan.Fiction.{Fiction}
use Rattle.named_form.specs.declared.plan.Slots.{Slots}
use Rattle.named_form.specs.Code.{Written, bound_in, written_at}
use Rattle.named_form.specs.Valid.{numbers_from}
use Rattle.plan_facts.specs.Slotted.{is_empty}
use Rattle.slot_facts.specs.Graph.{Found, value_at}
use Rattle.slot_facts.specs.Marks.{MarksOf, is_marked}

-- the variables that have a cell for good, if they have a place
abbrev pub own_vars : List Written → (capturing : List ℕ) → List ℕ
own_vars ps capturing = if is_empty capturing then bound_in (written_at (slice_get ps 0)) else []

-- for each variable whether its node is marked
abbrev pub placed_by : (procs vars : ℕ) → (marks : List Bool) → List Bool
placed_by p v marks = map (λ x. is_marked marks (p + x)) (numbers_from 0 v)

abbrev pub kept_by : (placed own : List Bool) → (var : ℕ) → Bool
kept_by placed own x = is_marked placed x && not (is_marked own x)

abbrev pub global_by : (placed own : List Bool) → (var : ℕ) → Bool
global_by placed own x = is_marked placed x && is_marked own x

abbrev pub fiction : (var : ℕ) → Stated → Fiction
fiction x v = record { var = x; value = v }

abbrev pub fictions_by : (is_placed : Bool) → (var : ℕ) → Option Stated → List Fiction
fictions_by is_placed x None = []
fictions_by is_placed x (Some v) = if is_placed then [] else fiction x v ∷ []

abbrev pub fictions_at : List (Option Stated) → (placed : List Bool) → (var : ℕ) → List Fiction
fictions_at values placed x = fictions_by (is_marked placed x) x (value_at values x)

-- All of them: `own` marks the variables that have a cell for good if they have a place, `placed` those that have a
-- place, `met` the procedures that are compared.
abbrev pub chosen_by : (procs : ℕ) → (needed : List (List ℕ)) → (values : List (Option Stated)) → (own placed met : List Bool) → Slots
chosen_by n needed values own placed met =
    record {
      kept = map (filter (kept_by placed own)) needed;
      fictitious = flat_map (fictions_at values placed) (numbers_from 0 (length values));
      global = filter (global_by placed own) (numbers_from 0 (length values));
      compared = filter (is_marked met) (numbers_from 0 n);
    }

-- Slots that are chosen by what the graph's search finds, where these variables may have a cell for good.
pub record IsChosen (procs : ℕ) (own_vars compared : List ℕ) (values : List (Option Stated)) (needed : List (List ℕ)) (s : Slots) : Type 0 where
  pub own : List Bool
  pub marks : List Bool
  pub met : List Bool
  pub owned : MarksOf (length values) own_vars own
  pub found : Found procs compared values needed own marks
  pub met_are : MarksOf procs compared met
  pub chosen : s ≡ chosen_by procs needed values own (placed_by procs (length values) marks) met
