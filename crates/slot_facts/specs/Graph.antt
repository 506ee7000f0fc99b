-- The graph of procedures and variables.
use Rattle.std.specs.Prelude.{ℕ, ◌+◌, ◌++◌, ◌&&◌, not, List, [], ◌∷◌, length, Option, Some, None, Bool, true, IsTrue, nat_lt, slice_get, if◌then◌else◌}
use Rattle.std.specs.List.{flat_map, list_all}
use Rattle.scheme_base.specs.Operations.{item_or}
use Rattle.scheme_base.specs.declared.place.Stated.{Stated}
use Rattle.scheme_base.specs.declared.place.Stated.TheVariants as stated
use Rattle.least_set.specs.declared.links.Link.{Link}
use Rattle.least_set.specs.Least.{IsClosed, IsLeast, all_below, has}
use Rattle.least_set.specs.Search.{listed}
use Rattle.named_form.specs.Valid.{numbers_from}
use Rattle.slot_facts.specs.Marks.{MarksOf, is_marked}
use Rattle.slot_facts.specs.Needs.{link}

-- what is known of a variable, if it is there
abbrev pub value_at : List (Option Stated) → (var : ℕ) → Option Stated
value_at values x = item_or None (slice_get values x)

-- closures are of procedures that are there
abbrev pub closes_below : (procs : ℕ) → Option Stated → Bool
closes_below p (Some (stated.Closure q)) = nat_lt q p
closes_below p value = true

pub record AllClose (procs : ℕ) (values : List (Option Stated)) : Type 0 where
  pub each : IsTrue (list_all (closes_below procs) values)

-- a variable that can have several values has a place
abbrev pub start_by : (node : ℕ) → Option Stated → List ℕ
start_by n None = n ∷ []
start_by n (Some value) = []

-- a variable that can be a closure of a procedure alone has a place if that has slots
abbrev pub link_by : (node : ℕ) → Option Stated → List Link
link_by n (Some (stated.Closure q)) = link q n ∷ []
link_by n value = []

abbrev pub all_starts : (procs vars : ℕ) → (compared : List ℕ) → (value : ℕ → Option Stated) → List ℕ
all_starts p v compared value = compared ++ flat_map (λ x. start_by (p + x) (value x)) (numbers_from 0 v)

abbrev pub value_links : (procs vars : ℕ) → (value : ℕ → Option Stated) → List Link
value_links p v value = flat_map (λ x. link_by (p + x) (value x)) (numbers_from 0 v)

-- a procedure has slots if something has a place that it needs and that has no cell for good
abbrev pub need_link : (procs vars : ℕ) → (own : ℕ → Bool) → (proc var : ℕ) → List Link
need_link p v own q x = if nat_lt x v && not (own x) then link (p + x) q ∷ [] else []

abbrev pub need_links : (procs vars : ℕ) → (own : ℕ → Bool) → (needed : List (List ℕ)) → List Link
need_links p v own needed = flat_map (λ q. flat_map (need_link p v own q) (listed needed q)) (numbers_from 0 (length needed))

abbrev pub all_links : (procs vars : ℕ) → (value : ℕ → Option Stated) → (own : ℕ → Bool) → (needed : List (List ℕ)) → List Link
all_links p v value own needed = value_links p v value ++ need_links p v own needed

-- what is found is the least set that keeps the links, and the marks tell what it has
pub record Found (procs : ℕ) (compared : List ℕ) (values : List (Option Stated)) (needed : List (List ℕ)) (own marks : List Bool) : Type 0 where
  pub nodes : List ℕ
  pub least :
      IsLeast
      (IsClosed (all_starts procs (length values) compared (value_at values)) (all_links procs (length values) (value_at values) (is_marked own) needed))
      (has nodes)
  pub marked : MarksOf (procs + length values) nodes marks
  pub below : IsTrue (all_below (procs + length values) nodes)
