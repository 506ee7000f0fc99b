-- What each procedure needs of the variables that are free in it.
use Rattle.std.specs.Prelude.{ℕ, ◌≡◌, ◌<◌, ◌++◌, List, [], length, map, true, if◌then◌else◌}
use Rattle.std.specs.List.{filter, flat_map}
use Rattle.flow_constraints.specs.declared.flow.Flow.{Flow}
use Rattle.flow_form.specs.declared.rows.Rows.{Rows}
use Rattle.least_set.specs.declared.links.Link.{Link}
use Rattle.least_set.specs.Least.{has}
use Rattle.named_form.specs.Code.{option_list}
use Rattle.least_set.specs.Search.{listed}
use Rattle.plan_facts.specs.declared.place.Action.{Action}
use Rattle.plan_facts.specs.declared.place.Place.{Place}
use Rattle.plan_facts.specs.Calls.{is_reached}
use Rattle.plan_facts.specs.Escaping.{closes}
use Rattle.plan_facts.specs.Slotted.{reads_of}
use Rattle.slot_facts.specs.declared.ends.End.{End}

abbrev pub link : (from to : ℕ) → Link
link a b = record { from = a; to = b }

abbrev pub reads : (proc : ℕ) → Action → List Link
reads q action = map (link q) (reads_of action)

abbrev pub place_reads : Flow → Rows → Place → List Link
place_reads f rows p = if is_reached f rows p.block then reads p.proc p.action else []

abbrev pub end_reads : Flow → Rows → End → List Link
end_reads f rows e = if is_reached f rows e.block then map (link e.proc) (option_list e.value) else []

-- from procedures to the variables that they refer to
abbrev pub references : Flow → Rows → List Place → List End → List Link
references f rows places ends = flat_map (place_reads f rows) places ++ flat_map (end_reads f rows) ends

abbrev pub place_makes : Flow → Rows → Place → List Link
place_makes f rows p = if is_reached f rows p.block then map (link p.proc) (closes p.action) else []

-- from procedures to those of which they make closures
abbrev pub makings : Flow → Rows → List Place → List Link
makings f rows places = flat_map (place_makes f rows) places

-- what a procedure wants: these variables, and what those need of which it makes closures
abbrev pub wanted : (variables procs : List ℕ) → (needed : List (List ℕ)) → List ℕ
wanted xs qs needed = xs ++ flat_map (listed needed) qs

-- procedures make closures of later ones alone
abbrev pub MakesLater : (makings : List (List ℕ)) → Type 0
MakesLater makings = (q r : ℕ) → has (listed makings q) r ≡ true → q < r

-- Each of so many procedures needs what it wants of the variables that are free in it.
pub record IsNeeded (many : ℕ) (free references makings needed : List (List ℕ)) : Type 0 where
  pub long : length needed ≡ many
  pub each :
      MakesLater makings → (q : ℕ) → q < many
      → listed needed q ≡ filter (has (wanted (listed references q) (listed makings q) needed)) (listed free q)
