-- Where the search for escaping sites starts, and which sites a site leads to.
use Rattle.std.specs.Prelude.{ℕ, ◌+◌, ◌-◌, ◌&&◌, List, [], ◌∷◌, ◌++◌, Option, Some, None, Bool, true, false, nat_le, slice_get, if◌then◌else◌}
use Rattle.std.specs.List.{flat_map}
use Rattle.flow_constraints.specs.declared.flow.Entry.{Entry}
use Rattle.flow_constraints.specs.declared.flow.Flow.{Flow}
use Rattle.flow_constraints.specs.Rows.{row, Result, Var}
use Rattle.flow_form.specs.declared.rows.Rows.{Rows}
use Rattle.least_set.specs.Least.{has}
use Rattle.named_form.specs.Code.{option_list}
use Rattle.named_form.specs.Valid.{numbers_from}
use Rattle.plan_facts.specs.declared.place.Place.{Place}
use Rattle.plan_facts.specs.Calls.{is_reached}
use Rattle.plan_facts.specs.Escaping.{contents, passes_on, stored}
use Rattle.plan_facts.specs.Pairs.{members_of}
use Rattle.escape_facts.specs.Owners.{each_entry}

abbrev pub has_some : List ℕ → Bool
has_some [] = false
has_some (x ∷ xs) = true

-- whether a site is one of a procedure, or of any if none is given, where these are the procedures whose a site is
abbrev pub belongs : (owners : ℕ → List ℕ) → (whose : Option ℕ) → (site : ℕ) → Bool
belongs owners None s = has_some (owners s)
belongs owners (Some q) s = has (owners s) q

-- the site of an atom, if it is such a one
abbrev pub site_at : (ℕ → List ℕ) → (whose : Option ℕ) → (atom : ℕ) → List ℕ
site_at owners whose a = if nat_le 10 a && belongs owners whose (a - 10) then (a - 10) ∷ [] else []

-- such sites of which a row has objects
abbrev pub row_sites : (ℕ → List ℕ) → Rows → (whose : Option ℕ) → (row : ℕ) → List ℕ
row_sites owners rows whose r = flat_map (site_at owners whose) (members_of rows r)

abbrev pub rows_sites : (ℕ → List ℕ) → Rows → (whose : Option ℕ) → (rows : List ℕ) → List ℕ
rows_sites owners rows whose rs = flat_map (row_sites owners rows whose) rs

-- what a variable may be
abbrev pub var_sites : (ℕ → List ℕ) → Flow → Rows → (whose : Option ℕ) → (var : ℕ) → List ℕ
var_sites owners f rows whose x = row_sites owners rows whose (row f (Var x))

abbrev pub vars_sites : (ℕ → List ℕ) → Flow → Rows → (whose : Option ℕ) → (vars : List ℕ) → List ℕ
vars_sites owners f rows whose xs = flat_map (var_sites owners f rows whose) xs

-- what a step stores, and what it hands on of its procedure's own if it is a tail call
abbrev pub stored_starts : (ℕ → List ℕ) → Flow → Rows → Place → List ℕ
stored_starts owners f rows p = vars_sites owners f rows None (option_list (stored p.action))

abbrev pub passed_starts : (ℕ → List ℕ) → Flow → Rows → Place → List ℕ
passed_starts owners f rows p = if p.tail then vars_sites owners f rows (Some p.proc) (passes_on p.action) else []

abbrev pub step_starts : (ℕ → List ℕ) → Flow → Rows → Place → List ℕ
step_starts owners f rows p =
    if is_reached f rows p.block then stored_starts owners f rows p ++ passed_starts owners f rows p else []

-- what a procedure gives back of its own
abbrev pub result_starts : (ℕ → List ℕ) → Flow → Rows → (proc : ℕ) → Entry → List ℕ
result_starts owners f rows q e = row_sites owners rows (Some q) (row f (Result e.block))

abbrev pub row_starts : (ℕ → List ℕ) → Flow → Rows → (tops : ℕ) → List Place → List ℕ
row_starts owners f rows tops places =
    rows_sites owners rows None (numbers_from 0 tops)
    ++ (flat_map (step_starts owners f rows) places ++ each_entry (result_starts owners f rows) 1 f.entries)

-- all that escapes whatever else does: what rows tell, and the sites of the program and of captured procedures, where
-- these are the sites of a procedure
abbrev pub all_starts : (owners own : ℕ → List ℕ) → Flow → Rows → (tops : ℕ) → List Place → (capturing : List ℕ) → List ℕ
all_starts owners own f rows tops places capturing =
    row_starts owners f rows tops places ++ (own 0 ++ flat_map own capturing)

-- the sites of what the objects of a site hold
abbrev pub held_sites : (owners : ℕ → List ℕ) → Flow → Rows → (free : ℕ → List ℕ) → (site : ℕ) → List ℕ
held_sites owners f rows free s = rows_sites owners rows None (contents f free (slice_get f.kinds (10 + s)))
