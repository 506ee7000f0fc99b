-- The graph of procedures and calls: first the procedures, by their numbers, then the steps, by their places.
use Rattle.std.specs.Prelude.{ℕ, ◌+◌, ◌&&◌, ◌||◌, List, [], ◌∷◌, ◌++◌, Bool, if◌then◌else◌}
use Rattle.std.specs.List.{flat_map}
use Rattle.flow_constraints.specs.declared.flow.Flow.{Flow}
use Rattle.flow_form.specs.declared.rows.Rows.{Rows}
use Rattle.least_set.specs.declared.links.Link.{Link}
use Rattle.named_form.specs.Code.{Written}
use Rattle.plan_facts.specs.declared.place.Place.{Place}
use Rattle.plan_facts.specs.Calls.{entered, is_call, is_callcc, is_reached, may_resume}

-- whether a step is a call in a reached block
abbrev pub is_open : Flow → Rows → Place → Bool
is_open f rows p = is_call p.action && is_reached f rows p.block

-- whether a call is joined whatever the set has
abbrev pub begins : Flow → Rows → Place → Bool
begins f rows p = is_callcc p.action || may_resume f rows p.action

abbrev pub call_starts : Flow → Rows → (node : ℕ) → Place → List ℕ
call_starts f rows n p = if is_open f rows p && begins f rows p then n ∷ [] else []

-- what each step gives, with its place; the places are numbered from this one on
abbrev pub each_from : {X : Type 0} → (ℕ → Place → List X) → (at : ℕ) → List Place → List X
each_from g at [] = []
each_from g at (p ∷ ps) = g at p ++ each_from g (at + 1) ps

-- the calls that are joined whatever the set has, behind so many procedures
abbrev pub starts_at : Flow → Rows → (procs at : ℕ) → Place → List ℕ
starts_at f rows n at p = call_starts f rows (n + at) p

abbrev pub all_starts : Flow → Rows → (procs : ℕ) → List Place → List ℕ
all_starts f rows n places = each_from (starts_at f rows n) 0 places

abbrev pub link : (from to : ℕ) → Link
link from to = record { from = from; to = to }

-- a capturing procedure joins its tail calls
abbrev pub tail_links : (node : ℕ) → Place → List Link
tail_links n p = if p.tail then link p.proc n ∷ [] else []

-- a call and a procedure that it may enter join each other
abbrev pub callee_links : (node callee : ℕ) → List Link
callee_links n q = link q n ∷ link n q ∷ []

abbrev pub own_links : (node : ℕ) → Place → (callees : List ℕ) → List Link
own_links n p qs = link n p.proc ∷ (tail_links n p ++ flat_map (callee_links n) qs)

abbrev pub call_links : List Written → Flow → Rows → (node : ℕ) → Place → List Link
call_links ps f rows n p = if is_open f rows p then own_links n p (entered ps f rows p.action) else []

abbrev pub links_at : List Written → Flow → Rows → (procs at : ℕ) → Place → List Link
links_at ps f rows n at p = call_links ps f rows (n + at) p

abbrev pub all_links : List Written → Flow → Rows → (procs : ℕ) → List Place → List Link
all_links ps f rows n places = each_from (links_at ps f rows n) 0 places
