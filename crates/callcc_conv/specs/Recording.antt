-- Calls in record mode, where the procedures that are captured are marked.
use Rattle.std.specs.Prelude.{ℕ, ◌&&◌, ◌||◌, not, List, [], ◌∷◌, map, replicate, Bool, true, false, slice_index_or, slice_set}
use Rattle.std.specs.List.{filter, list_any}
use Rattle.flow_constraints.specs.declared.flow.Flow.{Flow}
use Rattle.flow_form.specs.declared.rows.Rows.{Rows}
use Rattle.named_form.specs.Code.{Written}
use Rattle.plan_facts.specs.declared.place.Place.{Place}
use Rattle.plan_facts.specs.Calls.{entered, may_resume}

abbrev pub is_marked : List Bool → ℕ → Bool
is_marked marks n = slice_index_or marks n false

abbrev pub marked_after : List Bool → List ℕ → List Bool
marked_after marks [] = marks
marked_after marks (n ∷ ns) = marked_after (slice_set marks n true) ns

-- a mark for each number below this one, which tells those that a list has
abbrev pub marked : (many : ℕ) → List ℕ → List Bool
marked many ns = marked_after (replicate many false) ns

abbrev pub records : List Written → Flow → Rows → (marks : List Bool) → Place → Bool
records ps f rows marks p =
    not p.tail && (may_resume f rows p.action || list_any (is_marked marks) (entered ps f rows p.action))

abbrev pub recorded : List Written → Flow → Rows → (marks : List Bool) → List Place → List ℕ
recorded ps f rows marks places = map (λ p. p.var) (filter (records ps f rows marks) places)
