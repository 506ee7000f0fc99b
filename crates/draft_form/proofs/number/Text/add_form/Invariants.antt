-- The core stays ready, and the walk comes to the same end.
use Rattle.std.specs.Prelude.{[], ◌∷◌}
use Rattle.draft_form.specs.declared.level.Visit.TheVariants.{Begin}
use Rattle.draft_form.specs.Growing.{IsReady}
use Rattle.draft_form.specs.Numbering.{walk, Course, Goes}
use Rattle.draft_form.proofs.number.Text.add_form.Given as goal

abbrev pub invariant-loop-turn : goal.invariant-loop-turn
invariant-loop-turn l =
    record {
      ready : IsReady l.initial.growing → IsReady l.growing;
      goes : (c : Course) → Goes (walk l.self c) (Begin l.form ∷ []) l.initial.levels l.initial.growing
          → Goes (walk l.self c) l.visits.items l.levels l.growing;
    }
