use Rattle.datum_form.specs.Data.{Datum}
use Rattle.scheme_expand.specs.Waiting.{Reads}
use Rattle.scheme_expand.proofs.Collecting.{Collected}
use Rattle.scheme_expand.proofs.body.collect_definitions.Given as goal

-- what is collected and what is left are the datum
abbrev pub invariant-loop-turn : goal.invariant-loop-turn
invariant-loop-turn l =
    (d : Datum) → Reads l.fn.source l.fn.item d
    → Collected l.fn.source d l.initial.definitions.items l.definitions.items l.items.items
