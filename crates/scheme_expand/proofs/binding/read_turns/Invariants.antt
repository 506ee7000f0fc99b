use Rattle.std.proofs.Common.{length}
use Rattle.datum_form.specs.Data.{Items}
use Rattle.scheme_expand.specs.Waiting.{ReadAll}
use Rattle.scheme_expand.proofs.DoParts.{TurnsRead}
use Rattle.scheme_expand.proofs.binding.read_turns.Given as goal

-- those before are read
abbrev pub invariant-loop-first : goal.invariant-loop-first
invariant-loop-first l =
    (ds : Items) → ReadAll l.fn.source l.fn.bindings ds
    → TurnsRead l.fn.source ds l.names.items l.inits.items l.steps.items l.rest

abbrev pub decreases-loop-first : goal.decreases-loop-first
decreases-loop-first l = length l.rest
