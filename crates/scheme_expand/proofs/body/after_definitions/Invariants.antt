use Rattle.std.proofs.Common.{length}
use Rattle.datum_form.specs.Data.{Items}
use Rattle.scheme_expand.specs.Waiting.{ReadAll}
use Rattle.scheme_expand.proofs.Heading.{Headed}
use Rattle.scheme_expand.proofs.body.after_definitions.Given as goal

-- those before are definitions
abbrev pub invariant-loop-first : goal.invariant-loop-first
invariant-loop-first l =
    (ds : Items) → ReadAll l.fn.source l.fn.items ds
    → Headed l.fn.source ds l.initial.definitions.items l.definitions.items l.rest

abbrev pub decreases-loop-first : goal.decreases-loop-first
decreases-loop-first l = length l.rest
