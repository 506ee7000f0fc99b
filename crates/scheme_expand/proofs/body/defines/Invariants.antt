use Rattle.std.proofs.Common.{◌≡◌, length}
use Rattle.datum_form.specs.Data.{Items}
use Rattle.scheme_expand.specs.Grammar.{one_is_define}
use Rattle.scheme_expand.specs.Waiting.{ReadAll}
use Rattle.scheme_expand.proofs.body.defines.Given as goal

-- none of those before is a definition
abbrev pub invariant-loop-first : goal.invariant-loop-first
invariant-loop-first l =
    (ds : Items) → ReadAll l.fn.source l.fn.exprs ds
    → (left : Items) × ReadAll l.fn.source l.rest left × (one_is_define ds ≡ one_is_define left)

abbrev pub decreases-loop-first : goal.decreases-loop-first
decreases-loop-first l = length l.rest
