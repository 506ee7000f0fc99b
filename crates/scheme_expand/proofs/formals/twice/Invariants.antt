use Rattle.std.proofs.Common.{List, length}
use Rattle.scheme_expand.specs.Forms.{Word}
use Rattle.scheme_expand.specs.Waiting.{ReadAll, named_data}
use Rattle.scheme_expand.proofs.Twice.{Differing}
use Rattle.scheme_expand.proofs.formals.twice.Given as goal

-- the names behind those that are left differ
abbrev pub invariant-loop-last : goal.invariant-loop-last
invariant-loop-last l =
    (ws : List Word) (h : ReadAll l.fn.source l.fn.names (named_data ws))
    → Differing l.fn.source h.named ws l.left l.seen.keys

abbrev pub decreases-loop-last : goal.decreases-loop-last
decreases-loop-last l = length l.left
