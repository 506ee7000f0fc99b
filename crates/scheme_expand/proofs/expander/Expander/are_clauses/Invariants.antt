use Rattle.std.proofs.Common.{false, length}
use Rattle.datum_form.specs.Data.{Items}
use Rattle.quasi_expand.specs.Shapes.{all_items}
use Rattle.scheme_expand.specs.Grammar.{is_clause}
use Rattle.scheme_expand.specs.Waiting.{ReadAll}
use Rattle.scheme_expand.proofs.CondParts.{InnerLeft}
use Rattle.scheme_expand.proofs.expander.Expander.are_clauses.Given as goal

-- those before are inner clauses
abbrev pub invariant-loop-first : goal.invariant-loop-first
invariant-loop-first l =
    (front : Items) → ReadAll l.fn.self.source l.initial.rest front
    → InnerLeft l.fn.self.source l.rest (all_items (is_clause false) front)

abbrev pub decreases-loop-first : goal.decreases-loop-first
decreases-loop-first l = length l.rest
