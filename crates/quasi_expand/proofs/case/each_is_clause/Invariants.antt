use Rattle.std.proofs.Common.{◌≡◌, length}
use Rattle.datum_form.specs.Data.{Items}
use Rattle.datum_form.specs.Stands.{StandAll}
use Rattle.quasi_expand.specs.Shapes.{are_clauses, is_case}
use Rattle.quasi_expand.proofs.case.each_is_clause.Given as goal

-- all are clauses where those that are left are
abbrev pub invariant-loop-clause : goal.invariant-loop-clause
invariant-loop-clause l =
    (ds : Items) → StandAll l.fn.nodes l.fn.clauses ds
    → (es : Items) × StandAll l.fn.nodes l.rest es × (are_clauses is_case ds ≡ are_clauses is_case es)

abbrev pub decreases-loop-clause : goal.decreases-loop-clause
decreases-loop-clause l = length l.rest
