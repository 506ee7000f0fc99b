use Rattle.std.proofs.Common.{◌≡◌, true, length}
use Rattle.datum_form.specs.Data.{Items}
use Rattle.scheme_expand.specs.Grammar.{is_clause}
use Rattle.scheme_expand.specs.Waiting.{ReadAll, may_be_clauses}
use Rattle.scheme_expand.proofs.HeldTests.{HeldSo}
use Rattle.scheme_expand.proofs.clause.hold_tests.Given as goal

-- the values of the tests before the clauses that are left are held
abbrev pub invariant-loop-first : goal.invariant-loop-first
invariant-loop-first l =
    (ds : Items) → ReadAll l.fn.source l.fn.clauses ds → may_be_clauses is_clause ds ≡ true
    → HeldSo l.fn.source l.rest l.ends ds l.fn.scope l.scope

abbrev pub decreases-loop-first : goal.decreases-loop-first
decreases-loop-first l = length l.rest
