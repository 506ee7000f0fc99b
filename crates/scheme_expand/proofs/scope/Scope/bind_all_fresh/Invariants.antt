use Rattle.std.proofs.Common.{List}
use Rattle.draft_form.specs.Drawn.{Names}
use Rattle.scheme_expand.specs.Rewriting.{unnamed}
use Rattle.scheme_expand.specs.Viewed.{AreWords, IsScope}
use Rattle.scheme_expand.specs.Views.{Bound, put_inside}
use Rattle.scheme_expand.proofs.scope.Scope.bind_all_fresh.Given as goal

-- so many are bound
abbrev pub invariant-loop-variable : goal.invariant-loop-variable
invariant-loop-variable l =
    (names : Names) (bs : List Bound) → AreWords names → IsScope names l.initial.self bs
    → IsScope names l.self (put_inside (unnamed l._variable) bs)
