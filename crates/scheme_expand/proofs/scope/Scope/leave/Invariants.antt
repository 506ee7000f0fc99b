use Rattle.std.proofs.Common.{List, drop}
use Rattle.draft_form.specs.Drawn.{Names}
use Rattle.scheme_expand.specs.Viewed.{AreWords, IsScope}
use Rattle.scheme_expand.specs.Views.{Bound}
use Rattle.scheme_expand.proofs.scope.Scope.leave.Given as goal

-- so many are left
abbrev pub invariant-loop-variable : goal.invariant-loop-variable
invariant-loop-variable l =
    (names : Names) (bs : List Bound) → AreWords names → IsScope names l.initial.self bs → IsScope names l.self (drop l._variable bs)
