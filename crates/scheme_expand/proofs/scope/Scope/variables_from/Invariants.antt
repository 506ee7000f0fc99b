use Rattle.std.proofs.Common.{List, length}
use Rattle.draft_form.specs.Drawn.{Names}
use Rattle.scheme_expand.specs.Making.{from_level}
use Rattle.scheme_expand.specs.Viewed.{AreWords, IsScope}
use Rattle.scheme_expand.specs.Views.{Bound}
use Rattle.scheme_expand.proofs.Scopes.{Listed}
use Rattle.scheme_expand.proofs.scope.Scope.variables_from.Given as goal

-- the variables before those that are left are listed
abbrev pub invariant-loop-first : goal.invariant-loop-first
invariant-loop-first l =
    (names : Names) (bs : List Bound) → AreWords names → IsScope names l.fn.self bs
    → Listed names l.level l.next l.rest l.variables.items (from_level l.level bs)

abbrev pub decreases-loop-first : goal.decreases-loop-first
decreases-loop-first l = length l.rest
