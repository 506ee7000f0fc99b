use Rattle.std.proofs.Common.{length}
use Rattle.datum_form.specs.Data.{Items}
use Rattle.scheme_expand.specs.Grammar.{exprs}
use Rattle.scheme_expand.specs.Making.{AreRight}
use Rattle.scheme_expand.specs.Waiting.{ReadAll}
use Rattle.scheme_expand.proofs.MadeLets.{Looked}
use Rattle.scheme_expand.proofs.expander.Expander.are_lambdas.Given as goal

-- those before are lambda expressions
abbrev pub invariant-loop-first : goal.invariant-loop-first
invariant-loop-first l =
    (ds : Items) → ReadAll l.fn.self.source l.fn.exprs ds → AreRight (exprs ds) → Looked l.fn.self.source ds l.rest

abbrev pub decreases-loop-first : goal.decreases-loop-first
decreases-loop-first l = length l.rest
