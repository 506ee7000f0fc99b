use Rattle.std.proofs.Common.{length}
use Rattle.datum_form.specs.Data.{Items}
use Rattle.scheme_expand.specs.Shapes.{AreDefinitions}
use Rattle.scheme_expand.proofs.MadeBodies.{AreRightDefinitions, Asked}
use Rattle.scheme_expand.proofs.body.define_lambdas.Given as goal

-- those before define lambda expressions
abbrev pub invariant-loop-first : goal.invariant-loop-first
invariant-loop-first l =
    (ds : Items) → AreDefinitions l.fn.source l.fn.definitions ds → AreRightDefinitions ds → Asked l.fn.source l.rest ds

abbrev pub decreases-loop-first : goal.decreases-loop-first
decreases-loop-first l = length l.rest
