use Rattle.std.proofs.Common.{length}
use Rattle.datum_form.specs.Data.{Items}
use Rattle.scheme_expand.specs.Shapes.{AreDefinitions}
use Rattle.scheme_expand.proofs.Definitions.{ValuesPut}
use Rattle.scheme_expand.proofs.MadeBodies.{AreRightDefinitions, DefinedPut}
use Rattle.scheme_expand.proofs.expander.Expander.values.Given as goal

-- the values of the definitions after those that are left wait
abbrev pub invariant-loop-last : goal.invariant-loop-last
invariant-loop-last l =
    ((ds : Items) → AreDefinitions l.initial.self.source l.fn.definitions ds → ValuesPut l.initial.self l.self l.rest ds)
    × ((ds : Items) → AreDefinitions l.initial.self.source l.fn.definitions ds → AreRightDefinitions ds
    → DefinedPut l.initial.self l.self l.rest l.fn.definitions ds)

abbrev pub decreases-loop-last : goal.decreases-loop-last
decreases-loop-last l = length l.rest
