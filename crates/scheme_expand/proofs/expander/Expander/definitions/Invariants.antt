use Rattle.std.proofs.Common.{◌≡◌, [], length}
use Rattle.datum_form.specs.Data.{Items}
use Rattle.scheme_expand.specs.Shapes.{AreDefinitions}
use Rattle.scheme_expand.specs.Viewed.{IsView}
use Rattle.scheme_expand.specs.Views.{Context, View}
use Rattle.scheme_expand.proofs.FormsDone.{DefinitionsDone}
use Rattle.scheme_expand.proofs.MadeBodies.{AreRightDefinitions}
use Rattle.scheme_expand.proofs.MadePrograms.{DefinitionsMade}
use Rattle.scheme_expand.proofs.expander.Expander.definitions.Given as goal

-- the definitions before those that are left are done
abbrev pub invariant-loop-first : goal.invariant-loop-first
invariant-loop-first l =
    ((ds : Items) → AreDefinitions l.initial.self.source l.fn.ids ds → l.initial.self.steps.items ≡ []
    → DefinitionsDone l.initial.self l.self l.rest ds)
    × ((c : Context) (v : View) (ds : Items) → IsView c l.initial.self v → AreDefinitions c.source l.fn.ids ds
    → l.initial.self.steps.items ≡ [] → AreRightDefinitions ds → v.bound ≡ [] → DefinitionsMade c l.self v l.rest ds)

abbrev pub decreases-loop-first : goal.decreases-loop-first
decreases-loop-first l = length l.rest
