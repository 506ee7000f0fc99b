use Rattle.std.proofs.Common.{◌≡◌, [], length}
use Rattle.datum_form.specs.Data.{Items}
use Rattle.scheme_expand.specs.Faults.{in_forms}
use Rattle.scheme_expand.specs.Grammar.{forms}
use Rattle.scheme_expand.specs.Viewed.{IsView}
use Rattle.scheme_expand.specs.Views.{Context, View}
use Rattle.scheme_expand.specs.Waiting.{ReadAll}
use Rattle.scheme_expand.proofs.FormsDone.{FormsDone}
use Rattle.scheme_expand.proofs.MadePrograms.{FormsMade}
use Rattle.scheme_expand.proofs.expander.Expander.forms.Given as goal

-- the forms before those that are left are done
abbrev pub invariant-loop-first : goal.invariant-loop-first
invariant-loop-first l =
    ((ds : Items) → ReadAll l.initial.self.source l.fn.tops ds → l.initial.self.steps.items ≡ []
    → FormsDone l.initial.self l.self l.rest ds)
    × ((c : Context) (v : View) (ds : Items) → IsView c l.initial.self v → ReadAll c.source l.fn.tops ds
    → l.initial.self.steps.items ≡ [] → in_forms (forms ds) ≡ [] → v.bound ≡ [] → FormsMade c l.self v l.rest ds)

abbrev pub decreases-loop-first : goal.decreases-loop-first
decreases-loop-first l = length l.rest
