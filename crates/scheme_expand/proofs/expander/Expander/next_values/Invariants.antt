use Rattle.std.proofs.Common.{length}
use Rattle.datum_form.specs.Data.{Items}
use Rattle.scheme_expand.specs.Shapes.{those}
use Rattle.scheme_expand.specs.Waiting.{ReadAll}
use Rattle.scheme_expand.proofs.Backwards.{Put}
use Rattle.scheme_expand.proofs.NextsPut.{NextsPut}
use Rattle.scheme_expand.proofs.expander.Expander.next_values.Given as goal

-- the values after those that are left wait
abbrev pub invariant-loop-last : goal.invariant-loop-last
invariant-loop-last l =
    ((ds : Items) → ReadAll l.initial.self.source (those l.fn.steps) ds → Put l.initial.self l.self (those l.rest) ds)
    × NextsPut l.initial.self l.self l.fn.pos l.fn.steps l.rest l.initial.later l.later

abbrev pub decreases-loop-last : goal.decreases-loop-last
decreases-loop-last l = length l.rest
