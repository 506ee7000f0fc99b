use Rattle.std.proofs.Common.{length}
use Rattle.datum_form.specs.Data.{Items}
use Rattle.quasi_expand.specs.Steps.{exprs_in}
use Rattle.scheme_expand.specs.Waiting.{ReadAll}
use Rattle.scheme_expand.proofs.Backwards.{Put}
use Rattle.scheme_expand.proofs.TemplateViews.{PartsPut}
use Rattle.scheme_expand.proofs.expander.Expander.template_steps.Given as goal

-- the steps after those that are left wait
abbrev pub invariant-loop-last : goal.invariant-loop-last
invariant-loop-last l =
    ((ds : Items) → ReadAll l.initial.self.source (exprs_in l.fn.parts) ds → Put l.initial.self l.self (exprs_in l.rest) ds)
    × PartsPut l.initial.self l.self l.fn.pos l.rest l.fn.parts

abbrev pub decreases-loop-last : goal.decreases-loop-last
decreases-loop-last l = length l.rest
