use Rattle.std.proofs.Common.{sym, ap}
use Rattle.scheme_expand.specs.Putting.{part_steps}
use Rattle.quasi_expand.specs.Levels.{evaluated}
use Rattle.quasi_expand.specs.Steps.{exprs_in}
use Rattle.scheme_expand.proofs.Adding.{due}
use Rattle.scheme_expand.proofs.Arms.{one_read}
use Rattle.scheme_expand.proofs.Due.{of_all, on_ok}
use Rattle.scheme_expand.proofs.Parts.{read_at, read_in}
use Rattle.scheme_expand.proofs.TemplateSteps.{template_due}
use Rattle.scheme_expand.proofs.TemplateViews.{made_in, quasi_turns}
use Rattle.scheme_expand.proofs.MadeBodies.{puts_as}
use Rattle.scheme_expand.proofs.expander.Expander.quasiquote.Goals as goal

pub returns-clause-fault : goal.returns-clause-fault
returns-clause-fault c =
    let a = c.args.self.now in
    on_ok c.template_steps.result
    (λ w ds h.
    let o = one_read a.source c.args.operands.now ds c.in-len1.len_at_least c.in-len1.len_below h in
    let es = evaluated o.only 0 in
    due a c.template_steps.new.self (of_all es) _ (template_due c.args.pos ds o.only o.are)
    (w es
    (read_at a.source _ _ es (ap exprs_in c.deref.ensures.value)
    (record { named = h.named; stand = c.in_ok-parts.ensures.exprs o.only o.read.stands }))))
    c.template_steps.ensures.fault

pub returns-clause-core : goal.returns-clause-core
returns-clause-core c =
    let a = c.args.self.now in
    on_ok c.template_steps.result
    (λ put κ v ds i h r.
    let o = one_read κ.source c.args.operands.now ds c.in-len1.len_at_least c.in-len1.len_below h in
    let here = read_in κ.source a.source _ o.only (sym i.source) o.read in
    quasi_turns κ a c.template_steps.new.self c.args.pos _ o.only ds v i h.named o.are r
    (made_in a.source κ.source _ o.only i.source (c.in_ok-parts.ensures.made o.only here.stands))
    (puts_as a c.template_steps.new.self _ _ (ap (part_steps c.args.pos) c.deref.ensures.value) put))
    c.template_steps.ensures.core
