use Rattle.quasi_expand.specs.Steps.{exprs_in}
use Rattle.scheme_expand.proofs.Backwards.{none_put, all_put}
use Rattle.scheme_expand.proofs.TemplateSteps.{last_step_put, none_in}
use Rattle.scheme_expand.proofs.TemplateViews.{none_unread, no_parts_put, last_part_put, parts_put}
use Rattle.scheme_expand.proofs.expander.Expander.template_steps.Goals as goal

pub loop-last-init : goal.loop-last-init
loop-last-init c =
    (λ ds h. none_put c.args.self.now (exprs_in c.args.parts.now) ds h, no_parts_put c.args.self.now c.args.pos c.args.parts.now)

pub loop-last-preserved : goal.loop-last-preserved
loop-last-preserved c =
    let a = c.args.self.now in
    let b = c.loop-last.self in
    let split = c.in-Some.ensures.cases.0 in (
      λ ds h.
          last_step_put a b c.template_step.new.self c.loop-last.rest.now c.in-Some.others.now c.in-Some.last.now ds
          (c.loop-last.invariant.0 ds h) split c.in_ok-template_step.ensures.fault,
      last_part_put a b c.template_step.new.self c.args.pos c.loop-last.rest.now c.in-Some.others.now c.args.parts.now
          c.in-Some.last.now c.loop-last.invariant.1 split c.in_ok-template_step.ensures.core,
    )

pub returns-clause-fault : goal.returns-clause-fault
returns-clause-fault c = λ ds h.
    all_put c.args.self.now c.loop-last.self (exprs_in c.loop-last.rest.now) ds (c.loop-last.invariant.0 ds h)
    (none_in c.loop-last.rest.now c.in_default.ensures.cases)

pub returns-clause-core : goal.returns-clause-core
returns-clause-core c =
    parts_put c.args.self.now c.loop-last.self c.args.pos c.loop-last.rest.now c.args.parts.now c.loop-last.invariant.1
    (none_unread c.loop-last.rest.now c.in_default.ensures.cases)
