use Rattle.quasi_expand.specs.Templates.{template}
use Rattle.quasi_expand.proofs.TemplateExprs.{made_exprs, given_all}
use Rattle.quasi_expand.proofs.template.read_template.Goals as goal

pub returns-clause-exprs : goal.returns-clause-exprs
returns-clause-exprs c = λ d h.
    made_exprs c.args.nodes.now c.datum.new.parts.items d
    (given_all c.args.nodes.now c.in_ok-datum.field-0 c.new-parts.result.items c.datum.new.parts.items (template d 0)
    c.new-parts.ensures.items (c.in_ok-datum.ensures d h))

pub returns-clause-made : goal.returns-clause-made
returns-clause-made c = λ d h.
    given_all c.args.nodes.now c.in_ok-datum.field-0 c.new-parts.result.items c.datum.new.parts.items (template d 0)
    c.new-parts.ensures.items (c.in_ok-datum.ensures d h)
