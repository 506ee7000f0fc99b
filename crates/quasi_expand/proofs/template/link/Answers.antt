use Rattle.datum_form.proofs.PrintedByParts.{none_left}
use Rattle.quasi_expand.proofs.Linking.{none_linked, one_linked, all_linked}
use Rattle.quasi_expand.proofs.template.link.Goals as goal

pub loop-last-init : goal.loop-last-init
loop-last-init c = λ ds h. none_linked c.args.nodes.now c.args.items.now c.args.level c.args.parts.now.items ds h

pub loop-last-preserved : goal.loop-last-preserved
loop-last-preserved c = λ ds h.
    one_linked c.args.nodes.now c.loop-last.rest.now c.in-Some.others.now c.in-Some.last.now c.args.level c.linking.result
    c.args.parts.now.items c.loop-last.parts.items c.push.new.self.items ds (c.loop-last.invariant ds h)
    c.in-Some.ensures.cases.0 c.in_ok-push.ensures.items c.linking.ensures

pub returns : goal.returns
returns c = λ ds h.
    all_linked c.args.nodes.now c.loop-last.rest.now c.args.level c.args.parts.now.items c.loop-last.parts.items ds
    (c.loop-last.invariant ds h) (none_left c.loop-last.rest.now c.in_default.ensures.cases)
