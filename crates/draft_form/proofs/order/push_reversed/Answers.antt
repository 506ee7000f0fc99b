use Rattle.draft_form.proofs.Reversed.{reversed_one, reversed_all}
use Rattle.draft_form.proofs.order.push_reversed.Goals as goal

pub loop-last-preserved : goal.loop-last-preserved
loop-last-preserved c =
    reversed_one c.loop-last.to.items c.push.new.self.items c.loop-last.rest.now c.in-Some.others.now c.in-Some.last.now _
    c.in-Some.ensures.cases.0 c.in_ok-push.ensures.items c.loop-last.invariant

pub returns : goal.returns
returns c = reversed_all c.loop-last.to.items c.loop-last.rest.now _ c.in_default.ensures.cases c.loop-last.invariant
