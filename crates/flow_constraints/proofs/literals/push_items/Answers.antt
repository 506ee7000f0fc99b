use Rattle.flow_constraints.proofs.Parts.{one_item}
use Rattle.flow_constraints.proofs.literals.push_items.Goals as goal

pub loop-item-preserved : goal.loop-item-preserved
loop-item-preserved c =
    one_item c.args.to c.loop-item.coming.items c.push.new.self.items _ c.loop-item.items.now c.in-Some.before.now c.in-Some.item.now
    c.in-Some.ensures.cases.0 c.in_ok-push.ensures.items c.loop-item.invariant
