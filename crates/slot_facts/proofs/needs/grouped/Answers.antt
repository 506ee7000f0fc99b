use Rattle.slot_facts.proofs.Grouping.{grouped_on}
use Rattle.slot_facts.proofs.needs.grouped.Goals as goal

pub loop-link-preserved : goal.loop-link-preserved
loop-link-preserved c =
    grouped_on c.args.many c.args.links.now c.loop-link.link-index (record { from = 0; to = 0 }) c.loop-link.lists.items c.put_to.new.lists.items
    c.loop-link-test.true c.in_ok-put_to.ensures c.loop-link.invariant
