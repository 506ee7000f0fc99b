use Rattle.least_set.proofs.Nexts.{put_next}
use Rattle.least_set.proofs.links.targets_of.Goals as goal

pub loop-link-preserved : goal.loop-link-preserved
loop-link-preserved c =
    put_next c.args.many c.args.links.now c.loop-link.link-index (record { from = 0; to = 0 }) c.loop-link.next.items c.index_mut.result.now c.push.new.self
    c.loop-link-test.true c.requires c.index_mut.ensures.value c.in_ok-push.ensures.ok c.loop-link.invariant
