use Rattle.scheme_expand.proofs.CopyingNodes.{grows_twice, next_at}
use Rattle.scheme_expand.proofs.placed.wait_all.Goals as goal

pub loop-id-preserved : goal.loop-id-preserved
loop-id-preserved c =
    record {
      grows = grows_twice _ _ _ c.loop-id.invariant.grows c.in_ok-wait.ensures.grows;
      at =
          next_at _ _ c.args.form c.args.ids.now _ _ c.loop-id.id-index c.in_ok-wait.field-0 c.loop-id-test.true
          c.in_ok-wait.ensures.grows c.loop-id.invariant.at c.in_ok-wait.ensures.copies c.in_ok-push.ensures.ok;
    }
