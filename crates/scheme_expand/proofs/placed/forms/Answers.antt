use Rattle.std.proofs.Common.{arith}
use Rattle.std.proofs.lemmas.Grind.{common_steps}
use Rattle.scheme_expand.proofs.CopyingNodes.{next_form_at}
use Rattle.scheme_expand.proofs.placed.forms.Goals as goal

pub loop-id-preserved : goal.loop-id-preserved
loop-id-preserved c =
    record {
      count = grind (arith, common_steps, c.in-Some.ensures, c.loop-id.invariant.count);
      at =
          next_form_at _ _ c.args.ids.now _ _ c.loop-id.id-index c.loop-id.form c.in_ok-wait.field-0 c.loop-id-test.true
          c.loop-id.invariant.count c.in_ok-wait.ensures.grows c.loop-id.invariant.at c.in_ok-wait.ensures.copies
          c.in_ok-push.ensures.ok;
    }
