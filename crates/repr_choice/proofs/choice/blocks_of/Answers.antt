use Rattle.std.proofs.Common.{◌++◌, ap, ◌∙◌}
use Rattle.std.specs.Prelude.{[], ◌∷◌}
use Rattle.plan_facts.specs.Calls.{is_reached}
use Rattle.plan_facts.proofs.OneByOne.{one_more}
use Rattle.repr_choice.proofs.choice.blocks_of.Goals as goal

pub loop-block-preserved : goal.loop-block-preserved
loop-block-preserved c =
    one_more (is_reached c.args.flow.now c.args.rows.now) c.loop-block.block c.args.many c.loop-block.flags c.push.new.self _ c.loop-block-test.true
    (c.in_ok-push.ensures.ok ∙ ap (λ b. c.loop-block.flags ++ b ∷ []) c.is_reached.ensures) c.loop-block.invariant
