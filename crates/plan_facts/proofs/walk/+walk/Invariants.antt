use Rattle.std.proofs.Common.{◌≡◌, ◌++◌}
use Rattle.flow_constraints.specs.Walk.{counts}
use Rattle.named_form.specs.Code.{past_code}
use Rattle.named_form.proofs.Folds.{left}
use Rattle.plan_facts.specs.Walk.{walk_code}
use Rattle.plan_facts.proofs.walk.+walk.Given as goal

abbrev pub invariant-put_block-loop-at : goal.invariant-put_block-loop-at
invariant-put_block-loop-at l =
    record {
      listed :
          l.steps ++ walk_code l.spot (counts l.before) (left l.block l.items l.at)
          ≡ l.initial.steps ++ walk_code l.spot (counts l.initial.before) (left l.block l.items 0);
      moved :
          past_code (counts l.before) (left l.block l.items l.at)
          ≡ past_code (counts l.initial.before) (left l.block l.items 0);
    }
