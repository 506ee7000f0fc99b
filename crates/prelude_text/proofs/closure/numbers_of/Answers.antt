use Rattle.std.proofs.Common.{◌∙◌}
use Rattle.prelude_text.proofs.Marked.{number_added, number_passed}
use Rattle.prelude_text.proofs.closure.numbers_of.Goals as goal
use Rattle.prelude_text.proofs.closure.numbers_of.Goals.{then-is_marked+in_ok-push, else-is_marked}

pub loop-at-preserved : goal.loop-at-preserved
loop-at-preserved c =
    elim c.if-is_marked.branch [
      | then-is_marked+in_ok-push w ↦
          number_added c.args.marked.now c.loop-at.at c.loop-at.ids c.if-is_marked.ids c.loop-at-test.true c.loop-at.invariant
          w.if-is_marked.true (w.ids-is ∙ w.in_ok-push.ensures.ok)
      | else-is_marked w ↦
          number_passed c.args.marked.now c.loop-at.at c.loop-at.ids c.if-is_marked.ids c.loop-at-test.true c.loop-at.invariant
          w.if-is_marked.false w.ids-is
    ]
