use Rattle.std.proofs.Common.{◌≤◌, get_or, subst, sym}
use Rattle.prelude_text.proofs.Marked.{number_at, marks_more}
use Rattle.prelude_text.proofs.closure.mark_each.Goals as goal

pub mark-requires-clause-some : goal.mark-requires-clause-some
mark-requires-clause-some c = (number_at _ c.args.ids.now c.loop-id.id-index c.requires c.loop-id-test.true).0

pub mark-requires-clause-within : goal.mark-requires-clause-within
mark-requires-clause-within c =
    subst (λ n. get_or c.args.ids.now c.loop-id.id-index 0 ≤ n) (sym c.loop-id.invariant.same)
    (number_at _ c.args.ids.now c.loop-id.id-index c.requires c.loop-id-test.true).1

pub loop-id-preserved : goal.loop-id-preserved
loop-id-preserved c =
    marks_more c.args.ids.now c.loop-id.id-index c.args.marked.now c.loop-id.marked c.mark.new.marked c.args.waiting.now.items
    c.loop-id.waiting.items c.mark.new.waiting.items c.loop-id-test.true c.loop-id.invariant c.in_ok-mark.ensures
