use Rattle.std.proofs.Common.{take}
use Rattle.prelude_text.specs.Marking.{Marks}
use Rattle.prelude_text.proofs.closure.mark_each.Given as goal

abbrev pub invariant-loop-id : goal.invariant-loop-id
invariant-loop-id l =
    Marks (take l.id-index l.ids) l.fn.marked l.marked l.fn.waiting.items l.waiting.items
