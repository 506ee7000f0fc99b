use Rattle.std.proofs.Common.{◌+◌, length}
use Rattle.prelude_text.specs.Marking.{unmarked}
use Rattle.prelude_text.proofs.Marked.{Works}
use Rattle.prelude_text.proofs.closure.closure_of.Given as goal

abbrev pub invariant-loop-id : goal.invariant-loop-id
invariant-loop-id l = Works l.uses l.from l.marked l.waiting.items

abbrev pub decreases-loop-id : goal.decreases-loop-id
decreases-loop-id l = unmarked l.marked + length l.waiting.items
