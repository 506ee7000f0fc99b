use Rattle.std.proofs.Common.{take}
use Rattle.slot_facts.specs.Marks.{MarksOf}
use Rattle.slot_facts.proofs.marks.marks_of.Given as goal

abbrev pub invariant-loop-number : goal.invariant-loop-number
invariant-loop-number l = MarksOf l.many (take l.number-index l.numbers) l.marks.items
