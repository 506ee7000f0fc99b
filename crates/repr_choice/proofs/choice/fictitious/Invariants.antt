use Rattle.std.proofs.Common.{take}
use Rattle.repr_choice.specs.Marks.{MarksFictions}
use Rattle.repr_choice.proofs.choice.fictitious.Given as goal

abbrev pub invariant-loop-fiction : goal.invariant-loop-fiction
invariant-loop-fiction l = MarksFictions l.many (take l.fiction-index l.fictions) l.marks.items
