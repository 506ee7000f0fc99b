-- The forms so far are those of the numbers so far.
use Rattle.std.proofs.Common.{take}
use Rattle.scheme_expand.specs.Assembled.{ArePicked}
use Rattle.scheme_expand.proofs.assemble.Whole.definitions.Given as goal

abbrev pub invariant-loop-number : goal.invariant-loop-number
invariant-loop-number l = ArePicked 1 l.self.library.forms.now (take l.number-index l.numbers) l.forms.items
