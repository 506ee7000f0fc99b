-- The procedures so far.
use Rattle.std.proofs.Common.{◌≡◌}
use Rattle.stalin_top.specs.Make.{next_of, procedure_text}
use Rattle.stalin_top.specs.TableText.{texts_below}
use Rattle.stalin_top.proofs.make.program_of.Given as goal

abbrev pub invariant-loop-number : goal.invariant-loop-number
invariant-loop-number l = l.text.items ≡ texts_below (λ number. procedure_text number (next_of l.count number)) l.number
