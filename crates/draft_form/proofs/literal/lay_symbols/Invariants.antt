-- With a constant behind the literals so far, there is the list of the symbols so far before it.
use Rattle.std.proofs.Common.{take}
use Rattle.draft_form.proofs.LiteralsAdded.{LeadSymbols}
use Rattle.draft_form.proofs.literal.lay_symbols.Given as goal

abbrev pub invariant-loop-symbol : goal.invariant-loop-symbol
invariant-loop-symbol l =
    LeadSymbols l.names (take l.symbol-index l.symbols) l.initial.lits.items l.lits.items
