-- The symbols of the expressions so far are taken.
use Rattle.std.proofs.Common.{List, drop}
use Rattle.draft_form.specs.Drafts.{Part}
use Rattle.draft_form.specs.Drawn.{Names}
use Rattle.scheme_expand.specs.Order.{AreParts}
use Rattle.scheme_expand.specs.Symbols.{AreSpelled}
use Rattle.scheme_expand.proofs.SymbolsInOrder.{Partly}
use Rattle.scheme_expand.proofs.symbol.take_symbols.Given as goal

abbrev pub invariant-loop-id : goal.invariant-loop-id
invariant-loop-id l =
    (names : Names) (found : List Part) → AreSpelled names l.source.nodes.now l.source.words.now
    → AreParts names l.source.nodes.now l.drafts l.order found
    → Partly names l.source.nodes.now l.drafts (drop l.id-index l.order) found l.initial.firsts l.firsts
