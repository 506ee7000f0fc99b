-- Some symbols are taken, and the data that wait have the others.
use Rattle.std.proofs.Common.{List, ℕ}
use Rattle.draft_form.specs.Drawn.{Names}
use Rattle.scheme_expand.specs.Symbols.{AreSpelled, TakesSome, Wait}
use Rattle.scheme_expand.proofs.symbol.take_in_data.Given as goal

abbrev pub invariant-loop-turn : goal.invariant-loop-turn
invariant-loop-turn l =
    (names : Names) (xs : List (List ℕ)) → AreSpelled names l.source.nodes.now l.source.words.now
    → Wait l.source.nodes.now l.initial.waiting.items xs
    → TakesSome names l.source.nodes.now xs l.waiting.items l.initial.firsts l.firsts
