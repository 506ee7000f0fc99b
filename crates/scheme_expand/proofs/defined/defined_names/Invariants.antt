use Rattle.std.proofs.Common.{◌≡◌, ◌+◌, length}
use Rattle.datum_form.specs.Data.{Items}
use Rattle.draft_form.specs.Drawn.{Names}
use Rattle.scheme_expand.specs.Symbols.{AreSpelled}
use Rattle.scheme_expand.specs.Waiting.{ReadAll}
use Rattle.scheme_expand.proofs.DefinedWords.{SomeDefined}
use Rattle.scheme_expand.proofs.defined.defined_names.Given as goal

-- there is a word for each definition before those that are left
abbrev pub invariant-loop-first : goal.invariant-loop-first
invariant-loop-first l =
    ((names : Names) (ds : Items) → AreSpelled names l.source.nodes.now l.source.words.now → ReadAll l.source l.fn.tops ds
    → SomeDefined names l.source l.words.items l.rest ds)
    × (length l.words.items + length l.rest ≡ length l.fn.tops)

abbrev pub decreases-loop-first : goal.decreases-loop-first
decreases-loop-first l = length l.rest
