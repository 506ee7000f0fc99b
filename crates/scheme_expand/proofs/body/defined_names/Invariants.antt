use Rattle.std.proofs.Common.{length}
use Rattle.datum_form.specs.Data.{Items}
use Rattle.scheme_expand.specs.Shapes.{AreDefinitions}
use Rattle.scheme_expand.proofs.Heading.{NamesFound}
use Rattle.scheme_expand.proofs.body.defined_names.Given as goal

-- the names of those before are found
abbrev pub invariant-loop-first : goal.invariant-loop-first
invariant-loop-first l =
    (ds : Items) → AreDefinitions l.fn.source l.fn.definitions ds → NamesFound l.fn.source ds l.names.items l.rest

abbrev pub decreases-loop-first : goal.decreases-loop-first
decreases-loop-first l = length l.rest
