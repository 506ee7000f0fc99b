-- A datum is taken apart into a list, its items and ends, and these into data that are nested one less deep.
use Rattle.std.proofs.Common.{◌+◌, ◌*◌, length}
use Rattle.datum_form.specs.Data.{Items}
use Rattle.datum_form.specs.Stands.{StandAll}
use Rattle.quasi_expand.proofs.Listing.{SomeListed}
use Rattle.quasi_expand.proofs.template.+template.Given as goal

abbrev pub decreases-datum : goal.decreases-datum
decreases-datum l = 8 * l.depth

abbrev pub decreases-inner : goal.decreases-inner
decreases-inner l = 8 * l.depth + 1

abbrev pub decreases-named : goal.decreases-named
decreases-named l = 8 * l.depth + 2

abbrev pub decreases-unquoted : goal.decreases-unquoted
decreases-unquoted l = 8 * l.depth + 3

abbrev pub decreases-quasiquoted : goal.decreases-quasiquoted
decreases-quasiquoted l = 8 * l.depth + 3

abbrev pub decreases-element : goal.decreases-element
decreases-element l = 8 * l.depth + 4

abbrev pub decreases-ending : goal.decreases-ending
decreases-ending l = 8 * l.depth + 4

abbrev pub decreases-elements : goal.decreases-elements
decreases-elements l = 8 * l.depth + 5

abbrev pub decreases-chain : goal.decreases-chain
decreases-chain l = 8 * l.depth + 6

abbrev pub decreases-row : goal.decreases-row
decreases-row l = 8 * l.depth + 7

-- the items before those that are left are listed
abbrev pub invariant-elements-loop-first : goal.invariant-elements-loop-first
invariant-elements-loop-first l =
    (ds : Items) → StandAll l.fn.nodes l.fn.items ds
    → SomeListed l.fn.nodes l.rest l.fn.level l.listed.plain l.listed.found l.initial.parts.items l.parts.items ds

abbrev pub decreases-elements-loop-first : goal.decreases-elements-loop-first
decreases-elements-loop-first l = length l.rest
