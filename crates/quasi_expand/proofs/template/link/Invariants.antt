use Rattle.std.proofs.Common.{length}
use Rattle.datum_form.specs.Data.{Items}
use Rattle.datum_form.specs.Stands.{StandAll}
use Rattle.quasi_expand.proofs.Linking.{SomeLinked}
use Rattle.quasi_expand.proofs.template.link.Given as goal

-- the items behind those that are left are put
abbrev pub invariant-loop-last : goal.invariant-loop-last
invariant-loop-last l =
    (ds : Items) → StandAll l.nodes l.items ds → SomeLinked l.nodes l.rest l.level l.initial.parts.items l.parts.items ds

abbrev pub decreases-loop-last : goal.decreases-loop-last
decreases-loop-last l = length l.rest
