use Rattle.std.proofs.Common.{◌≡◌, length}
use Rattle.scheme_expand.specs.Naming.{name_list}
use Rattle.scheme_expand.proofs.Numbering.{SomeNamed}
use Rattle.scheme_expand.proofs.words.Words.numbers.Given as goal

-- the nodes before those that are left have their numbers
abbrev pub invariant-loop-first : goal.invariant-loop-first
invariant-loop-first l =
    SomeNamed (name_list l.initial.self) (name_list l.self) l.numbers.items l.fn.nodes l.rest
    × (l.self.helpers ≡ l.initial.self.helpers)

abbrev pub decreases-loop-first : goal.decreases-loop-first
decreases-loop-first l = length l.rest
