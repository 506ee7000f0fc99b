use Rattle.std.proofs.Common.{◌≡◌, ◌++◌, ◌-◌, length}
use Rattle.std.specs.Prelude.{reverse}
use Rattle.flow_constraints.specs.Table.{parts_of, parts_under}
use Rattle.flow_constraints.proofs.literals.parts_under.Given as goal

abbrev pub invariant-loop-taken : goal.invariant-loop-taken
invariant-loop-taken l =
    l.parts.items ++ parts_under l.flow l.lits (length l.lits - l._taken) (reverse l.coming.items)
    ≡ parts_under l.flow l.lits (length l.lits) (parts_of l.flow l.lits l.lit)
