use Rattle.std.proofs.Common.{◌≡◌, drop, map}
use Rattle.plan_facts.specs.Represented.{any_refused}
use Rattle.repr_choice.specs.Wanted.{kind_of}
use Rattle.repr_choice.proofs.checks.any_refused.Given as goal

abbrev pub invariant-loop-at : goal.invariant-loop-at
invariant-loop-at l =
    any_refused l.flow l.rows (map kind_of (drop l.at l.wanted)) (drop l.at l.operands)
    ≡ any_refused l.flow l.rows (map kind_of l.wanted) l.operands
