use Rattle.std.proofs.Common.{ℕ, ◌/◌, ◌<◌, ◌⊎◌, ◌↔◌}
use Rattle.flow_form.specs.Shape.{In}
use Rattle.flow_plain.specs.Rules.{GivesTo}
use Rattle.flow_plain.proofs.solve.give.Given as goal

-- what the rule gives in the words below `at` has been put in
abbrev pub invariant-loop-at : goal.invariant-loop-at
invariant-loop-at l =
    (row atom : ℕ)
    → In l.c l.next row atom
    ↔ (In l.c l.initial.next row atom ⊎ (GivesTo l.c l.words l.rule row atom × (atom / 64 < l.at)))
