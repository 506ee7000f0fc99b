use Rattle.std.proofs.Common.{ℕ, ◌⊎◌, ◌↔◌}
use Rattle.flow_form.specs.Shape.{In}
use Rattle.flow_plain.proofs.Rules.{GivenBelow}
use Rattle.flow_plain.proofs.solve.apply_rules.Given as goal

-- what the rules below the index give has been put in
abbrev pub invariant-loop-rule : goal.invariant-loop-rule
invariant-loop-rule l =
    (row atom : ℕ)
    → In l.c l.next row atom ↔ (In l.c l.initial.next row atom ⊎ GivenBelow l.c l.words l.rule-index row atom)
