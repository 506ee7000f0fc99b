use Rattle.std.proofs.Common.{◌≡◌, ℕ, ◌<◌, Some, slice_get}
use Rattle.flow_form.specs.declared.rule.Rule.{Rule}
use Rattle.flow_form.specs.Valid.{RuleNames}
use Rattle.flow_form.proofs.constraints.all_named.Given as goal

-- the rules below the index name what is there
abbrev pub invariant-loop-rule : goal.invariant-loop-rule
invariant-loop-rule l =
    (at : ℕ) (rule : Rule) → at < l.rule-index → slice_get l.rules at ≡ Some rule → RuleNames l.rows l.atoms rule
