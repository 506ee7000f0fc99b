use Rattle.std.proofs.Common.{ℕ, Some, slice_get, ◌≡◌, ◌*◌, ◌<◌, ◌≤◌}
use Rattle.flow_form.specs.declared.rule.Rule.{Rule}
use Rattle.flow_form.specs.Least.{Gives, Within}
use Rattle.flow_form.specs.Race.{Seen}
use Rattle.flow_form.specs.Shape.{In}
use Rattle.flow_plain.proofs.follow.block_seen.Given as goal

-- what the block's rules below the index give has been seen
abbrev pub invariant-loop-index : goal.invariant-loop-index
invariant-loop-index l =
    (index : ℕ) (rule : Rule) → l.block * 1024 ≤ index → index < l.index → slice_get l.c.rules index ≡ Some rule
    → Within (Gives (In l.c l.base) rule) (Seen l.c l.seat)
