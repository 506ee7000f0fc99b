use Rattle.std.proofs.Common.{ℕ, ◌/◌, ◌<◌}
use Rattle.flow_form.specs.Race.{Seen}
use Rattle.flow_plain.specs.Rules.{GivesTo}
use Rattle.flow_plain.proofs.follow.gift_seen.Given as goal

-- what is given in the words below `at` has been seen
abbrev pub invariant-loop-at : goal.invariant-loop-at
invariant-loop-at l =
    (row atom : ℕ) → GivesTo l.c l.base l.rule row atom → atom / 64 < l.at → Seen l.c l.seat row atom
