use Rattle.std.proofs.Common.{◌≡◌}
use Rattle.named_form.specs.Tallies.{met_code}
use Rattle.named_form.proofs.Folds.{left}
use Rattle.named_form.proofs.tally.+tally.Given as goal

abbrev pub invariant-meet_block-loop-at : goal.invariant-meet_block-loop-at
invariant-meet_block-loop-at l =
    met_code l.tail (left l.block l.steps l.at) l.tally ≡ met_code l.tail (left l.block l.steps 0) l.initial.tally
