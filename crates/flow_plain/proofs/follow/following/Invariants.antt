use Rattle.std.proofs.Common.{ℕ, ◌≡◌, ◌+◌, ◌*◌, ◌/◌, ◌%◌, ◌<◌, ◌↔◌}
use Rattle.std.specs.Int.{bit_at}
use Rattle.flow_form.specs.Shape.{stride_of}
use Rattle.flow_plain.proofs.Rules.{GivenBelow}
use Rattle.flow_plain.proofs.follow.following.Given as goal

-- the bits that the rules below the index give
abbrev pub invariant-loop-rule : goal.invariant-loop-rule
invariant-loop-rule l =
    (bit : ℕ) → bit < 64
    → (bit_at l.bits bit ≡ 1)
    ↔ GivenBelow l.c l.words l.rule-index (l.word / stride_of l.c) (64 * (l.word % stride_of l.c) + bit)
