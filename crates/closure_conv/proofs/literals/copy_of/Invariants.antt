use Rattle.std.proofs.Common.{◌≡◌, take}
use Rattle.closure_conv.proofs.literals.copy_of.Given as goal

abbrev pub invariant-loop-lit : goal.invariant-loop-lit
invariant-loop-lit l = l.copy ≡ take l.lit-index l.lit-items
