use Rattle.std.proofs.Common.{◌-◌, ◌*◌}
use Rattle.flow_form.specs.Shape.{pairs_in, size_of}
use Rattle.flow_plain.proofs.PlainSteps.{Progress}
use Rattle.flow_plain.proofs.solve.take_steps.Given as goal

abbrev pub invariant-loop-steps : goal.invariant-loop-steps
invariant-loop-steps l = Progress l.c l.words l.next l.steps

-- the pairs that are not yet there
abbrev pub decreases-loop-steps : goal.decreases-loop-steps
decreases-loop-steps l = 64 * size_of l.c - pairs_in l.words
