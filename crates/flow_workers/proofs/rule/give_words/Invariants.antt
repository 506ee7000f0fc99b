use Rattle.flow_workers.specs.PassSteps.{Steps}
use Rattle.flow_workers.proofs.rule.give_words.Given as goal

abbrev pub invariant-loop-at : goal.invariant-loop-at
invariant-loop-at l = Steps l.c l.table l.initial.pass l.pass
