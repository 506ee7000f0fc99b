use Rattle.std.proofs.Common.{sym, ◌∙◌, arith}
use Rattle.std.proofs.lemmas.Bool.{false≢true}
use Rattle.flow_plain.proofs.PlainSteps.{step_adds, step_ends}
use Rattle.flow_plain.proofs.solve.step.Goals as goal

pub returns-then-within : goal.returns-then-within
returns-then-within c =
    step_ends c.args.c.now c.args.words.now c.args.next.now c.apply_rules.new.next c.requires.copy c.apply_rules.ensures
    (c.within.ensures.0 c.if-within.true)

pub returns : goal.returns
returns c =
    step_adds c.args.c.now c.args.words.now c.args.next.now c.apply_rules.new.next c.union_into.new.to (omega arith)
    c.requires.copy c.apply_rules.ensures
    (λ subset. false≢true (sym c.if-within.false ∙ c.within.ensures.1 subset)) c.union_into.ensures
