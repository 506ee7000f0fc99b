use Rattle.std.proofs.Common.{List, subst, take, arith}
use Rattle.std.proofs.lemmas.List.{take_more}
use Rattle.draft_form.specs.declared.draft.Variable.{Variable}
use Rattle.draft_form.specs.Numbering.{NumbersAll}
use Rattle.draft_form.proofs.LevelsGiven.{numbered_then}
use Rattle.draft_form.proofs.LiteralsAdded.{taken_all}
use Rattle.draft_form.proofs.level.Levels.number_all.Goals as goal

pub loop-variable-preserved : goal.loop-variable-preserved
loop-variable-preserved c = λ words g h.
    numbered_then words (take c.loop-variable.variable-index c.args.variables.now) _ _ c.args.self.now c.loop-variable.self
    c.number.new.self c.args.visits.now.items c.loop-variable.visits.items c.number.new.visits.items g
    (take_more c.args.variables.now c.loop-variable.variable-index _ c.loop-variable-test.true)
    (c.loop-variable.invariant words g h) (λ f k. c.in_ok-number.ensures words f k)

pub returns : goal.returns
returns c = λ words g h.
    let P : List Variable → Type 0 = λ vs.
    NumbersAll words vs c.args.self.now c.loop-variable.self c.args.visits.now.items c.loop-variable.visits.items g in
    subst P (taken_all c.args.variables.now c.loop-variable.variable-index (omega (arith, c.loop-variable-test.false)))
    (c.loop-variable.invariant words g h)
