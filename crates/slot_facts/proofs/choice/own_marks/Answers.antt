use Rattle.std.proofs.Common.{subst, ◌∙◌}
use Rattle.slot_facts.specs.Marks.{MarksOf}
use Rattle.slot_facts.proofs.choice.own_marks.Goals as goal

pub returns : goal.returns
returns c =
    subst (λ xs. MarksOf c.args.vars xs c.in_ok-marks.marks.items) (c.as_slice.ensures ∙ c.in_ok-own.ensures) c.in_ok-marks.ensures
