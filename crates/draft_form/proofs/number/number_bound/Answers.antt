use Rattle.std.proofs.Common.{List, sym, ap, subst, ◌∙◌}
use Rattle.draft_form.specs.declared.draft.Variable.{Variable}
use Rattle.draft_form.specs.Numbering.{NumbersAll}
use Rattle.draft_form.specs.Parts.{bound_in}
use Rattle.draft_form.proofs.LiteralsAdded.{on_ok}
use Rattle.draft_form.proofs.number.number_bound.Goals as goal

pub returns-in-Lambda : goal.returns-in-Lambda
returns-in-Lambda c =
    on_ok c.number_all.result
    (λ numbers words g h.
    let P : List Variable → Type 0 = λ vs.
    NumbersAll words vs c.args.levels.now c.number_all.new.self c.args.visits.now.items c.number_all.new.visits.items g in
    subst P (c.as_slice.ensures ∙ sym (ap bound_in c.in-Lambda.is)) (numbers words g h))
    c.number_all.ensures

pub returns-in-Fix : goal.returns-in-Fix
returns-in-Fix c =
    on_ok c.number_all-in-Fix.result
    (λ numbers words g h.
    let P : List Variable → Type 0 = λ vs.
    NumbersAll words vs c.args.levels.now c.number_all-in-Fix.new.self c.args.visits.now.items c.number_all-in-Fix.new.visits.items g in
    subst P (c.as_slice-in-Fix.ensures ∙ sym (ap bound_in c.in-Fix.is)) (numbers words g h))
    c.number_all-in-Fix.ensures
