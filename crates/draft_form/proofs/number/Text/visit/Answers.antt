use Rattle.std.proofs.Common.{[], ◌∷◌, ◌++◌, subst}
use Rattle.draft_form.specs.declared.level.Visit.{Visit}
use Rattle.draft_form.specs.Numbering.{walk, Goes}
use Rattle.draft_form.proofs.LiteralsAdded.{on_ok}
use Rattle.draft_form.proofs.VisitsLead.{restored}
use Rattle.draft_form.proofs.number.Text.visit.Goals as goal

pub returns-in-Begin-clause-goes : goal.returns-in-Begin-clause-goes
returns-in-Begin-clause-goes c =
    on_ok c.begin.result
    (λ goes course h.
    let P : Visit → Type 0 = λ v. Goes (walk c.args.self.now course) (c.args.visits.now.items ++ v ∷ []) c.args.levels.now c.args.growing.now in
    goes course (subst P c.in-Begin.is h))
    c.begin.ensures.goes

pub returns-in-End-clause-goes : goal.returns-in-End-clause-goes
returns-in-End-clause-goes c =
    on_ok c.end.result
    (λ goes course h.
    let P : Visit → Type 0 = λ v. Goes (walk c.args.self.now course) (c.args.visits.now.items ++ v ∷ []) c.args.levels.now c.args.growing.now in
    goes course c.args.visits.now.items (subst P c.in-End.is h))
    c.end.ensures.goes

pub returns-in-Restore-clause-goes : goal.returns-in-Restore-clause-goes
returns-in-Restore-clause-goes c =
    on_ok c.set.result
    (λ gives course h.
    let P : Visit → Type 0 = λ v. Goes (walk c.args.self.now course) (c.args.visits.now.items ++ v ∷ []) c.args.levels.now c.args.growing.now in
    restored (walk c.args.self.now course) c.in-Restore.level c.in-Restore.number c.args.visits.now.items c.args.levels.now c.set.new.self
    c.args.growing.now c.set.ensures.fresh gives (subst P c.in-Restore.is h))
    c.set.ensures.numbers
