use Rattle.std.proofs.Common.{[], ◌∷◌, if◌then◌else◌, sym, subst}
use Rattle.std.proofs.lemmas.Result.{on_ok_weaker}
use Rattle.box_name.specs.Finding.{Finds}
use Rattle.box_name.specs.Told.{number}
use Rattle.box_name.proofs.Finding.{finds_none}
use Rattle.box_name.proofs.survey.Survey.note_operand.Goals as goal

pub returns-then-hole : goal.returns-then-hole
returns-then-hole c =
    on_ok_weaker c.note_hole.result
    (λ found core form.
    subst (λ t. Finds core form c.args.self.now c.note_hole.new.self [] [] (if t then number c.args.param.now ∷ [] else []) [])
    (sym c.if-hole.true) (found core form))
    c.note_hole.ensures

pub returns-else-hole : goal.returns-else-hole
returns-else-hole c =
    λ core form.
    subst (λ t. Finds core form c.args.self.now c.args.self.now [] [] (if t then number c.args.param.now ∷ [] else []) [])
    (sym c.if-hole.false) (finds_none core form c.args.self.now)
