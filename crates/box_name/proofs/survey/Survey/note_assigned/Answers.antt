use Rattle.std.proofs.Common.{refl}
use Rattle.box_name.proofs.Knowing.{finds_assigned, finds_top}
use Rattle.box_name.proofs.survey.Survey.note_assigned.Goals as goal

pub returns-in_ok-insert-in-Local : goal.returns-in_ok-insert-in-Local
returns-in_ok-insert-in-Local c =
    λ core form.
    rw c.in-Local.is
    (finds_assigned core form _ _ c.in-Local.number refl refl refl refl c.in_ok-insert-in-Local.ensures.updates.0)

pub returns-in_ok-insert-in-Top : goal.returns-in_ok-insert-in-Top
returns-in_ok-insert-in-Top c =
    λ core form.
    rw c.in-Top.is
    (finds_top core form _ _ c.of.result c.in-Top.var refl refl refl refl c.in_ok-insert-in-Top.ensures.keys c.of.ensures)
