use Rattle.std.proofs.Common.{refl}
use Rattle.box_name.proofs.Knowing.{finds_hole}
use Rattle.box_name.proofs.survey.Survey.note_hole.Goals as goal

pub returns-in_ok-insert-in-Local : goal.returns-in_ok-insert-in-Local
returns-in_ok-insert-in-Local c =
    λ core form.
    rw c.in-Local.is
    (finds_hole core form _ _ c.in-Local.number refl refl refl refl c.in_ok-insert-in-Local.ensures.updates.0)
