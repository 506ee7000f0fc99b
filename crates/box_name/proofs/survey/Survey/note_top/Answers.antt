use Rattle.std.proofs.Common.{refl}
use Rattle.box_name.proofs.Finding.{finds_none}
use Rattle.box_name.proofs.Knowing.{finds_top}
use Rattle.box_name.proofs.survey.Survey.note_top.Goals as goal

pub returns-in-Local : goal.returns-in-Local
returns-in-Local c = λ core form. rw c.in-Local.is (finds_none core form c.args.self.now)

pub returns-in_ok-insert-in-Top : goal.returns-in_ok-insert-in-Top
returns-in_ok-insert-in-Top c =
    λ core form.
    rw c.in-Top.is
    (finds_top core form _ _ c.of.result c.in-Top.var refl refl refl refl c.in_ok-insert-in-Top.ensures.keys c.of.ensures)
