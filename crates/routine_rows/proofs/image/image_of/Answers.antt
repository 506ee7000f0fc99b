use Rattle.routine_rows.proofs.Loading.{loadable}
use Rattle.routine_rows.proofs.image.image_of.Goals as goal

pub returns-in-Ok : goal.returns-in-Ok
returns-in-Ok c = loadable c.in-Ok.image (c.in-Ok.ensures.valid c.in_ok-parts.ensures.1)
