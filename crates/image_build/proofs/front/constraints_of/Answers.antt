use Rattle.std.proofs.Common.{sym, subst}
use Rattle.image_build.specs.Emitted.{IsLater, PassesEarly}
use Rattle.image_build.proofs.Refusals.{too_many}
use Rattle.image_build.proofs.front.constraints_of.Goals as goal

pub returns-in-Err-clause-refused : goal.returns-in-Err-clause-refused
returns-in-Err-clause-refused c = λ source is_named.
    subst (IsLater (PassesEarly source)) (sym c.limit_error.ensures)
    (too_many source c.args.named.now c.in-Err.error is_named c.in-Err.ensures.refused)
