use Rattle.std.proofs.Common.{sym, subst}
use Rattle.image_build.specs.Emitted.{IsLater, PassesEarly}
use Rattle.image_build.proofs.Naming.{is_named_of}
use Rattle.image_build.proofs.Refusals.{too_deep}
use Rattle.image_build.proofs.front.named_core.Goals as goal

pub returns-in-Ok-name-clause-is_named : goal.returns-in-Ok-name-clause-is_named
returns-in-Ok-name-clause-is_named c = λ source ds reads expands.
    is_named_of source ds c.args.core.now c.in-Ok.renamed c.in-Ok-name.named reads expands c.known_types.ensures
    c.in-Ok.ensures c.in-Ok-name.ensures.is_named c.in-Ok-name.ensures.well_formed

pub returns-in-Err-clause-refused : goal.returns-in-Err-clause-refused
returns-in-Err-clause-refused c = λ source ds reads expands.
    subst (IsLater (PassesEarly source)) (sym c.limit_error.ensures)
    (too_deep source ds c.args.core.now c.in-Err.error reads expands c.in-Err.ensures)
