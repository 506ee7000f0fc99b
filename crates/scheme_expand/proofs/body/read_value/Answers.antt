use Rattle.std.proofs.Common.{refl}
use Rattle.scheme_expand.proofs.Due.{none_left}
use Rattle.scheme_expand.proofs.Targets.{no_value, one_value}
use Rattle.scheme_expand.proofs.body.read_value.Goals as goal

pub returns-in_default : goal.returns-in_default
returns-in_default c = λ s w ds p h k bs. no_value s w ds p bs _ k (none_left _ c.in_default.ensures.cases)

pub returns-in-None : goal.returns-in-None
returns-in-None c = λ s w ds p h k.
    one_value s _ w ds p c.args.name c.in-Some.value.now _ _ h refl refl k c.in-Some.ensures.cases.0
    (none_left _ c.in-None.ensures.cases)
