use Rattle.scheme_expand.proofs.Parameters.{not_named}
use Rattle.scheme_expand.proofs.Targets.{name_target}
use Rattle.scheme_expand.proofs.body.read_target.Goals as goal

pub returns-in-Some : goal.returns-in-Some
returns-in-Some c = λ d ds p h k.
    name_target c.args.source c.args.target _ d ds p c.read_value.result _ h c.word.ensures c.in-Some.is
    (λ v q. c.read_value.ensures c.args.source v ds p q k)

pub returns-in-None : goal.returns-in-None
returns-in-None c = λ d ds p h k.
    c.read_named.ensures d ds p h (not_named c.args.source c.args.target d _ h c.word.ensures c.in-None.is) k
