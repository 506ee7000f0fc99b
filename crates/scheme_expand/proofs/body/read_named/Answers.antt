use Rattle.scheme_expand.proofs.Targets.{list_target, no_target}
use Rattle.scheme_expand.proofs.body.read_named.Goals as goal

pub returns-in-Some : goal.returns-in-Some
returns-in-Some c = λ d ds p h n k.
    let i = c.in-Some.ensures d h in
    list_target c.args.source _ _ d ds p c.read_procedure.result i
    (c.read_procedure.ensures i.items i.end ds i.at p i.read i.ends k)

pub returns-in-None : goal.returns-in-None
returns-in-None c = λ d ds p h n k bs. no_target d ds p bs n (c.in-None.ensures d h)
