use Rattle.std.proofs.Common.{◌≡◌, subst}
use Rattle.std.proofs.lemmas.Result.{on_ok_weaker}
use Rattle.box_name.specs.NamingSteps.{Settles}
use Rattle.box_name.specs.Told.{number}
use Rattle.box_name.proofs.namer.Namer.settle_last.Goals as goal

pub returns-in-Some : goal.returns-in-Some
returns-in-Some c =
    on_ok_weaker c.settle.result
    (λ settled s fits n p v is.
    let same : c.in-Some.var ≡ v = cc (is, c.in-Some.is) in
    subst (λ u. Settles s n p c.args.self.now c.settle.new.self c.args.steps.now.items c.settle.new.steps.items c.args.pos (number c.args.param.now) u)
    same (settled s fits n p))
    c.settle.ensures

pub returns-in-None : goal.returns-in-None
returns-in-None c = λ s fits n p v is. absurd (cc (is, c.in-None.is))
