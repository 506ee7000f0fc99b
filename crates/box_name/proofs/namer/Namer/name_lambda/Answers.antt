use Rattle.std.proofs.Common.{rules, subst, sym, refl, ap}
use Rattle.std.proofs.lemmas.Result.{IfOk-weaker}
use Rattle.named_form.specs.Code as act
use Rattle.box_name.proofs.Acts.{binds_as, closure_is}
use Rattle.box_name.proofs.Emitting.{named_lambda}
use Rattle.box_name.proofs.namer.Namer.name_lambda.Goals as goal

pub returns : goal.returns
returns c =
    IfOk-weaker c.bind.result _ _
    (λ v bound e st at s fits n p.
    named_lambda s n p c.args.self.now c.bind.new.self c.args.steps.now.items c.bind.new.steps.items c.args.pos v c.args.stand.core.now.lits e
    c.procedure.new.self c.in_ok-proc.proc at (c.in_ok-proc.ensures e st s fits)
    (binds_as _ _ _ _ _ _ (act.Closure c.in_ok-proc.proc) _ (closure_is c.in_ok-proc.proc) bound))
    c.bind.ensures
