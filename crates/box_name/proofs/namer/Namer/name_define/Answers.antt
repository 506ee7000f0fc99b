use Rattle.std.proofs.Common.{rules, subst, sym, refl, ◌∙◌}
use Rattle.std.proofs.lemmas.Result.{IfOk-weaker}
use Rattle.named_form.specs.Code as act
use Rattle.box_name.specs.NamingSteps.{EmitsExpr}
use Rattle.box_name.specs.Told.{Define, top_name}
use Rattle.box_name.proofs.Acts.{binds_as, top_define_is}
use Rattle.box_name.proofs.Emitting.{emit_define}
use Rattle.box_name.proofs.namer.Namer.name_define.Goals as goal

pub returns-in_ok-top-in-Top : goal.returns-in_ok-top-in-Top
returns-in_ok-top-in-Top c =
    IfOk-weaker c.bind.result _ _
    (λ v bound s fits n p first start e part.
    subst (λ x. EmitsExpr s n p first c.bind.new.self start c.bind.new.steps.items (Define c.args.pos (top_name x) e) v) (sym c.in-Top.is)
    (emit_define s n p first c.args.self.now c.bind.new.self start c.args.steps.now.items c.bind.new.steps.items c.args.pos e v c.args.from
    c.in-Top.var c.in_ok-top-in-Top.top part (c.in_ok-top-in-Top.ensures s fits)
    (binds_as _ _ _ _ _ _ (act.TopDefine c.in_ok-top-in-Top.top c.args.from) _ (top_define_is c.in_ok-top-in-Top.top c.args.from) bound)))
    c.bind.ensures
