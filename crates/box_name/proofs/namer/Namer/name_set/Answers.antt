use Rattle.std.proofs.Common.{rules, subst, sym, refl, ◌∙◌}
use Rattle.std.proofs.lemmas.Result.{IfOk-weaker}
use Rattle.named_form.specs.Code as act
use Rattle.box_name.specs.NamingSteps.{EmitsExpr}
use Rattle.box_name.specs.Told.{assignment}
use Rattle.box_name.proofs.Acts.{binds_as, set_box_is, top_set_is}
use Rattle.box_name.proofs.Emitting.{emit_set_local, emit_set_top}
use Rattle.box_name.proofs.namer.Namer.name_set.Goals as goal

pub returns-in_ok-boxed-in-Local : goal.returns-in_ok-boxed-in-Local
returns-in_ok-boxed-in-Local c =
    IfOk-weaker c.bind.result _ _
    (λ v bound s fits n p first start e part.
    subst (λ x. EmitsExpr s n p first c.bind.new.self start c.bind.new.steps.items (assignment c.args.pos x e) v) (sym c.in-Local.is)
    (emit_set_local s n p first c.args.self.now c.bind.new.self start c.args.steps.now.items c.bind.new.steps.items c.args.pos e v c.args.from
    c.in-Local.number c.in_ok-boxed-in-Local.boxed part c.in_ok-boxed-in-Local.ensures
    (binds_as _ _ _ _ _ _ (act.SetBox c.in_ok-boxed-in-Local.boxed c.args.from) _ (set_box_is c.in_ok-boxed-in-Local.boxed c.args.from) bound)))
    c.bind.ensures

pub returns-in_ok-top-in-Top : goal.returns-in_ok-top-in-Top
returns-in_ok-top-in-Top c =
    IfOk-weaker c.bind-in-Top.result _ _
    (λ v bound s fits n p first start e part.
    subst (λ x. EmitsExpr s n p first c.bind-in-Top.new.self start c.bind-in-Top.new.steps.items (assignment c.args.pos x e) v) (sym c.in-Top.is)
    (emit_set_top s n p first c.args.self.now c.bind-in-Top.new.self start c.args.steps.now.items c.bind-in-Top.new.steps.items c.args.pos e v
    c.args.from c.in-Top.var c.in_ok-top-in-Top.top c.is_checked-checked.result part (c.in_ok-top-in-Top.ensures s fits)
    (c.is_checked-checked.ensures s fits)
    (binds_as _ _ _ _ _ _ (act.TopSet c.in_ok-top-in-Top.top c.args.from c.is_checked-checked.result) _
    (top_set_is c.in_ok-top-in-Top.top c.args.from c.is_checked-checked.result) bound)))
    c.bind-in-Top.ensures
