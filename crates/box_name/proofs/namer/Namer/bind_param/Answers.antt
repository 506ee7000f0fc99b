use Rattle.std.proofs.Common.{None, Some, rules, subst, sym, refl, ◌∙◌}
use Rattle.std.proofs.lemmas.Result.{on_ok_weaker}
use Rattle.named_form.specs.Code.{Copy, MakeHole}
use Rattle.box_name.specs.NamingSteps.{BindsParam}
use Rattle.box_name.specs.Told.{number}
use Rattle.box_name.proofs.Acts.{binds_as, copy_is, make_hole_is}
use Rattle.box_name.proofs.Numbering.{bind_value, bind_hole}
use Rattle.box_name.proofs.namer.Namer.bind_param.Goals as goal

pub returns-in_ok-var-in-Some : goal.returns-in_ok-var-in-Some
returns-in_ok-var-in-Some c =
    on_ok_weaker c.settle.result
    (λ settled s fits n p.
    subst (λ v. BindsParam s n p c.args.self.now c.settle.new.self c.args.steps.now.items c.settle.new.steps.items c.args.pos (number c.args.param.now) v)
    (sym c.in-Some.is)
    (bind_value s n p c.args.self.now c.bind.new.self c.settle.new.self c.args.steps.now.items c.bind.new.steps.items
    c.settle.new.steps.items c.args.pos (number c.args.param.now) c.in-Some.from c.in_ok-var-in-Some.var
    (binds_as _ _ _ _ _ _ (Copy c.in-Some.from) _ (copy_is c.in-Some.from) c.in_ok-var-in-Some.ensures) (settled s fits)))
    c.settle.ensures

pub returns-in_ok-boxed-in-None : goal.returns-in_ok-boxed-in-None
returns-in_ok-boxed-in-None c =
    on_ok_weaker c.place.result
    (λ noted s fits n p.
    subst (λ v. BindsParam s n p c.args.self.now c.place.new.self c.args.steps.now.items c.bind-in-None.new.steps.items c.args.pos (number c.args.param.now) v)
    (sym c.in-None.is)
    (subst (λ x. BindsParam s n p c.args.self.now c.place.new.self c.args.steps.now.items c.bind-in-None.new.steps.items c.args.pos (number x) None)
    (sym c.in-Local.is)
    (bind_hole s n p c.args.self.now c.bind-in-None.new.self c.place.new.self c.args.steps.now.items c.bind-in-None.new.steps.items c.args.pos
    c.in-Local.number 0 c.in_ok-boxed-in-None.boxed (binds_as _ _ _ _ _ _ MakeHole _ make_hole_is c.in_ok-boxed-in-None.ensures) noted)))
    c.place.ensures
