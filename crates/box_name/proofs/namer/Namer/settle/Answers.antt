use Rattle.std.proofs.Common.{◌≡◌, true, false, rules, subst, sym, refl, ◌∙◌, ◌∷◌, []}
use Rattle.std.proofs.lemmas.Result.{on_ok_weaker}
use Rattle.named_form.specs.Code.{MakeBox}
use Rattle.box_name.specs.NamingSteps.{Settles}
use Rattle.box_name.specs.Told.{number}
use Rattle.box_name.proofs.Acts.{binds_as, make_box_is}
use Rattle.box_name.proofs.Numbering.{settle_boxed, settle_plain}
use Rattle.box_name.proofs.namer.Namer.settle.Goals as goal

pub returns-in_ok-boxed : goal.returns-in_ok-boxed
returns-in_ok-boxed c =
    on_ok_weaker c.place.result
    (λ noted s fits n p.
    subst (λ x. Settles s n p c.args.self.now c.place.new.self c.args.steps.now.items c.bind.new.steps.items c.args.pos (number x) c.args.var)
    (sym c.in-Local.is)
    (settle_boxed s n p c.args.self.now c.bind.new.self c.place.new.self c.args.steps.now.items c.bind.new.steps.items c.args.pos
    c.in-Local.number c.args.var c.in_ok-boxed.boxed (sym (c.is_boxed.ensures s fits) ∙ c.if-is_boxed.true)
    (binds_as _ _ _ _ _ _ (MakeBox c.args.var) _ (make_box_is c.args.var) c.in_ok-boxed.ensures) noted))
    c.place.ensures

pub returns-else-is_boxed : goal.returns-else-is_boxed
returns-else-is_boxed c =
    on_ok_weaker c.place-else-is_boxed.result
    (λ noted s fits n p.
    subst (λ x. Settles s n p c.args.self.now c.place-else-is_boxed.new.self c.args.steps.now.items c.args.steps.now.items c.args.pos (number x) c.args.var)
    (sym c.in-Local.is)
    (settle_plain s n p c.args.self.now c.place-else-is_boxed.new.self c.args.steps.now.items c.args.pos c.in-Local.number c.args.var
    (sym (c.is_boxed.ensures s fits) ∙ c.if-is_boxed.false) noted))
    c.place-else-is_boxed.ensures
