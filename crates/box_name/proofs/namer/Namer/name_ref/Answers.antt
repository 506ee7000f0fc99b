use Rattle.std.proofs.Common.{rules, subst, sym, refl, ◌∙◌}
use Rattle.std.proofs.lemmas.Result.{IfOk-weaker}
use Rattle.named_form.specs.Code as act
use Rattle.box_name.specs.NamingSteps.{EmitsExpr}
use Rattle.box_name.specs.Told.{reference}
use Rattle.box_name.proofs.Acts.{binds_as, unbox_is, top_get_is}
use Rattle.box_name.proofs.Emitting.{emit_boxed, emit_plain, emit_top}
use Rattle.box_name.proofs.namer.Namer.name_ref.Goals as goal

pub returns-then-is_boxed : goal.returns-then-is_boxed
returns-then-is_boxed c =
    IfOk-weaker c.bind.result _ _
    (λ v bound s fits n p.
    subst (λ x. EmitsExpr s n p c.args.self.now c.bind.new.self c.args.steps.now.items c.bind.new.steps.items (reference c.args.pos x) v)
    (sym c.in-Local.is)
    (emit_boxed s n p c.args.self.now c.bind.new.self c.args.steps.now.items c.bind.new.steps.items c.args.pos v c.in-Local.number
    c.in_ok-local-in-Local.local c.is_hole-checked.result (sym (c.is_boxed.ensures s fits) ∙ c.if-is_boxed.true)
    (c.is_hole-checked.ensures s fits) c.in_ok-local-in-Local.ensures
    (binds_as _ _ _ _ _ _ (act.Unbox c.in_ok-local-in-Local.local c.is_hole-checked.result) _
    (unbox_is c.in_ok-local-in-Local.local c.is_hole-checked.result) bound)))
    c.bind.ensures

pub returns-else-is_boxed : goal.returns-else-is_boxed
returns-else-is_boxed c =
    λ s fits n p.
    subst (λ x. EmitsExpr s n p c.args.self.now c.args.self.now c.args.steps.now.items c.args.steps.now.items (reference c.args.pos x) c.in_ok-local-in-Local.local)
    (sym c.in-Local.is)
    (emit_plain s n p c.args.self.now c.args.self.now c.args.steps.now.items c.args.steps.now.items c.args.pos c.in_ok-local-in-Local.local
    c.in-Local.number (sym (c.is_boxed.ensures s fits) ∙ c.if-is_boxed.false) c.in_ok-local-in-Local.ensures refl refl)

pub returns-in_ok-top-in-Top : goal.returns-in_ok-top-in-Top
returns-in_ok-top-in-Top c =
    IfOk-weaker c.bind-in-Top.result _ _
    (λ v bound s fits n p.
    subst (λ x. EmitsExpr s n p c.args.self.now c.bind-in-Top.new.self c.args.steps.now.items c.bind-in-Top.new.steps.items (reference c.args.pos x) v)
    (sym c.in-Top.is)
    (emit_top s n p c.args.self.now c.bind-in-Top.new.self c.args.steps.now.items c.bind-in-Top.new.steps.items c.args.pos v c.in-Top.var
    c.in_ok-top-in-Top.top c.is_checked-checked.result (c.in_ok-top-in-Top.ensures s fits) (c.is_checked-checked.ensures s fits)
    (binds_as _ _ _ _ _ _ (act.TopGet c.in_ok-top-in-Top.top c.is_checked-checked.result) _
    (top_get_is c.in_ok-top-in-Top.top c.is_checked-checked.result) bound)))
    c.bind-in-Top.ensures
