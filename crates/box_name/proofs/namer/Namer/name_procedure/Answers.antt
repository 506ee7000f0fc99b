use Rattle.std.proofs.Common.{rules, refl, length, ◌∙◌, sym, ap, subst, Some}
use Rattle.core_form.specs.declared.program.What.TheVariants as form
use Rattle.alpha_core.proofs.Shapes.{node_of, lambda_tree}
use Rattle.named_form.specs.declared.program.Act.{Act}
use Rattle.named_form.specs.declared.program.Block.{Block, Block-F, out-roll-Block, roll-Block}
use Rattle.named_form.specs.declared.program.Proc.{Proc}
use Rattle.named_form.specs.declared.program.Step.{Step}
use Rattle.named_form.specs.Valid.{numbers_from}
use Rattle.box_name.specs.Procedures.{NamesProc, TakesVars}
use Rattle.box_name.specs.Told.{told, numbers, option_number}
use Rattle.box_name.proofs.Boxing.{make_proc, many_numbers}
use Rattle.box_name.proofs.namer.Namer.name_procedure.Goals as goal

pub returns : goal.returns
returns c =
    λ e st s fits n p.
    let xs = c.in-Lambda.params in
    let layer : Block-F Act Block Step = record { steps = c.from_vec.result; value = Some c.in_ok-value.value } in
    let proc : Proc =
    record { params = c.in_ok-vars.vars; rest = c.in_ok-last.last; body = roll-Block layer; pos = c.in-Some.node.now.pos } in
    lambda_tree c.args.stand.core.now.exprs c.args.lambda c.in-Some.node.now.pos e
    (λ t. NamesProc s n p c.args.self.now c.name_expr.new.self (told c.args.stand.core.now.lits t) proc) xs c.in-Lambda.rest c.in-Lambda.body
    (node_of c.args.stand.core.now.exprs c.args.lambda c.in-Some.node.now (form.Lambda xs c.in-Lambda.rest c.in-Lambda.body) c.in-Some.ensures.value c.in-Lambda.is)
    (λ b sb.
    make_proc s n p c.args.self.now c.param_vars.new.self c.rest_var.new.self c.settle_params.new.self c.settle_rest.new.self
    c.name_expr.new.self c.settle_params.new.steps.items c.settle_rest.new.steps.items c.name_expr.new.steps.items c.in-Some.node.now.pos
    (numbers xs) (option_number c.in-Lambda.rest) (told c.args.stand.core.now.lits b) c.in_ok-vars.vars c.in_ok-last.last
    c.in_ok-value.value _ (roll-Block layer)
    (subst (λ m. TakesVars c.args.self.now c.param_vars.new.self m c.in_ok-vars.vars) (sym (many_numbers xs)) c.in_ok-vars.ensures)
    c.in_ok-last.ensures c.new-steps.ensures.items
    (λ m k u is. c.in_ok-settle_params.ensures s fits m k u (c.as_slice.ensures ∙ (is ∙ ap (λ l. numbers_from u l) (many_numbers xs))))
    (λ m k u is. c.in_ok-settle_rest.ensures s fits m k u is) (λ m k. c.in_ok-value.ensures b sb s fits m k)
    (ap (λ l. l.steps) (out-roll-Block layer) ∙ c.from_vec.ensures) (ap (λ l. l.value) (out-roll-Block layer)))
    st
