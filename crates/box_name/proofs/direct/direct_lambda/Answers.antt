use Rattle.std.proofs.Common.{◌≡◌, None, refl, sym, ap, rules, ◌∙◌}
use Rattle.core_form.specs.declared.program.What.TheVariants as form
use Rattle.alpha_core.proofs.Shapes.{node_of, lambda_tree}
use Rattle.box_name.specs.NamingSteps.{IsDirect}
use Rattle.box_name.proofs.direct.direct_lambda.Goals as goal

pub returns-in-Lambda-default-None-default-clause-some : goal.returns-in-Lambda-default-None-default-clause-some
returns-in-Lambda-default-None-default-clause-some c =
    λ f st.
    let node = c.in_ok-node.node.now in
    let arm = c.in-Lambda-default-None-default in
    let none_there : arm.rest ≡ None = search rules in
    lambda_tree c.args.core.now.exprs c.args.operator node.pos f
    (λ t. IsDirect c.args.core.now.exprs arm.params arm.body c.args.count t) arm.params None arm.body
    (node_of c.args.core.now.exprs c.args.operator node (form.Lambda arm.params None arm.body) c.in_ok-node.ensures.value
    (arm.is ∙ ap (λ r. form.Lambda arm.params r arm.body) none_there))
    (λ b sb. (node.pos, b, refl, sb, sym c.len.ensures ∙ c.if-len-count.true)) st
