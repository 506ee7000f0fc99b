use Rattle.std.proofs.Common.{refl, sym, ◌∙◌}
use Rattle.alpha_core.proofs.Shapes.{node_of, shape}
use Rattle.box_name.proofs.Plainness.{not_absent, plain_by}
use Rattle.box_name.proofs.sure.is_plain.Goals as goal

pub returns-in-Some : goal.returns-in-Some
returns-in-Some c =
    λ e st.
    let node = c.in-Some.node.now in
    let exprs = c.args.core.now.exprs in
    c.is_plain_form.ensures
    ∙ sym
    (plain_by c.args.core.now.lits exprs node.what node.pos e
    (shape exprs c.args.expr node.what node.pos e (node_of exprs c.args.expr node node.what c.in-Some.ensures.value refl) st))

pub returns-in-None : goal.returns-in-None
returns-in-None c = λ e st. absurd (not_absent c.args.core.now.exprs c.args.expr e st c.in-None.ensures.value)
