use Rattle.std.proofs.Common.{Some, refl, sym, ap, ◌∙◌}
use Rattle.core_form.specs.Variables.{same_var}
use Rattle.alpha_core.proofs.Shapes.{define_tree, node_of, shape}
use Rattle.box_name.specs.Sureness.{IsDefined}
use Rattle.box_name.specs.Told.{told, top_name}
use Rattle.box_name.proofs.Plainness.{none_defined}
use Rattle.box_name.proofs.sure.defined.Goals as goal

pub returns-in-Top : goal.returns-in-Top
returns-in-Top c =
    λ e st.
    define_tree c.args.core.now.exprs c.args.form c.in-Some.node.now.pos e
    (λ t. IsDefined (Some c.of.result) (told c.args.core.now.lits t)) c.in-Define.var _
    (node_of c.args.core.now.exprs c.args.form c.in-Some.node.now _ c.in-Some.ensures.value c.in-Define.is)
    (λ b sb x. ap (λ y. same_var (top_name y) x) c.in-Top.is ∙ ap (λ y. same_var y x) (sym c.of.ensures)) st

pub returns-in_default : goal.returns-in_default
returns-in_default c =
    λ e st.
    let node = c.in-Some.node.now in
    let exprs = c.args.core.now.exprs in
    none_defined c.args.core.now.lits exprs node.what node.pos e
    (shape exprs c.args.form node.what node.pos e (node_of exprs c.args.form node node.what c.in-Some.ensures.value refl) st)
    c.in_default.not-Define
