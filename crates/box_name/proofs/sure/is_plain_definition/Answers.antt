use Rattle.std.proofs.Common.{◌≡◌, refl, sym}
use Rattle.alpha_core.proofs.Shapes.{define_tree, node_of, shape}
use Rattle.box_name.specs.Told.{told}
use Rattle.box_name.specs.Whole.{is_plain_definition}
use Rattle.box_name.proofs.Plainness.{no_plain, not_absent}
use Rattle.box_name.proofs.sure.is_plain_definition.Goals as goal

pub returns-in-Define : goal.returns-in-Define
returns-in-Define c =
    λ e st.
    define_tree c.args.core.now.exprs c.args.form c.in-Some.node.now.pos e
    (λ t. c.is_plain.result ≡ is_plain_definition (told c.args.core.now.lits t)) _ c.in-Define.value
    (node_of c.args.core.now.exprs c.args.form c.in-Some.node.now _ c.in-Some.ensures.value c.in-Define.is) (λ b sb. c.is_plain.ensures b sb) st

pub returns-in_default : goal.returns-in_default
returns-in_default c =
    λ e st.
    let node = c.in-Some.node.now in
    let exprs = c.args.core.now.exprs in
    sym
    (no_plain c.args.core.now.lits exprs node.what node.pos e
    (shape exprs c.args.form node.what node.pos e (node_of exprs c.args.form node node.what c.in-Some.ensures.value refl) st)
    c.in_default.not-Define)

pub returns-in-None : goal.returns-in-None
returns-in-None c = λ e st. absurd (not_absent c.args.core.now.exprs c.args.form e st c.in-None.ensures.value)
