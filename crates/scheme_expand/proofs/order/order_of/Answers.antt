use Rattle.std.proofs.Common.{arith}
use Rattle.scheme_expand.proofs.TextInOrder.{no_form_listed, form_listed, all_listed}
use Rattle.scheme_expand.proofs.order.order_of.Goals as goal

pub loop-form-init : goal.loop-form-init
loop-form-init c = λ names nodes. no_form_listed names nodes c.args.drafts.now _ c.new-order.ensures.items

pub loop-form-preserved : goal.loop-form-preserved
loop-form-preserved c = λ names nodes.
    form_listed names nodes c.args.drafts.now c.args.forms.now c.loop-form.order.items c.preorder.new.order.items c.loop-form.form-index
    c.loop-form-test.true (c.loop-form.invariant names nodes) (λ e drawn. c.in_ok-preorder.ensures names nodes e drawn)

pub returns : goal.returns
returns c = λ names nodes.
    all_listed names nodes c.args.drafts.now c.args.forms.now c.loop-form.order.items c.loop-form.form-index
    (omega (arith, c.loop-form-test.false)) (c.loop-form.invariant names nodes)
