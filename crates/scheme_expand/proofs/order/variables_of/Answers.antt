use Rattle.std.proofs.Common.{arith}
use Rattle.scheme_expand.proofs.VariablesInOrder.{variable_collected, all_collected}
use Rattle.scheme_expand.proofs.order.variables_of.Goals as goal

pub loop-id-preserved : goal.loop-id-preserved
loop-id-preserved c =
    variable_collected c.args.drafts.now.exprs.items c.args.order.now c.loop-id.id-index c.loop-id.variables.items
    c.push_variable.new.variables.items c.loop-id-test.true c.loop-id.invariant c.in_ok-push_variable.ensures

pub returns : goal.returns
returns c =
    all_collected c.args.drafts.now.exprs.items c.args.order.now c.loop-id.id-index c.loop-id.variables.items
    (omega (arith, c.loop-id-test.false)) c.loop-id.invariant
