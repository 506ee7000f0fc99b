use Rattle.std.proofs.Common.{arith}
use Rattle.scheme_expand.proofs.SymbolsInOrder.{partly_begun, partly_more, partly_ended}
use Rattle.scheme_expand.proofs.symbol.take_symbols.Goals as goal

pub loop-id-init : goal.loop-id-init
loop-id-init c = λ names found spelled are.
    partly_begun names c.args.source.nodes.now c.args.drafts.now c.args.order.now found c.args.firsts.now are

pub loop-id-preserved : goal.loop-id-preserved
loop-id-preserved c = λ names found spelled are.
    partly_more names c.args.source.nodes.now c.args.drafts.now c.args.order.now c.loop-id.id-index found c.args.firsts.now c.loop-id.firsts
    c.take_in_expression.new.firsts c.loop-id-test.true (c.loop-id.invariant names found spelled are)
    (λ what p first node part. c.in_ok-take_in_expression.ensures names what p first spelled node part)

pub returns : goal.returns
returns c = λ names found spelled are.
    partly_ended names c.args.source.nodes.now c.args.drafts.now c.args.order.now c.loop-id.id-index found c.args.firsts.now c.loop-id.firsts
    (omega (arith, c.loop-id-test.false)) (c.loop-id.invariant names found spelled are)
