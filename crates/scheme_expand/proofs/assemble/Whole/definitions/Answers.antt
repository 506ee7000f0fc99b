use Rattle.std.proofs.Common.{arith}
use Rattle.scheme_expand.proofs.DefinitionsPicked.{picked_more, all_picked}
use Rattle.scheme_expand.proofs.assemble.Whole.definitions.Goals as goal

pub loop-number-preserved : goal.loop-number-preserved
loop-number-preserved c =
    picked_more 1 c.args.self.library.forms.now c.args.numbers.now c.loop-number.forms.items c.push.new.self.items c.loop-number.number-index
    _ c.loop-number-test.true c.loop-number.invariant c.in_ok-definition.ensures c.in_ok-push.ensures.items

pub returns : goal.returns
returns c =
    all_picked 1 c.args.self.library.forms.now c.args.numbers.now c.loop-number.forms.items c.loop-number.number-index
    (omega (arith, c.loop-number-test.false)) c.loop-number.invariant
