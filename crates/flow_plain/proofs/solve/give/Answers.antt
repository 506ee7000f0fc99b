use Rattle.std.proofs.Common.{arith}
use Rattle.flow_plain.proofs.Rules.{give_more_at}
use Rattle.flow_plain.proofs.solve.give.Goals as goal

pub loop-at-preserved : goal.loop-at-preserved
loop-at-preserved c =
    give_more_at c.args.c.now c.args.words.now c.args.next.now c.loop-at.next c.args.rule.now c.stride-stride.result c.loop-at.at c.given_word.result
    c.stride-stride.ensures.value (omega arith) c.requires.named.to (omega arith) c.given_word.ensures c.loop-at.invariant
