use Rattle.flow_workers.proofs.Gifts.{holds_on}
use Rattle.flow_workers.proofs.rule.give_words.Goals as goal

pub give_word-requires-clause-holds : goal.give_word-requires-clause-holds
give_word-requires-clause-holds c =
    holds_on c.args.c.now c.args.table.now c.args.pass.now c.loop-at.pass c.args.rule.now c.loop-at.invariant
    c.requires.holds
