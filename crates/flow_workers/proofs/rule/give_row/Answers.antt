use Rattle.flow_workers.proofs.Gifts.{gives_row_more, holds_on}
use Rattle.flow_workers.proofs.rule.give_row.Goals as goal

pub give_word-requires-clause-holds : goal.give_word-requires-clause-holds
give_word-requires-clause-holds c =
    holds_on c.args.c.now c.args.table.now c.args.pass.now c.loop-at.pass c.args.rule.now c.loop-at.invariant.steps
    c.requires.holds

pub loop-at-preserved : goal.loop-at-preserved
loop-at-preserved c =
    gives_row_more c.args.c.now c.args.table.now c.args.pass.now c.loop-at.pass c.give_word.new.pass c.args.rule.now
    c.loop-at.at c.loop-at.invariant c.give_word.ensures.steps c.give_word.ensures.given
