use Rattle.plan_facts.specs.Pairs.{holds}
use Rattle.plan_facts.proofs.BlankWords.{word_on}
use Rattle.plan_facts.proofs.pairs.members.Goals as goal

pub loop-at-preserved : goal.loop-at-preserved
loop-at-preserved c =
    word_on (holds c.args.rows.now c.args.row) c.loop-at.at c.args.rows.now.stride c.loop-at.atoms c.put_word.new.atoms _
    c.loop-at-test.true c.in_ok-put_word.ensures c.loop-at.invariant
