use Rattle.slot_facts.specs.Marks.{is_marked}
use Rattle.slot_facts.proofs.Choosing.{chosen_on}
use Rattle.slot_facts.proofs.marks.marked.Goals as goal

pub loop-at-preserved : goal.loop-at-preserved
loop-at-preserved c =
    chosen_on (is_marked c.args.marks.now) c.loop-at.at c.args.many c.loop-at.numbers c.put_if.new.numbers _ c.in_ok-number_of.field-0 c.is_marked.result
    c.loop-at-test.true c.in_ok-number_of.ensures c.is_marked.ensures c.in_ok-put_if.ensures c.loop-at.invariant
