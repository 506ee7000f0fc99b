use Rattle.slot_facts.specs.Choice.{global_by}
use Rattle.slot_facts.proofs.Choosing.{chosen_on}
use Rattle.slot_facts.proofs.choice.globals_of.Goals as goal

pub loop-at-preserved : goal.loop-at-preserved
loop-at-preserved c =
    chosen_on (global_by c.args.placed.now c.args.own.now) c.loop-at.at c.args.vars c.loop-at.globals c.put_if.new.numbers _ c.in_ok-number_of.field-0
    c.is_global.result c.loop-at-test.true c.in_ok-number_of.ensures c.is_global.ensures c.in_ok-put_if.ensures c.loop-at.invariant
