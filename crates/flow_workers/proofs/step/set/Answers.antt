use Rattle.flow_workers.proofs.StepsOfPass.{follows_opened, seen_grow, steps_grow, steps_trans}
use Rattle.flow_workers.proofs.step.set.Goals as goal

pub grow-before-requires-clause-follows : goal.grow-before-requires-clause-follows
grow-before-requires-clause-follows c =
    follows_opened c.args.c.now c.args.table.now c.args.pass.now c.load-found.new.pass c.args.word c.args.mask
    c.requires.opened c.load-found.ensures.steps c.requires.follows

pub returns-then-not-is_part-clause-steps : goal.returns-then-not-is_part-clause-steps
returns-then-not-is_part-clause-steps c =
    steps_trans c.args.c.now c.args.table.now c.args.pass.now c.load-found.new.pass c.grow-before.new.pass
    c.load-found.ensures.steps
    (steps_grow c.args.c.now c.args.table.now c.load-found.new.pass c.grow-before.new.pass c.args.word _
    c.grow-before.ensures.of c.grow-before.ensures.knows)

pub returns-then-not-is_part-clause-seen : goal.returns-then-not-is_part-clause-seen
returns-then-not-is_part-clause-seen c =
    seen_grow c.args.c.now c.args.table.now c.load-found.new.pass c.grow-before.new.pass c.args.word c.args.mask
    c.grow-before.result c.requires.opened c.load-found.ensures.steps.of c.requires.there c.grow-before.ensures.knows
