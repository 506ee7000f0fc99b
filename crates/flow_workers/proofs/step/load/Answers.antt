use Rattle.flow_workers.proofs.StepsOfPass.{loaded_load, steps_load}
use Rattle.flow_workers.proofs.step.load.Goals as goal

pub returns-clause-steps : goal.returns-clause-steps
returns-clause-steps c =
    steps_load c.args.c.now c.args.table.now c.args.pass.now c.load.new.pass c.args.word c.load.result
    c.load.ensures.of c.load.ensures.knows

pub returns-clause-loaded : goal.returns-clause-loaded
returns-clause-loaded c =
    loaded_load c.args.c.now c.args.table.now c.args.pass.now c.load.new.pass c.args.word c.load.result
    c.requires.opened c.requires.of c.requires.there c.load.ensures.knows
