use Rattle.box_name.proofs.StepsWell.{bodies_are, each_binds, each_placed, each_takes}
use Rattle.box_name.proofs.law.steps_are_well_formed.Goals as goal

pub returns-clause-binds : goal.returns-clause-binds
returns-clause-binds c = each_binds

pub returns-clause-takes : goal.returns-clause-takes
returns-clause-takes c = each_takes

pub returns-clause-placed : goal.returns-clause-placed
returns-clause-placed c = each_placed

pub returns-clause-bodies : goal.returns-clause-bodies
returns-clause-bodies c = bodies_are
