use Rattle.stalin_top.proofs.Emulations.{loadable}
use Rattle.stalin_top.proofs.emulate.machine_of.Goals as goal

pub load-requires : goal.load-requires
load-requires c = loadable _ c.in-Ok.ensures.valid

pub returns-in-Ok-load-clause-machine : goal.returns-in-Ok-load-clause-machine
returns-in-Ok-load-clause-machine c =
    record { image = c.in-Ok.image; holds = c.in-Ok.ensures.image; starts = c.in-Ok-load.ensures }
