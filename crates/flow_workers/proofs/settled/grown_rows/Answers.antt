use Rattle.flow_workers.proofs.Resting.{all_grown}
use Rattle.flow_workers.proofs.settled.grown_rows.Goals as goal

pub returns : goal.returns
returns g c = all_grown c.args.c.now c.args.before.now c.args.after.now c.grown_between.result c.grown_between.ensures
