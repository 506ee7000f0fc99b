use Rattle.std.proofs.Common.{rules}
use Rattle.flow_plain.proofs.States.{state_started}
use Rattle.flow_plain.proofs.race.Race.start.Goals as goal

pub returns : goal.returns
returns c =
    state_started c.args.c.now c.in_ok-from_slice.field-0 _ c.in_ok-to_vec.field-0.items c.in_ok-to_vec-2.field-0.items c.args.base.now.words
    c.loop.seats.items c.args.workers (search rules) (search rules) (search rules) (search rules)
