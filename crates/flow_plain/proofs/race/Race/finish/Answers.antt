use Rattle.flow_plain.proofs.States.{block_fits, sized_finish, state_finished}
use Rattle.flow_plain.proofs.race.Race.finish.Goals as goal

pub finish-requires : goal.finish-requires
finish-requires c =
    let race = c.self.inside in
    block_fits c.args.self.now race.constraints race.base.items race.words.items race.claims race.seats.items c.args.worker c.args.block
    c.index_mut-seat.result.now c.self.view_is c.self.invariant c.requires c.index_mut-seat.ensures.value

pub invariant_of-self : goal.invariant_of-self
invariant_of-self c =
    let race = c.self.inside in
    sized_finish c.args.self.now race.constraints race.base.items race.words.items race.claims race.seats.items c.args.worker c.args.block
    c.index_mut-seat.result.now
    c.finish.new.self c.self.view_is c.requires c.index_mut-seat.ensures.value c.self.invariant c.finish.ensures

pub returns : goal.returns
returns c =
    let race = c.self.inside in
    state_finished c.args.self.now race.constraints race.base.items race.words.items race.claims race.seats.items c.args.worker c.args.block
    c.index_mut-seat.result.now c.finish.new.self c.self.view_is c.requires c.index_mut-seat.ensures.value c.finish.ensures
