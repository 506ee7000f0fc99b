use Rattle.std.proofs.Common.{bit_or}
use Rattle.flow_plain.proofs.States.{grown_sized, sized_grow, state_grown}
use Rattle.flow_plain.proofs.race.Race.grow.Goals as goal

pub grow-requires : goal.grow-requires
grow-requires c =
    let race = c.self.inside in
    grown_sized c.args.self.now race.constraints race.base.items race.words.items race.claims race.seats.items c.args.worker c.args.word c.args.mask
    c.index_mut-seat.result.now c.self.view_is c.self.invariant c.requires c.index_mut-seat.ensures.value

pub invariant_of-self : goal.invariant_of-self
invariant_of-self c =
    let race = c.self.inside in
    sized_grow c.args.self.now race.constraints race.base.items race.words.items race.claims race.seats.items c.args.worker c.args.word c.args.mask
    (bit_or c.args.mask c.index-found.result.now) (bit_or c.index-found.result.now c.args.mask) c.index_mut-seat.result.now
    c.grow.new.self c.self.view_is c.requires c.index_mut-seat.ensures.value c.self.invariant c.grow.ensures

pub returns : goal.returns
returns c =
    let race = c.self.inside in
    state_grown c.args.self.now race.constraints race.base.items race.words.items race.claims race.seats.items c.args.worker c.args.word c.args.mask
    c.index-found.result.now c.index_mut-seat.result.now c.grow.new.self c.self.view_is c.requires c.index_mut-seat.ensures.value
    c.index-found.ensures c.grow.ensures
