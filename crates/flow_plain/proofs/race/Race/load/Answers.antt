use Rattle.flow_plain.proofs.States.{sized_load, state_loaded}
use Rattle.flow_plain.proofs.race.Race.load.Goals as goal

pub invariant_of-self : goal.invariant_of-self
invariant_of-self c =
    let race = c.self.inside in
    sized_load c.args.self.now race.constraints race.base.items race.words.items race.claims race.seats.items c.args.worker c.args.word
    c.index-bits.result.now c.index_mut-seat.result.now
    c.load.new.self c.self.view_is c.requires c.index_mut-seat.ensures.value c.self.invariant c.load.ensures

pub returns : goal.returns
returns c =
    let race = c.self.inside in
    state_loaded c.args.self.now race.constraints race.base.items race.words.items race.claims race.seats.items c.args.worker c.args.word
    c.index-bits.result.now c.index_mut-seat.result.now c.load.new.self c.self.view_is c.requires c.index_mut-seat.ensures.value
    c.index-bits.ensures c.load.ensures
