use Rattle.rv_emulator.specs.Held.{settled}
use Rattle.rv_emulator.specs.States.{state_of, world_with}
use Rattle.rv_emulator.proofs.RunsInTurn.{plays_on}
use Rattle.rv_emulator.proofs.StopsAtTraps.{ended_settled, goes_on, settles, stops}
use Rattle.rv_emulator.proofs.trap.go_on.Goals as goal

pub returns-in-Err-clause-plays : goal.returns-in-Err-clause-plays
returns-in-Err-clause-plays g c =
    plays_on (λ env run. settled (world_with c.args.memory.now.regions env) run)
    (λ env calls. ended_settled (world_with c.args.memory.now.regions env) c.in-Err.end calls)
    c.in-Err.ensures.plays

pub returns-in-Some-clause-plays : goal.returns-in-Some-clause-plays
returns-in-Some-clause-plays g c =
    settles c.args.memory.now.regions c.do_steps.new.memory.regions
    (λ calls. state_of c.in-Ok.to c.do_steps.new.registers c.do_steps.new.memory calls) c.in-Ok.ensures.regions c.in-Ok.ensures.plays
    (λ env calls. stops (world_with c.do_steps.new.memory.regions env) _ c.in-Some.kind (c.in-Some.ensures env calls))

pub returns-in-None-clause-plays : goal.returns-in-None-clause-plays
returns-in-None-clause-plays g c =
    settles c.args.memory.now.regions c.do_steps.new.memory.regions
    (λ calls. state_of c.in-Ok.to c.do_steps.new.registers c.do_steps.new.memory calls) c.in-Ok.ensures.regions c.in-Ok.ensures.plays
    (λ env calls. goes_on (world_with c.do_steps.new.memory.regions env) _ (c.in-None.ensures env calls))
