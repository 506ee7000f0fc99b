use Rattle.std.proofs.Common.{◌≡◌, ◌-◌, ◌<◌, ◌≤◌, ap, ◌∙◌, arith}
use Rattle.scheme_base.specs.Runs.{after}
use Rattle.rv_form.specs.Machine.{Running, machine_in}
use Rattle.rv_emulator.specs.States.{state_of, world_with}
use Rattle.rv_emulator.proofs.RunsInTurn.{plays_then, plays_same, plays_world, after_split, after_whole}
use Rattle.rv_emulator.proofs.step.do_steps.Goals as goal

pub returns-in-Err-clause-plays : goal.returns-in-Err-clause-plays
returns-in-Err-clause-plays g c =
    let e : c.loop-left.left ≡ c.loop-left.left - 0 = omega arith in
    plays_same
    (λ env calls.
    after_whole (world_with c.args.memory.now.regions env) c.args.count c.loop-left.left
    (Running (state_of c.args.pc c.args.registers.now c.args.memory.now calls))
    c.loop-left.invariant.most)
    (plays_then (λ env run. after (machine_in (world_with c.args.memory.now.regions env)) c.loop-left.left run) c.loop-left.invariant.plays
    (plays_same
    (λ env calls.
    ap
    (λ k.
    after (machine_in (world_with c.args.memory.now.regions env)) k
    (Running (state_of c.loop-left.pc c.loop-left.registers c.loop-left.memory calls)))
    e)
    (plays_world
    (λ w calls.
    after (machine_in w) (c.loop-left.left - 0)
    (Running (state_of c.loop-left.pc c.loop-left.registers c.loop-left.memory calls)))
    c.loop-left.invariant.regions c.in-Err.ensures.plays)))

pub loop-left-preserved : goal.loop-left-preserved
loop-left-preserved g c =
    let less : c.in-Ok.went.left < c.loop-left.left = c.in-Ok.ensures.less in
    let fewer : c.in-Ok.went.left ≤ c.loop-left.left = omega arith in
    let most = c.loop-left.invariant.most in
    record {
      plays =
          plays_same
          (λ env calls.
          after_split (world_with c.args.memory.now.regions env) c.args.count c.loop-left.left c.in-Ok.went.left
          (Running (state_of c.args.pc c.args.registers.now c.args.memory.now calls))
          fewer most)
          (plays_then
          (λ env run. after (machine_in (world_with c.args.memory.now.regions env)) (c.loop-left.left - c.in-Ok.went.left) run)
          c.loop-left.invariant.plays
          (plays_world
          (λ w calls.
          after (machine_in w) (c.loop-left.left - c.in-Ok.went.left)
          (Running (state_of c.loop-left.pc c.loop-left.registers c.loop-left.memory calls)))
          c.loop-left.invariant.regions c.in-Ok.ensures.plays));
      most = omega arith;
      regions = c.in-Ok.ensures.regions ∙ c.loop-left.invariant.regions;
      cached = c.in-Ok.ensures.cached;
    }
