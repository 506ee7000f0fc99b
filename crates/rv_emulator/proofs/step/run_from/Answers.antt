use Rattle.std.proofs.Common.{◌≡◌, ◌+◌, ◌-◌, refl, ap, ◌∙◌, arith}
use Rattle.scheme_base.specs.Runs.{after}
use Rattle.rv_form.specs.Machine.{Running, machine_in, step}
use Rattle.rv_emulator.specs.States.{state_of, world_with}
use Rattle.rv_emulator.proofs.CodeStays.{cached_kept, low_words, word_stands}
use Rattle.rv_emulator.proofs.RunsInTurn.{one_more, plays_then, plays_on, plays_same, plays_world, after_rest, ended_stays}
use Rattle.rv_emulator.proofs.step.run_from.Goals as goal

pub step-requires-clause-low : goal.step-requires-clause-low
step-requires-clause-low g c =
    low_words c.loop-done.memory c.args.base c.args.words.now c.loop-done.invariant.cached

pub returns-in-Err-clause-plays : goal.returns-in-Err-clause-plays
returns-in-Err-clause-plays g c =
    let e : c.args.count - 0 ≡ c.args.count = omega arith in
    plays_same
    (λ env calls.
    ap
    (λ k.
    after (machine_in (world_with c.args.memory.now.regions env)) k
    (Running (state_of c.args.spot.pc c.args.registers.now c.args.memory.now calls)))
    e
    ∙ after_rest (world_with c.args.memory.now.regions env) c.loop-done.done c.args.count
    (Running (state_of c.args.spot.pc c.args.registers.now c.args.memory.now calls))
    c.loop-done-test.true)
    (plays_then
    (λ env run.
    after (machine_in (world_with c.args.memory.now.regions env)) (c.args.count - (c.loop-done.done + 1))
    (step (world_with c.args.memory.now.regions env) run))
    c.loop-done.invariant.plays
    (plays_on (λ env run. after (machine_in (world_with c.args.memory.now.regions env)) (c.args.count - (c.loop-done.done + 1)) run)
    (λ env calls. ended_stays (world_with c.args.memory.now.regions env) (c.args.count - (c.loop-done.done + 1)) c.in-Err.end calls)
    (plays_world (λ w calls. step w (Running (state_of c.loop-done.spot.pc c.loop-done.registers c.loop-done.memory calls)))
    c.loop-done.invariant.regions c.in-Err.ensures.plays)))

pub returns-then-spot-words-clause-plays : goal.returns-then-spot-words-clause-plays
returns-then-spot-words-clause-plays g c =
    let within = c.loop-done-test.true in
    one_more c.args.memory.now.regions c.loop-done.memory.regions c.loop-done.done (c.args.count - (c.args.count - c.loop-done.done - 1))
    (λ calls. Running (state_of c.args.spot.pc c.args.registers.now c.args.memory.now calls))
    (λ calls. Running (state_of c.loop-done.spot.pc c.loop-done.registers c.loop-done.memory calls))
    (omega arith) c.loop-done.invariant.regions c.loop-done.invariant.plays c.in-Ok.ensures.plays

pub returns-then-spot-words-clause-cached : goal.returns-then-spot-words-clause-cached
returns-then-spot-words-clause-cached g c =
    cached_kept c.loop-done.memory c.step.new.memory c.args.base c.args.words.now c.in-Ok.ensures.kept
    c.loop-done.invariant.cached

pub returns-in-Err-clause-cached : goal.returns-in-Err-clause-cached
returns-in-Err-clause-cached g c =
    cached_kept c.loop-done.memory c.step.new.memory c.args.base c.args.words.now c.in-Err.ensures.kept
    c.loop-done.invariant.cached

pub loop-done-preserved : goal.loop-done-preserved
loop-done-preserved g c =
    let cached =
    cached_kept c.loop-done.memory c.step.new.memory c.args.base c.args.words.now c.in-Ok.ensures.kept
    c.loop-done.invariant.cached
    in
    record {
      plays =
          one_more c.args.memory.now.regions c.loop-done.memory.regions c.loop-done.done (c.loop-done.done + 1)
          (λ calls. Running (state_of c.args.spot.pc c.args.registers.now c.args.memory.now calls))
          (λ calls. Running (state_of c.loop-done.spot.pc c.loop-done.registers c.loop-done.memory calls))
          refl c.loop-done.invariant.regions c.loop-done.invariant.plays c.in-Ok.ensures.plays;
      stands =
          word_stands c.step.new.memory c.args.base c.args.words.now c.in-Ok.next _ cached c.in-Ok.ensures.numbered
          (omega arith);
      small = omega arith;
      numbered = c.in-Ok.ensures.numbered;
      regions = c.in-Ok.ensures.kept.regions ∙ c.loop-done.invariant.regions;
      cached = cached;
    }

pub returns-clause-plays : goal.returns-clause-plays
returns-clause-plays g c =
    let e : c.args.count - 0 ≡ c.loop-done.done = omega arith in
    plays_same
    (λ env calls.
    ap
    (λ k.
    after (machine_in (world_with c.args.memory.now.regions env)) k
    (Running (state_of c.args.spot.pc c.args.registers.now c.args.memory.now calls)))
    e)
    c.loop-done.invariant.plays
