use Rattle.std.proofs.Common.{◌-◌, ap, ◌∙◌}
use Rattle.scheme_base.specs.Runs.{after}
use Rattle.rv_form.specs.Machine.{Running, act_at, machine_in}
use Rattle.rv_emulator.specs.declared.next.End.TheVariants as ends
use Rattle.rv_emulator.specs.States.{state_of, world_with}
use Rattle.rv_emulator.proofs.CodeStays.{low_words, word_stands}
use Rattle.rv_emulator.proofs.RunsInTurn.{plays_alone, ends_all, ended_stays}
use Rattle.rv_emulator.proofs.step.steps_at.Goals as goal

pub spot_of-spot-requires : goal.spot_of-spot-requires
spot_of-spot-requires g c = low_words c.args.memory.now c.args.base c.args.words.now c.requires.cached

pub run_from-requires-clause-first : goal.run_from-requires-clause-first
run_from-requires-clause-first g c =
    word_stands c.args.memory.now c.args.base c.args.words.now c.spot_of-spot.result _ c.requires.cached c.spot_of-spot.ensures.numbered
    c.if-spot-words.true

pub returns-in-None-clause-plays : goal.returns-in-None-clause-plays
returns-in-None-clause-plays g c =
    plays_alone (λ env calls.
    ends_all (world_with c.args.memory.now.regions env) c.args.count
    (Running (state_of c.args.pc c.args.registers.now c.args.memory.now calls)) c.requires.some
    ∙ (ap
    (λ seen.
    after (machine_in (world_with c.args.memory.now.regions env)) (c.args.count - 1)
    (act_at (world_with c.args.memory.now.regions env) seen (state_of c.args.pc c.args.registers.now c.args.memory.now calls)))
    c.in-None.ensures.value
    ∙ ended_stays (world_with c.args.memory.now.regions env) (c.args.count - 1) (ends.Trapped 2 c.args.pc) calls))
