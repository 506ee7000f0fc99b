use Rattle.std.proofs.Common.{sym, ap, ◌∙◌}
use Rattle.rv_form.specs.Machine.{Running}
use Rattle.rv_emulator.specs.States.{state_of}
use Rattle.rv_emulator.proofs.RunsInTurn.{acts}
use Rattle.rv_emulator.proofs.step.step.Goals as goal

pub returns-in-Go-clause-plays : goal.returns-in-Go-clause-plays
returns-in-Go-clause-plays g c =
    acts c.args.memory.now c.args.spot.pc c.args.word c.args.registers.now c.requires.stands
    (λ env calls.
    c.in-Go.ensures.done env calls
    ∙ ap (λ pc. Running (state_of pc c.exec.new.x c.exec.new.memory calls)) (sym c.follow.ensures.place))

pub returns-in-Trap-clause-plays : goal.returns-in-Trap-clause-plays
returns-in-Trap-clause-plays g c =
    acts c.args.memory.now c.args.spot.pc c.args.word c.args.registers.now c.requires.stands c.in-Trap.ensures.done
