use Rattle.std.proofs.Common.{sym, ap, ◌∙◌}
use Rattle.rv_form.specs.Machine.{system}
use Rattle.rv_emulator.specs.States.{state_of, trap_of, world_with}
use Rattle.rv_emulator.proofs.StopsAtTraps.{asked_traps}
use Rattle.rv_emulator.proofs.trap.call_trap.Goals as goal

pub returns : goal.returns
returns c = λ pc env calls.
    ap
    (λ ask.
    trap_of (system (world_with c.args.memory.now.regions env) ask (state_of pc c.args.registers.now c.args.memory.now calls)))
    (c.asked.ensures.ask pc env calls)
    ∙ (asked_traps (world_with c.args.memory.now.regions env) c.asked.result
    (state_of pc c.args.registers.now c.args.memory.now calls)
    ∙ sym c.ask_trap.ensures)
