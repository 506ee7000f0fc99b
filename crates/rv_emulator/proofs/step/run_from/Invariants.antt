use Rattle.std.proofs.Common.{◌≡◌, ◌≤◌, length}
use Rattle.scheme_base.specs.Runs.{after}
use Rattle.rv_form.specs.Machine.{Running, machine_in}
use Rattle.rv_emulator.specs.Plays.{Plays}
use Rattle.rv_emulator.specs.States.{IsCached, IsNumbered, StandsAt, state_of, world_with}
use Rattle.rv_emulator.proofs.step.run_from.Given as goal

abbrev pub invariant-loop-done : goal.invariant-loop-done
invariant-loop-done g l =
    record {
      plays :
          Plays
          (λ env calls.
          after (machine_in (world_with l.initial.memory.regions env)) l.done
          (Running (state_of l.initial.spot.pc l.initial.registers l.initial.memory calls)))
          (λ calls. Running (state_of l.spot.pc l.registers l.memory calls))
          (g.C.Console.told l.initial.console)
          (g.C.Console.told l.console);
      stands : StandsAt l.memory l.spot.pc l.word;
      small : l.spot.at ≤ length l.words;
      numbered : IsNumbered l.base l.words l.spot;
      regions : l.memory.regions ≡ l.initial.memory.regions;
      cached : IsCached l.memory l.base l.words;
    }
