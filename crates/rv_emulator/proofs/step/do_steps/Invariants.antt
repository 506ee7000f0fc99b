use Rattle.std.proofs.Common.{◌≡◌, ◌-◌, ◌≤◌}
use Rattle.scheme_base.specs.Runs.{after}
use Rattle.rv_form.specs.Machine.{Running, machine_in}
use Rattle.rv_emulator.specs.Plays.{Plays}
use Rattle.rv_emulator.specs.States.{IsCached, state_of, world_with}
use Rattle.rv_emulator.proofs.step.do_steps.Given as goal

abbrev pub invariant-loop-left : goal.invariant-loop-left
invariant-loop-left g l =
    record {
      plays :
          Plays
          (λ env calls.
          after (machine_in (world_with l.initial.memory.regions env)) (l.count - l.left)
          (Running (state_of l.initial.pc l.initial.registers l.initial.memory calls)))
          (λ calls. Running (state_of l.pc l.registers l.memory calls))
          (g.C.Console.told l.initial.console)
          (g.C.Console.told l.console);
      most : l.left ≤ l.count;
      regions : l.memory.regions ≡ l.initial.memory.regions;
      cached : IsCached l.memory l.base l.words;
    }

abbrev pub decreases-loop-left : goal.decreases-loop-left
decreases-loop-left g l = l.left
