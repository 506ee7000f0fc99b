use Rattle.std.proofs.Common.{◌≡◌, length}
use Rattle.rv_emulator.specs.States.{IsCached}
use Rattle.rv_emulator.proofs.loading.read_code.Given as goal

abbrev pub invariant-loop-at : goal.invariant-loop-at
invariant-loop-at l =
    record {
      count : length l.words.items ≡ l.at;
      cached : IsCached l.memory l.base l.words.items;
    }
