use Rattle.std.proofs.Common.{◌≡◌, ℕ, ◌+◌, ◌<◌, length}
use Rattle.rv_emulator.specs.Memory.{AreLow, place_from, flags_in, total_of}
use Rattle.rv_emulator.proofs.region.find.Given as goal

-- the regions that were passed have none of the bytes
abbrev pub invariant-loop-region : goal.invariant-loop-region
invariant-loop-region l =
    record {
      low : AreLow l.rest;
      total : l.from + total_of l.rest ≡ total_of l.regions;
      placed : (i : ℕ) → i < l.count → place_from 0 l.regions (l.a + i) ≡ place_from l.from l.rest (l.a + i);
      flagged : (i : ℕ) → i < l.count → flags_in l.regions (l.a + i) ≡ flags_in l.rest (l.a + i);
    }

abbrev pub decreases-loop-region : goal.decreases-loop-region
decreases-loop-region l = length l.rest
