use Rattle.std.proofs.Common.{◌≡◌, ◌+◌, ◌<◌, ◌^◌, drop}
use Rattle.flow_constraints.specs.Census.{cut}
use Rattle.flow_constraints.specs.Counting.{applying_count}
use Rattle.flow_constraints.proofs.tally.applying.Given as goal

abbrev pub invariant-loop-entry : goal.invariant-loop-entry
invariant-loop-entry l =
    record {
      small : l.rules < 2 ^ 64;
      whole : cut (l.rules + applying_count (drop l.entry-index l.entry-items)) ≡ cut (applying_count l.entry-items);
    }
