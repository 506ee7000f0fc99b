use Rattle.std.proofs.Common.{◌≡◌, ◌+◌, ◌<◌, ◌^◌, drop}
use Rattle.flow_constraints.specs.Census.{cut}
use Rattle.flow_constraints.specs.Counting.{entering_count}
use Rattle.flow_constraints.proofs.tally.entering_all.Given as goal

abbrev pub invariant-loop-entry : goal.invariant-loop-entry
invariant-loop-entry l =
    record {
      small : l.rules < 2 ^ 64;
      whole :
          cut (l.rules + entering_count l.operands (drop l.entry-index l.entry-items))
          ≡ cut (entering_count l.operands l.entry-items);
    }
