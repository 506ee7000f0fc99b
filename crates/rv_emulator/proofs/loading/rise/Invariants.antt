use Rattle.std.proofs.Common.{length}
use Rattle.rv_emulator.specs.Loading.{AreFit, Rise}
use Rattle.rv_emulator.proofs.loading.rise.Given as goal

abbrev pub invariant-loop-segment : goal.invariant-loop-segment
invariant-loop-segment l =
    record {
      fit : AreFit l.rest;
      rises : Rise l.end l.rest → Rise 0 l.segments;
    }

abbrev pub decreases-loop-segment : goal.decreases-loop-segment
decreases-loop-segment l = length l.rest
