-- The code of the procedures so far.
use Rattle.std.proofs.Common.{◌≡◌, ◌-◌, ◌≤◌}
use Rattle.image_build.specs.Emitted.{codes_from}
use Rattle.image_build.proofs.codes.in_order.Given as goal

abbrev pub invariant-loop-proc : goal.invariant-loop-proc
invariant-loop-proc l =
    record {
      within : l.first ≤ l.proc;
      made : l.all.items ≡ codes_from l.flat l.offsets l.first (l.proc - l.first);
    }
