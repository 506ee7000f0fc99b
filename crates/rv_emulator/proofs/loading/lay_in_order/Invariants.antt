use Rattle.std.proofs.Common.{◌≡◌, ◌+◌, ◌≤◌, ◌^◌, ◌++◌, length}
use Rattle.std.specs.Prelude.{map}
use Rattle.std.specs.List.{flat_map}
use Rattle.rv_emulator.specs.Loading.{AreFit, bytes_in, ordered, region_of, room_of}
use Rattle.rv_emulator.proofs.loading.lay_in_order.Given as goal

abbrev pub invariant-loop-segment : goal.invariant-loop-segment
invariant-loop-segment l =
    record {
      fit : AreFit (ordered l.backwards l.rest);
      room : length l.bytes.items + room_of (ordered l.backwards l.rest) ≤ 2 ^ 31;
      regions : l.regions.items ++ map region_of (ordered l.backwards l.rest) ≡ map region_of (ordered l.backwards l.segments);
      bytes : l.bytes.items ++ flat_map bytes_in (ordered l.backwards l.rest) ≡ flat_map bytes_in (ordered l.backwards l.segments);
    }

abbrev pub decreases-loop-segment : goal.decreases-loop-segment
decreases-loop-segment l = length l.rest
