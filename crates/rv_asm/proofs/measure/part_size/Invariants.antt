use Rattle.std.proofs.Common.{◌≡◌, ◌+◌, ◌<◌, ◌^◌, drop}
use Rattle.rv_asm.specs.Layout.{text_size, cut}
use Rattle.rv_asm.proofs.measure.part_size.Given as goal

abbrev pub invariant-loop-item : goal.invariant-loop-item
invariant-loop-item l =
    record {
      small : l.size < 2 ^ 64;
      whole : cut (l.size + text_size (drop l.item-index l.items)) ≡ cut (text_size l.items);
    }
