use Rattle.std.proofs.Common.{◌≡◌, ◌+◌, ◌<◌, ◌^◌, drop}
use Rattle.rv_asm.specs.Layout.{text_size, items_of, cut}
use Rattle.rv_asm.proofs.measure.text_size.Given as goal

abbrev pub invariant-loop-part : goal.invariant-loop-part
invariant-loop-part l =
    record {
      small : l.size < 2 ^ 64;
      whole : cut (l.size + text_size (items_of (drop l.part-index l.part-items))) ≡ cut (text_size (items_of l.part-items));
    }
