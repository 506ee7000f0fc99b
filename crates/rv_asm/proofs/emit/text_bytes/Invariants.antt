use Rattle.std.proofs.Common.{◌≡◌, ◌+◌, ◌++◌, drop}
use Rattle.rv_asm.specs.Layout.{text_size, items_of, text_bytes, AreSound}
use Rattle.rv_asm.specs.Symbols.{placing_in}
use Rattle.rv_asm.proofs.emit.text_bytes.Given as goal

abbrev pub invariant-loop-part : goal.invariant-loop-part
invariant-loop-part l =
    record {
      left : l.at + text_size (items_of (drop l.part-index l.part-items)) ≡ l.from + text_size (items_of l.part-items);
      sound : AreSound (items_of (drop l.part-index l.part-items));
      bytes : l.bytes ++ text_bytes (placing_in l.symbols) l.at (items_of (drop l.part-index l.part-items)) ≡ text_bytes (placing_in l.symbols) l.from (items_of l.part-items);
    }
