use Rattle.std.proofs.Common.{◌≡◌, ◌+◌, ◌++◌, drop}
use Rattle.rv_asm.specs.Layout.{text_size, text_bytes, AreSound}
use Rattle.rv_asm.specs.Symbols.{placing_in}
use Rattle.rv_asm.proofs.emit.push_items.Given as goal

abbrev pub invariant-loop-item : goal.invariant-loop-item
invariant-loop-item l =
    record {
      left : l.at + text_size (drop l.item-index l.items) ≡ l.from + text_size l.items;
      sound : AreSound (drop l.item-index l.items);
      bytes : l.bytes ++ text_bytes (placing_in l.symbols) l.at (drop l.item-index l.items) ≡ l.initial.bytes ++ text_bytes (placing_in l.symbols) l.from l.items;
    }
