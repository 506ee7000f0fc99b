use Rattle.std.proofs.Common.{drop}
use Rattle.std.specs.Prelude.{◌↔◌}
use Rattle.rv_asm.specs.Layout.{AreSound}
use Rattle.rv_asm.proofs.sound.is_sound.Given as goal

abbrev pub invariant-loop-item : goal.invariant-loop-item
invariant-loop-item l = AreSound l.items ↔ AreSound (drop l.item-index l.items)
