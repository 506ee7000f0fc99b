use Rattle.std.proofs.Common.{◌≡◌, [], drop}
use Rattle.rv_asm.specs.Layout.{pool_from, items_of}
use Rattle.rv_asm.proofs.measure.pool_of.Given as goal

abbrev pub invariant-loop-part : goal.invariant-loop-part
invariant-loop-part l = pool_from l.pool.keys (items_of (drop l.part-index l.part-items)) ≡ pool_from [] (items_of l.part-items)
