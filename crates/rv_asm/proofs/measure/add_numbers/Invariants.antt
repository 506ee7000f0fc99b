use Rattle.std.proofs.Common.{◌≡◌, drop}
use Rattle.rv_asm.specs.Layout.{pool_from}
use Rattle.rv_asm.proofs.measure.add_numbers.Given as goal

abbrev pub invariant-loop-item : goal.invariant-loop-item
invariant-loop-item l = pool_from l.pool.keys (drop l.item-index l.items) ≡ pool_from l.initial.pool.keys l.items
