use Rattle.std.proofs.Common.{◌≡◌, ◌++◌, drop}
use Rattle.rv_asm.specs.Layout.{number_bytes}
use Rattle.rv_asm.proofs.emit.push_pool.Given as goal

abbrev pub invariant-loop-number : goal.invariant-loop-number
invariant-loop-number l = l.bytes ++ number_bytes (drop l.number-index l.number-items) ≡ l.initial.bytes ++ number_bytes l.pool.keys
