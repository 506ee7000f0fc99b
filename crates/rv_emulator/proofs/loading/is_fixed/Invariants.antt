use Rattle.std.proofs.Common.{◌≡◌, ◌+◌, ◌<◌, ℕ, false}
use Rattle.rv_emulator.specs.Memory.{flags_in, has_flag}
use Rattle.rv_emulator.proofs.loading.is_fixed.Given as goal

abbrev pub invariant-loop-i : goal.invariant-loop-i
invariant-loop-i l = (i : ℕ) → i < l.i → has_flag (flags_in l.memory.regions (l.pc + i)) 2 ≡ false
