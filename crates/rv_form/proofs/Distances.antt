-- A distance below 2^30 that two instructions go: the far part, and then the near part.
use Rattle.std.proofs.Common.{◌≡◌, ℕ, ◌+◌, ◌<◌, ◌^◌, arith}
use Rattle.std.specs.Prelude.{pos, ◌*ℤ◌}
use Rattle.std.proofs.lemmas.Int.{ints}
use Rattle.rv_form.specs.Numbers.{word, add, far_part, near_part}
use Rattle.rv_form.specs.Formats.{IsWithin}

pub far_within : (d : ℕ) → d + 0x800 < 2 ^ 31 → IsWithin 0x8_0000 (far_part (pos d))
far_within d small = record { low = omega (arith, ints); high = omega (arith, ints) }

pub near_within : (d : ℕ) → IsWithin 0x800 (near_part (pos d))
near_within d = record { low = grind (arith, ints); high = grind (arith, ints) }

pub far-near : (pc d : ℕ) → pc < 2 ^ 46 → d < 2 ^ 40
    → add (add pc (word (pos 4096 *ℤ far_part (pos d)))) (word (near_part (pos d))) ≡ pc + d
far-near pc d early small = grind arith
