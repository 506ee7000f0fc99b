use Rattle.std.proofs.Common.{◌≡◌, ℕ, ◌/◌, ◌^◌, length, slice_index}
use Rattle.rv_form.specs.Machine.{store as store_in}
use Rattle.rv_emulator.proofs.memory.put_at.Given as goal

-- the bytes below `i` of the number are put
abbrev pub invariant-loop-i : goal.invariant-loop-i
invariant-loop-i l =
    record {
      written : (k : ℕ) → slice_index l.bytes k ≡ store_in l.i (λ k. slice_index l.initial.bytes k) l.at l.value k;
      rest : l.rest ≡ l.value / 256 ^ l.i;
      size : length l.bytes ≡ length l.initial.bytes;
    }
