-- The first bytes of memory, which need no look at the regions.
use Rattle.std.proofs.Common.{◌≡◌, ℕ, ◌+◌, ◌-◌, ◌%◌, ◌^◌, ◌<◌, ◌≤◌, List, refl, subst, arith}
use Rattle.rv_emulator.specs.declared.region.Region.{Region}
use Rattle.rv_words.specs.declared.access.Width.{Width}
use Rattle.rv_words.specs.declared.access.Width.TheVariants.{Byte, Half, Word, Double}
use Rattle.rv_emulator.specs.Memory.{AreLow, IsFront, IsWhole}
use Rattle.rv_words.specs.Widths.{bytes_of}
use Rattle.rv_form.specs.Arithmetic.{sub}
use Rattle.rv_emulator.proofs.OnePlaceEach.{first_place, low_place}

pub no_front : (regions : List Region) → IsFront regions 0 0
no_front regions = record { flags = 6; whole = λ i within. absurd (omega arith); reading = refl; writing = refl }

part_of : (regions : List Region) (a count fewer at flags : ℕ) → fewer ≤ count → IsWhole regions a count at flags
    → IsWhole regions a fewer at flags
part_of regions a count fewer at flags less whole =
    record {
      placed = λ i within. whole.placed i (omega arith);
      flagged = λ i within. whole.flagged i (omega arith);
    }

small_width : (width : Width) → bytes_of width ≤ 8
small_width Byte = omega arith
small_width Half = omega arith
small_width Word = omega arith
small_width Double = omega arith

-- an access that begins at the front is whole
pub at_front : (regions : List Region) (start room a at : ℕ) (width : Width) → AreLow regions → a < 2 ^ 64 → start < 2 ^ 64
    → (front : IsFront regions start room) → at ≡ sub a start → at < room → IsWhole regions a (bytes_of width) at front.flags
at_front regions start room a at width low small_a small_start front is within =
    let whole = front.whole at within in
    let place = first_place regions (start + at) 8 at front.flags (omega arith) whole in
    let below = low_place 0 regions (start + at) at low place in
    let offset : at ≡ (a + (2 ^ 64 - start)) % 2 ^ 64 = is in
    let same : start + at ≡ a = omega arith in
    part_of regions a 8 (bytes_of width) at front.flags (small_width width)
    (subst (λ b. IsWhole regions b 8 at front.flags) same whole)
