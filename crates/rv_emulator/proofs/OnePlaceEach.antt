-- Where bytes stand: one place for each address, and whole stretches of them.
use Rattle.std.proofs.Common.{◌≡◌, ℕ, zero, suc, ◌+◌, ◌-◌, ◌*◌, ◌^◌, ◌<◌, ◌≤◌, true, false, List, [], ◌∷◌, length, Option, Some, None, refl, ap, ◌∙◌, arith}
use Rattle.std.specs.Prelude.{slice_index}
use Rattle.rv_form.specs.Machine.{load}
use Rattle.rv_emulator.specs.declared.region.Region.{Region}
use Rattle.rv_emulator.specs.Memory.{place_from, flags_in, byte_in, memory_of, has_flag, all_flagged, loaded_by, total_of, AreLow, Laid, IsWhole}

pub low_place : (from : ℕ) (regions : List Region) (a at : ℕ) → AreLow regions → place_from from regions a ≡ Some at → a < 2 ^ 47
low_place from [] a at low is = cc
low_place from (region ∷ rest) a at low is =
    let first = low.0 in
    let more : place_from (from + region.size) rest a ≡ Some at → a < 2 ^ 47 =
    low_place (from + region.size) rest a at low.1
    in
    grind arith

place_above : (from : ℕ) (regions : List Region) (a at : ℕ) → place_from from regions a ≡ Some at → from ≤ at
place_above from [] a at is = cc
place_above from (region ∷ rest) a at is =
    let more : place_from (from + region.size) rest a ≡ Some at → from + region.size ≤ at =
    place_above (from + region.size) rest a at
    in
    grind arith

pub place_below : (from : ℕ) (regions : List Region) (a at : ℕ) → place_from from regions a ≡ Some at
    → at < from + total_of regions
place_below from [] a at is = cc
place_below from (region ∷ rest) a at is =
    let more : place_from (from + region.size) rest a ≡ Some at → at < from + region.size + total_of rest =
    place_below (from + region.size) rest a at
    in
    grind arith

-- no two addresses have one place
pub one_address : (from : ℕ) (regions : List Region) (a b at : ℕ)
    → place_from from regions a ≡ Some at → place_from from regions b ≡ Some at → a ≡ b
one_address from [] a b at is too = cc
one_address from (region ∷ rest) a b at is too =
    let more :
    place_from (from + region.size) rest a ≡ Some at → place_from (from + region.size) rest b ≡ Some at → a ≡ b =
    one_address (from + region.size) rest a b at
    in
    let above_a : place_from (from + region.size) rest a ≡ Some at → from + region.size ≤ at =
    place_above (from + region.size) rest a at
    in
    let above_b : place_from (from + region.size) rest b ≡ Some at → from + region.size ≤ at =
    place_above (from + region.size) rest b at
    in
    grind arith

-- whole stretches

rest_of : (regions : List Region) (a count at flags : ℕ) → IsWhole regions a (suc count) at flags
    → IsWhole regions (a + 1) count (at + 1) flags
rest_of regions a count at flags whole =
    record {
      placed = λ i within.
          let e : a + 1 + i ≡ a + suc i = omega arith in
          let f : at + suc i ≡ at + 1 + i = omega arith in
          ap (place_from 0 regions) e ∙ (whole.placed (suc i) (omega arith) ∙ ap Some f);
      flagged = λ i within.
          let e : a + 1 + i ≡ a + suc i = omega arith in
          ap (flags_in regions) e ∙ whole.flagged (suc i) (omega arith);
    }

pub first_place : (regions : List Region) (a count at flags : ℕ) → 0 < count → IsWhole regions a count at flags
    → place_from 0 regions a ≡ Some at
first_place regions a count at flags some whole =
    let e : a ≡ a + 0 = omega arith in
    let f : at + 0 ≡ at = omega arith in
    ap (place_from 0 regions) e ∙ (whole.placed 0 some ∙ ap Some f)

pub first_flags : (regions : List Region) (a count at flags : ℕ) → 0 < count → IsWhole regions a count at flags
    → flags_in regions a ≡ flags
first_flags regions a count at flags some whole =
    let e : a ≡ a + 0 = omega arith in ap (flags_in regions) e ∙ whole.flagged 0 some

pub low_address : (regions : List Region) (a at flags : ℕ) → AreLow regions → IsWhole regions a 1 at flags → a < 2 ^ 47
low_address regions a at flags low whole = low_place 0 regions a at low (first_place regions a 1 at flags (omega arith) whole)

-- a stretch ends where the bytes end, or before
pub whole_fits : (regions : List Region) (bytes : List ℕ) (a count at flags : ℕ) → Laid regions bytes → 0 < count
    → IsWhole regions a count at flags → at + count ≤ length bytes
whole_fits regions bytes a count at flags laid some whole =
    let last : at + (count - 1) < 0 + total_of regions =
    place_below 0 regions (a + (count - 1)) (at + (count - 1)) (whole.placed (count - 1) (omega arith))
    in
    let all = laid.whole in omega arith

pub whole_load : (regions : List Region) (bytes : List ℕ) (count a at flags : ℕ) → IsWhole regions a count at flags
    → load count (memory_of regions bytes) a ≡ load count (λ k. slice_index bytes k) at
whole_load regions bytes zero a at flags whole = refl
whole_load regions bytes (suc count) a at flags whole =
    let first : memory_of regions bytes a ≡ slice_index bytes at =
    ap (byte_in bytes) (first_place regions a (suc count) at flags (omega arith) whole)
    in
    let more = whole_load regions bytes count (a + 1) (at + 1) flags (rest_of regions a count at flags whole) in
    ap (λ b. b + 256 * load count (memory_of regions bytes) (a + 1)) first ∙ ap (λ n. slice_index bytes at + 256 * n) more

pub whole_flagged : (regions : List Region) (flag count a at flags : ℕ) → 0 < count → IsWhole regions a count at flags
    → all_flagged regions flag count a ≡ has_flag flags flag
whole_flagged regions flag zero a at flags some whole = absurd (omega arith)
whole_flagged regions flag (suc zero) a at flags some whole =
    let first = first_flags regions a 1 at flags some whole in rw first (grind arith)
whole_flagged regions flag (suc (suc count)) a at flags some whole =
    let first = first_flags regions a (suc (suc count)) at flags some whole in
    let more : all_flagged regions flag (suc count) (a + 1) ≡ has_flag flags flag =
    whole_flagged regions flag (suc count) (a + 1) (at + 1) flags (omega arith)
    (rest_of regions a (suc count) at flags whole)
    in
    rw (first, more) (grind arith)

pub whole_loaded : (regions : List Region) (bytes : List ℕ) (flag count a at flags value : ℕ) → 0 < count
    → IsWhole regions a count at flags → has_flag flags flag ≡ true → value ≡ load count (λ k. slice_index bytes k) at
    → Some value ≡ loaded_by regions bytes flag count a
whole_loaded regions bytes flag count a at flags value some whole set is =
    let usable : all_flagged regions flag count a ≡ true = whole_flagged regions flag count a at flags some whole ∙ set in
    let same = whole_load regions bytes count a at flags whole in
    rw (usable, same, is) refl

pub whole_refused : (regions : List Region) (bytes : List ℕ) (flag count a at flags : ℕ) → 0 < count
    → IsWhole regions a count at flags → has_flag flags flag ≡ false
    → ◌≡◌ {A = Option ℕ} None (loaded_by regions bytes flag count a)
whole_refused regions bytes flag count a at flags some whole unset =
    let usable : all_flagged regions flag count a ≡ false = whole_flagged regions flag count a at flags some whole ∙ unset in
    rw usable refl

-- a byte more before those that were loaded
pub loaded_more : (regions : List Region) (bytes : List ℕ) (flag count a at flags rest : ℕ) → 0 < count
    → IsWhole regions a 1 at flags → has_flag flags flag ≡ true → Some rest ≡ loaded_by regions bytes flag (count - 1) (a + 1)
    → Some (slice_index bytes at + 256 * rest) ≡ loaded_by regions bytes flag count a
loaded_more regions bytes flag zero a at flags rest some whole set is = absurd (omega arith)
loaded_more regions bytes flag (suc count) a at flags rest some whole set is =
    let first = first_flags regions a 1 at flags (omega arith) whole in
    let place : place_from 0 regions a ≡ Some at = first_place regions a 1 at flags (omega arith) whole in
    let e : suc count - 1 ≡ count = omega arith in
    let more : Some rest ≡ loaded_by regions bytes flag count (a + 1) = rw e at is in
    let memory : memory_of regions bytes a ≡ slice_index bytes at = ap (byte_in bytes) place in
    rw (first, set, memory) (grind arith)
