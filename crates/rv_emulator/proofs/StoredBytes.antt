-- What a store does to memory.
use Rattle.std.proofs.Common.{◌≡◌, ◌≢◌, ℕ, zero, suc, ◌+◌, ◌-◌, ◌*◌, ◌/◌, ◌%◌, ◌^◌, ◌<◌, ◌≤◌, Bool, true, false, List, length, Option, Some, None, refl, sym, ap, subst, ◌∙◌, arith}
use Rattle.std.proofs.Math.Path.{fun_ext}
use Rattle.std.proofs.Math.Nat.{div-div-eq-div-mul, pow-suc, pow-succ'}
use Rattle.std.proofs.lemmas.List.{get_or-set_same, get_or-set_other}
use Rattle.std.specs.Prelude.{nat_eq, nat_lt, nat_le, ◌&&◌, slice_index, slice_set}
use Rattle.rv_form.specs.Machine.{store}
use Rattle.rv_emulator.specs.declared.region.Region.{Region}
use Rattle.rv_emulator.specs.Memory.{place_from, flags_in, byte_in, memory_of, has_flag, all_flagged, IsWhole}
use Rattle.rv_emulator.proofs.OnePlaceEach.{one_address}

pub store_in : (count : ℕ) (memory : ℕ → ℕ) (a value b : ℕ) → a ≤ b → b < a + count
    → store count memory a value b ≡ value / 256 ^ (b - a) % 256
store_in count memory a value b low high =
    let e : (nat_le a b && nat_lt b (a + count)) ≡ true = grind arith in rw e refl

pub store_below : (count : ℕ) (memory : ℕ → ℕ) (a value b : ℕ) → b < a → store count memory a value b ≡ memory b
store_below count memory a value b low =
    let e : (nat_le a b && nat_lt b (a + count)) ≡ false = grind arith in rw e refl

pub store_above : (count : ℕ) (memory : ℕ → ℕ) (a value b : ℕ) → a + count ≤ b → store count memory a value b ≡ memory b
store_above count memory a value b high =
    let e : (nat_le a b && nat_lt b (a + count)) ≡ false = grind arith in rw e refl

-- where an address lies, of a stretch
pub data Lies (a count b : ℕ) : Type 0 where
  within : (low : a ≤ b) (high : b < a + count) → Lies a count b
  below : (low : b < a) → Lies a count b
  above : (high : a + count ≤ b) → Lies a count b

pub lies : (a count b : ℕ) → Lies a count b
lies a count b = go (nat_le a b) refl (nat_lt b (a + count)) refl
  where
    go : (low : Bool) → nat_le a b ≡ low → (high : Bool) → nat_lt b (a + count) ≡ high → Lies a count b
    go true p true q = within (grind arith) (grind arith)
    go true p false q = above (grind arith)
    go false p high q = below (grind arith)

-- the next digit of a number
pub next_digit : (value i : ℕ) → value / 256 ^ i / 256 ≡ value / 256 ^ (i + 1)
next_digit value i =
    let e : 256 ^ i * 256 ≡ 256 ^ (i + 1) = sym (pow-suc 256 i) ∙ ap (λ n. 256 ^ n) (omega arith) in
    div-div-eq-div-mul value (256 ^ i) 256 ∙ ap (λ n. value / n) e

digit_after : (value i : ℕ) → value / 256 / 256 ^ i ≡ value / 256 ^ (i + 1)
digit_after value i =
    let e : 256 * 256 ^ i ≡ 256 ^ (i + 1) = sym (pow-succ' 256 i) ∙ ap (λ n. 256 ^ n) (omega arith) in
    div-div-eq-div-mul value 256 (256 ^ i) ∙ ap (λ n. value / n) e

-- a byte more is put
pub put_more : (bytes : List ℕ) (old : ℕ → ℕ) (at i value rest : ℕ) → at + i < length bytes
    → ((k : ℕ) → slice_index bytes k ≡ store i old at value k) → rest ≡ value / 256 ^ i
    → (k : ℕ) → slice_index (slice_set bytes (at + i) (rest % 256)) k ≡ store (i + 1) old at value k
put_more bytes old at i value rest fits before is k = go (lies at i k)
  where
    other : k ≢ at + i → slice_index (slice_set bytes (at + i) (rest % 256)) k ≡ store i old at value k
    other differs = get_or-set_other bytes (at + i) k (rest % 256) 0 differs ∙ before k

    go : Lies at i k → slice_index (slice_set bytes (at + i) (rest % 256)) k ≡ store (i + 1) old at value k
    go (within low high) =
        other (omega arith)
        ∙ (store_in i old at value k low high ∙ sym (store_in (i + 1) old at value k low (omega arith)))
    go (below low) =
        other (omega arith) ∙ (store_below i old at value k low ∙ sym (store_below (i + 1) old at value k low))
    go (above high) = last (nat_eq k (at + i)) refl
      where
        last : (b : Bool) → nat_eq k (at + i) ≡ b → slice_index (slice_set bytes (at + i) (rest % 256)) k ≡ store (i + 1) old at value k
        last true p =
            let e : k ≡ at + i = grind arith in
            let f : k - at ≡ i = omega arith in
            ap (slice_index (slice_set bytes (at + i) (rest % 256))) e
            ∙ (get_or-set_same bytes (at + i) (rest % 256) 0 fits
            ∙ (ap (λ n. n % 256) (is ∙ ap (λ n. value / 256 ^ n) (sym f))
            ∙ sym (store_in (i + 1) old at value k (omega arith) (omega arith))))
        last false p =
            let e : k ≢ at + i = λ h. absurd (grind arith) in
            other e ∙ (store_above i old at value k high ∙ sym (store_above (i + 1) old at value k (omega arith)))

-- the byte of another address stays as it is
untouched : (regions : List Region) (old new : List ℕ) (a count at flags value b j : ℕ) → IsWhole regions a count at flags
    → ((k : ℕ) → slice_index new k ≡ store count (λ k. slice_index old k) at value k)
    → place_from 0 regions b ≡ Some j → (a ≤ b → a + count ≤ b) → slice_index new j ≡ slice_index old j
untouched regions old new a count at flags value b j whole written is out = outside (lies at count j)
  where
    outside : Lies at count j → slice_index new j ≡ slice_index old j
    outside (within low high) =
        let f : at + (j - at) ≡ j = omega arith in
        let there : place_from 0 regions (a + (j - at)) ≡ Some j = whole.placed (j - at) (omega arith) ∙ ap Some f in
        let same : a + (j - at) ≡ b = one_address 0 regions (a + (j - at)) b j there is in
        let more = out (omega arith) in
        absurd (omega arith)
    outside (below low) = written j ∙ store_below count (λ k. slice_index old k) at value j low
    outside (above high) = written j ∙ store_above count (λ k. slice_index old k) at value j high

-- bytes that were put at a place are stored at its address
pub whole_store : (regions : List Region) (old new : List ℕ) (a count at flags value : ℕ) → IsWhole regions a count at flags
    → ((k : ℕ) → slice_index new k ≡ store count (λ k. slice_index old k) at value k)
    → memory_of regions new ≡ store count (memory_of regions old) a value
whole_store regions old new a count at flags value whole written = fun_ext (λ b. go b (lies a count b))
  where
    same : (b : ℕ) → (a ≤ b → a + count ≤ b) → (place : Option ℕ) → place_from 0 regions b ≡ place
        → memory_of regions new b ≡ memory_of regions old b
    same b out None is = ap (byte_in new) is ∙ sym (ap (byte_in old) is)
    same b out (Some j) is =
        ap (byte_in new) is
        ∙ (untouched regions old new a count at flags value b j whole written is out ∙ sym (ap (byte_in old) is))

    go : (b : ℕ) → Lies a count b → memory_of regions new b ≡ store count (memory_of regions old) a value b
    go b (within low high) =
        let e : a + (b - a) ≡ b = omega arith in
        let f : at + (b - a) - at ≡ b - a = omega arith in
        let here : place_from 0 regions b ≡ Some (at + (b - a)) =
        ap (place_from 0 regions) (sym e) ∙ whole.placed (b - a) (omega arith)
        in
        ap (byte_in new) here
        ∙ (written (at + (b - a))
        ∙ (store_in count (λ k. slice_index old k) at value (at + (b - a)) (omega arith) (omega arith)
        ∙ (ap (λ n. value / 256 ^ n % 256) f
        ∙ sym (store_in count (memory_of regions old) a value b low high))))
    go b (below low) =
        same b (λ l. absurd (omega arith)) (place_from 0 regions b) refl
        ∙ sym (store_below count (memory_of regions old) a value b low)
    go b (above high) =
        same b (λ l. high) (place_from 0 regions b) refl
        ∙ sym (store_above count (memory_of regions old) a value b high)

-- one byte that was put at a place
pub one_store : (regions : List Region) (old : List ℕ) (a at flags value : ℕ) → IsWhole regions a 1 at flags → at < length old
    → memory_of regions (slice_set old at (value % 256)) ≡ store 1 (memory_of regions old) a value
one_store regions old a at flags value whole fits =
    whole_store regions old (slice_set old at (value % 256)) a 1 at flags value whole (λ k.
    let none : (k : ℕ) → slice_index old k ≡ store 0 (λ k. slice_index old k) at value k = λ k. none_at k in
    let e : at + 0 ≡ at = omega arith in
    subst (λ n. slice_index (slice_set old n (value % 256)) k ≡ store 1 (λ k. slice_index old k) at value k) e
    (put_more old (λ k. slice_index old k) at 0 value value (omega arith) none (grind arith) k))
  where
    none_at : (k : ℕ) → slice_index old k ≡ store 0 (λ k. slice_index old k) at value k
    none_at k = grind arith

-- the lowest byte, and then the others from the next address on
pub store_then : (count : ℕ) (memory : ℕ → ℕ) (a value : ℕ) → 0 < count
    → store (count - 1) (store 1 memory a value) (a + 1) (value / 256) ≡ store count memory a value
store_then count memory a value some = fun_ext (λ b. go b (lies (a + 1) (count - 1) b) (lies a 1 b))
  where
    go : (b : ℕ) → Lies (a + 1) (count - 1) b → Lies a 1 b
        → store (count - 1) (store 1 memory a value) (a + 1) (value / 256) b ≡ store count memory a value b
    go b (within low high) one =
        let e : b - (a + 1) + 1 ≡ b - a = omega arith in
        store_in (count - 1) (store 1 memory a value) (a + 1) (value / 256) b low high
        ∙ (ap (λ n. n % 256) (digit_after value (b - (a + 1)) ∙ ap (λ n. value / 256 ^ n) e)
        ∙ sym (store_in count memory a value b (omega arith) (omega arith)))
    go b (below low) (within low' high') =
        store_below (count - 1) (store 1 memory a value) (a + 1) (value / 256) b low
        ∙ (store_in 1 memory a value b low' high' ∙ sym (store_in count memory a value b low' (omega arith)))
    go b (below low) (below low') =
        store_below (count - 1) (store 1 memory a value) (a + 1) (value / 256) b low
        ∙ (store_below 1 memory a value b low' ∙ sym (store_below count memory a value b low'))
    go b (below low) (above high') = absurd (omega arith)
    go b (above high) (within low' high') = absurd (omega arith)
    go b (above high) (below low') = absurd (omega arith)
    go b (above high) (above high') =
        store_above (count - 1) (store 1 memory a value) (a + 1) (value / 256) b high
        ∙ (store_above 1 memory a value b high' ∙ sym (store_above count memory a value b (omega arith)))

first_or_later : (regions : List Region) (flag a b : ℕ) → has_flag (flags_in regions a) flag ≡ true
    → (a + 1 ≤ b → has_flag (flags_in regions b) flag ≡ true) → a ≤ b → has_flag (flags_in regions b) flag ≡ true
first_or_later regions flag a b here later low = go (nat_eq a b) refl
  where
    go : (same : Bool) → nat_eq a b ≡ same → has_flag (flags_in regions b) flag ≡ true
    go true p = let e : a ≡ b = grind arith in subst (λ x. has_flag (flags_in regions x) flag ≡ true) e here
    go false p = later (grind arith)

-- each byte of a stretch that may be used so may be
flag_within : (regions : List Region) (flag count a b : ℕ) → all_flagged regions flag count a ≡ true → a ≤ b → b < a + count
    → has_flag (flags_in regions b) flag ≡ true
flag_within regions flag zero a b usable low high = absurd (omega arith)
flag_within regions flag (suc count) a b usable low high =
    let here : has_flag (flags_in regions a) flag ≡ true = grind arith in
    let more : all_flagged regions flag count (a + 1) ≡ true = grind arith in
    first_or_later regions flag a b here (λ later. flag_within regions flag count (a + 1) b more later (omega arith)) low

-- a store changes no byte that may not be written
pub store_keeps : (regions : List Region) (old new : List ℕ) (count a value : ℕ) → all_flagged regions 2 count a ≡ true
    → memory_of regions new ≡ store count (memory_of regions old) a value
    → (b : ℕ) → has_flag (flags_in regions b) 2 ≡ false → memory_of regions new b ≡ memory_of regions old b
store_keeps regions old new count a value usable stored b fixed =
    ap (λ memory. memory b) stored ∙ go (lies a count b)
  where
    go : Lies a count b → store count (memory_of regions old) a value b ≡ memory_of regions old b
    go (within low high) = let may : has_flag (flags_in regions b) 2 ≡ true = flag_within regions 2 count a b usable low high in cc
    go (below low) = store_below count (memory_of regions old) a value b low
    go (above high) = store_above count (memory_of regions old) a value b high
