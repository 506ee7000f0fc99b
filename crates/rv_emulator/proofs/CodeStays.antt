-- Instructions that were read once stay what is fetched.
use Rattle.std.proofs.Common.{◌≡◌, ℕ, zero, suc, ◌++◌, ◌+◌, ◌*◌, ◌%◌, ◌^◌, ◌<◌, true, false, Bool, List, [], ◌∷◌, length, Some, refl, sym, ap, subst, ◌∙◌, arith}
use Rattle.std.proofs.Math.ListN.{get_or-append, length-append}
use Rattle.std.proofs.Math.Seq.{get_or-append_seam}
use Rattle.std.specs.Prelude.{nat_eq, nat_lt, ◌&&◌, slice_index_or}
use Rattle.rv_form.specs.Image.{Executing, Writing}
use Rattle.rv_form.specs.Machine.{found, fetch, fetched, load, all_allowed}
use Rattle.rv_form.specs.Instruction.{instruction_of}
use Rattle.rv_emulator.specs.declared.region.Region.{Region}
use Rattle.rv_emulator.specs.Memory.{Contents, allowed, cells, flags_in, has_flag, loaded_by, AreLow}
use Rattle.rv_words.specs.declared.decoded.Decoded.{Decoded}
use Rattle.rv_emulator.specs.declared.next.Spot.{Spot}
use Rattle.rv_emulator.specs.States.{world_with, no_env, Kept, StandsAt, StaysAt, IsCached, IsNumbered, LieLow}

-- an address at which something may be done lies below 2^47
pub flagged_low : (regions : List Region) (flag a : ℕ) → AreLow regions → 0 < flag
    → has_flag (flags_in regions a) flag ≡ true → a < 2 ^ 47
flagged_low [] flag a low some set = grind arith
flagged_low (region ∷ rest) flag a low some set =
    let first = low.0 in
    let more : has_flag (flags_in rest a) flag ≡ true → a < 2 ^ 47 = flagged_low rest flag a low.1 some in
    grind arith

pub loaded_low : (regions : List Region) (bytes : List ℕ) (flag count a value : ℕ) → AreLow regions → 0 < flag
    → Some value ≡ loaded_by regions bytes flag (suc count) a → a < 2 ^ 47
loaded_low regions bytes flag count a value low some is =
    let set : has_flag (flags_in regions a) flag ≡ true = grind arith in flagged_low regions flag a low some set

four_bytes : (m m' : ℕ → ℕ) (a : ℕ) → ((i : ℕ) → i < 4 → m' (a + i) ≡ m (a + i)) → load 4 m' a ≡ load 4 m a
four_bytes m m' a same =
    let e0 : a + 0 ≡ a = omega arith in
    let e2 : a + 2 ≡ a + 1 + 1 = omega arith in
    let e3 : a + 3 ≡ a + 1 + 1 + 1 = omega arith in
    let b0 : m' a ≡ m a = subst (λ b. m' b ≡ m b) e0 (same 0 (omega arith)) in
    let b1 : m' (a + 1) ≡ m (a + 1) = same 1 (omega arith) in
    let b2 : m' (a + 1 + 1) ≡ m (a + 1 + 1) = subst (λ b. m' b ≡ m b) e2 (same 2 (omega arith)) in
    let b3 : m' (a + 1 + 1 + 1) ≡ m (a + 1 + 1 + 1) = subst (λ b. m' b ≡ m b) e3 (same 3 (omega arith)) in
    rw (b0, b1, b2, b3) refl

-- where the bytes that may not be written are as they were, what stands stays
pub stays_kept : (old new : Contents) (pc : ℕ) (word : Decoded) → Kept old new → StaysAt old pc word → StaysAt new pc word
stays_kept old new pc word kept one =
    let same : load 4 (cells new) pc ≡ load 4 (cells old) pc =
    four_bytes (cells old) (cells new) pc (λ i within. kept.fixed (pc + i) (one.fixed i within))
    in
    record {
      here =
          record {
            stands =
                ap (λ regions. fetch (world_with regions no_env) (cells new) pc) kept.regions
                ∙ (by_load (nat_eq (pc % 4) 0 && all_allowed (world_with old.regions no_env) Executing 4 pc) same ∙ one.here.stands);
            ready = one.here.ready;
            low = one.here.low;
          };
      fixed = λ i within. ap (λ regions. allowed regions Writing (pc + i)) kept.regions ∙ one.fixed i within;
    }
  where
    by_load : (placed : Bool) → load 4 (cells new) pc ≡ load 4 (cells old) pc
        → fetched placed (cells new) pc ≡ fetched placed (cells old) pc
    by_load true same = ap (λ n. found (instruction_of n)) same
    by_load false same = refl

pub cached_kept : (old new : Contents) (base : ℕ) (words : List Decoded) → Kept old new
    → IsCached old base words → IsCached new base words
cached_kept old new base words kept cached =
    λ k word within is. stays_kept old new (base + 4 * k) word kept (cached k word within is)

-- each word of a list is there
some_word : (words : List Decoded) (at : ℕ) → at < length words
    → (word : Decoded) × ((other : Decoded) → slice_index_or words at other ≡ word)
some_word [] at within = absurd (omega arith)
some_word (word ∷ rest) zero within = (word, λ other. refl)
some_word (word ∷ rest) (suc at) within = some_word rest at (omega arith)

pub low_words : (memory : Contents) (base : ℕ) (words : List Decoded) → IsCached memory base words → LieLow base words
low_words memory base words cached =
    λ at within. let one = some_word words at within in (cached at one.0 within (one.1 one.0)).here.low

pub word_stands : (memory : Contents) (base : ℕ) (words : List Decoded) (spot : Spot) (other : Decoded) → IsCached memory base words
    → IsNumbered base words spot → spot.at < length words → StandsAt memory spot.pc (slice_index_or words spot.at other)
word_stands memory base words spot other cached numbered within =
    let one = some_word words spot.at within in
    let word : slice_index_or words spot.at other ≡ one.0 = one.1 other in
    let place : spot.pc ≡ base + 4 * spot.at = numbered within in
    rw (word, place) (cached spot.at one.0 within (one.1 one.0)).here

data Order (m n : ℕ) : Type 0 where
  less : (low : m < n) → Order m n
  same : (e : m ≡ n) → Order m n
  more : (high : n < m) → Order m n

order : (m n : ℕ) → Order m n
order m n = go (nat_lt m n) refl (nat_lt n m) refl
  where
    go : (low : Bool) → nat_lt m n ≡ low → (high : Bool) → nat_lt n m ≡ high → Order m n
    go true p high q = less (grind arith)
    go false p true q = more (grind arith)
    go false p false q = same (grind arith)

-- one more word is read
pub cached_more : (memory : Contents) (base : ℕ) (words : List Decoded) (last : Decoded)
    → IsCached memory base words → StaysAt memory (base + 4 * length words) last
    → IsCached memory base (words ++ last ∷ [])
cached_more memory base words last cached one k word within is = go (order k (length words))
  where
    go : Order k (length words) → StaysAt memory (base + 4 * k) word
    go (less low) = cached k word low (sym (get_or-append words (last ∷ []) word k low) ∙ is)
    go (same e) =
        let there : last ≡ word =
        sym (get_or-append_seam words last [] word)
        ∙ subst (λ n. slice_index_or (words ++ last ∷ []) n word ≡ word) e is
        in
        subst (λ w. StaysAt memory (base + 4 * k) w) there
        (subst (λ n. StaysAt memory (base + 4 * n) last) (sym e) one)
    go (more high) =
        let size : length (words ++ last ∷ []) ≡ length words + 1 = length-append words (last ∷ []) in
        absurd (omega arith)
