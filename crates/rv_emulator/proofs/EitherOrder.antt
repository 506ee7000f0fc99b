-- Segments that rise are the same memory from the last one on.
use Rattle.std.proofs.Common.{◌≡◌, ℕ, ◌+◌, ◌-◌, ◌<◌, Bool, true, false, map, List, [], ◌∷◌, ◌++◌, reverse, refl, sym, ap, ◌∙◌, arith}
use Rattle.std.proofs.Math.Path.{fun_ext}
use Rattle.std.proofs.lemmas.List.{reverse-append}
use Rattle.std.specs.List.{flat_map}
use Rattle.std.specs.Prelude.{IfOk, Result, Ok, Err, if◌then◌else◌, ◌||◌, slice_index}
use Rattle.rv_form.specs.declared.image.Segment.{Segment}
use Rattle.rv_form.specs.Image.{lies_in, flags_at, byte_at}
use Rattle.rv_emulator.specs.Memory.{Contents}
use Rattle.rv_emulator.specs.Loading.{AreFit, IsLoadable, LaysOut, Rise, bytes_in, ordered, region_of, room_of}

-- what the first segment that has an address gives, and 0 where none has it
abbrev pick : (give : Segment → ℕ) → List Segment → ℕ → ℕ
pick give [] a = 0
pick give (segment ∷ rest) a = if lies_in segment a then give segment else pick give rest a

abbrev has_any : List Segment → ℕ → Bool
has_any [] a = false
has_any (segment ∷ rest) a = lies_in segment a || has_any rest a

none_picked : (give : Segment → ℕ) (segments : List Segment) (a : ℕ) → has_any segments a ≡ false → pick give segments a ≡ 0
none_picked give [] a none = refl
none_picked give (segment ∷ rest) a none = by_first (lies_in segment a) none (none_picked give rest a)
  where
    by_first : (here : Bool) → (here || has_any rest a) ≡ false → (has_any rest a ≡ false → pick give rest a ≡ 0)
        → (if here then give segment else pick give rest a) ≡ 0
    by_first true none more = cc
    by_first false none more = more none

picked_then : (give : Segment → ℕ) (segments : List Segment) (last : Segment) (a : ℕ)
    → pick give (segments ++ last ∷ []) a ≡ (if has_any segments a then pick give segments a else pick give (last ∷ []) a)
picked_then give [] last a = refl
picked_then give (segment ∷ rest) last a = by_first (lies_in segment a) (picked_then give rest last a)
  where
    by_first : (here : Bool)
        → pick give (rest ++ last ∷ []) a ≡ (if has_any rest a then pick give rest a else pick give (last ∷ []) a)
        → (if here then give segment else pick give (rest ++ last ∷ []) a)
        ≡ (if here || has_any rest a then (if here then give segment else pick give rest a) else pick give (last ∷ []) a)
    by_first true more = refl
    by_first false more = more

any_then : (segments : List Segment) (last : Segment) (a : ℕ) → has_any (segments ++ last ∷ []) a ≡ (has_any segments a || lies_in last a)
any_then [] last a = by_last (lies_in last a)
  where
    by_last : (here : Bool) → (here || false) ≡ here
    by_last true = refl
    by_last false = refl
any_then (segment ∷ rest) last a = by_first (lies_in segment a) (any_then rest last a)
  where
    by_first : (here : Bool) → has_any (rest ++ last ∷ []) a ≡ (has_any rest a || lies_in last a)
        → (here || has_any (rest ++ last ∷ []) a) ≡ ((here || has_any rest a) || lies_in last a)
    by_first true more = refl
    by_first false more = more

turned : (segment : Segment) (rest : List Segment) → reverse (segment ∷ rest) ≡ reverse rest ++ segment ∷ []
turned segment rest = reverse-append (segment ∷ []) rest

-- segments that rise from above an address do not have it
none_below : (from : ℕ) (segments : List Segment) (a : ℕ) → Rise from segments → a < from → has_any segments a ≡ false
none_below from [] a rise low = refl
none_below from (segment ∷ rest) a rise low =
    let first = rise.0 in
    let more : has_any rest a ≡ false = none_below (segment.vaddr + segment.memsz) rest a rise.1 (omega arith) in
    let here : lies_in segment a ≡ false = grind arith in
    rw (here, more) refl

-- and as many have an address in either order
same_any : (segments : List Segment) (a : ℕ) → has_any (reverse segments) a ≡ has_any segments a
same_any [] a = refl
same_any (segment ∷ rest) a =
    ap (λ l. has_any l a) (turned segment rest)
    ∙ (any_then (reverse rest) segment a ∙ (ap (λ b. b || lies_in segment a) (same_any rest a) ∙ swapped (has_any rest a) (lies_in segment a)))
  where
    swapped : (b c : Bool) → (b || c) ≡ (c || b)
    swapped true true = refl
    swapped true false = refl
    swapped false true = refl
    swapped false false = refl

same_picked : (give : Segment → ℕ) (from : ℕ) (segments : List Segment) (a : ℕ) → Rise from segments
    → pick give (reverse segments) a ≡ pick give segments a
same_picked give from [] a rise = refl
same_picked give from (segment ∷ rest) a rise =
    ap (λ l. pick give l a) (turned segment rest)
    ∙ (picked_then give (reverse rest) segment a
    ∙ (ap (λ b. if b then pick give (reverse rest) a else pick give (segment ∷ []) a) (same_any rest a)
    ∙ (ap (λ n. if has_any rest a then n else pick give (segment ∷ []) a) (same_picked give (segment.vaddr + segment.memsz) rest a rise.1)
    ∙ by_first (lies_in segment a) refl (has_any rest a) refl)))
  where
    by_first : (here : Bool) → lies_in segment a ≡ here → (any : Bool) → has_any rest a ≡ any
        → (if any then pick give rest a else (if here then give segment else 0))
        ≡ (if here then give segment else pick give rest a)
    by_first true is false none = refl
    by_first true is true some =
        let none : has_any rest a ≡ false =
        none_below (segment.vaddr + segment.memsz) rest a rise.1 (grind arith)
        in
        cc
    by_first false is true some = refl
    by_first false is false none = sym (none_picked give rest a none)

bytes_picked : (segments : List Segment) (a : ℕ) → byte_at segments a ≡ pick (λ segment. slice_index segment.bytes (a - segment.vaddr)) segments a
bytes_picked [] a = refl
bytes_picked (segment ∷ rest) a =
    ap (λ n. if lies_in segment a then slice_index segment.bytes (a - segment.vaddr) else n) (bytes_picked rest a)

flags_picked : (segments : List Segment) (a : ℕ) → flags_at segments a ≡ pick (λ segment. segment.flags) segments a
flags_picked [] a = refl
flags_picked (segment ∷ rest) a = ap (λ n. if lies_in segment a then segment.flags else n) (flags_picked rest a)

pub same_bytes : (segments : List Segment) → Rise 0 segments → byte_at (reverse segments) ≡ byte_at segments
same_bytes segments rise =
    fun_ext (λ a.
    bytes_picked (reverse segments) a
    ∙ (same_picked (λ segment. slice_index segment.bytes (a - segment.vaddr)) 0 segments a rise ∙ sym (bytes_picked segments a)))

pub same_flags : (segments : List Segment) (a : ℕ) → Rise 0 segments → flags_at (reverse segments) a ≡ flags_at segments a
same_flags segments a rise =
    flags_picked (reverse segments) a ∙ (same_picked (λ segment. segment.flags) 0 segments a rise ∙ sym (flags_picked segments a))

fit_then : (segments : List Segment) (last : Segment) → AreFit segments → AreFit (last ∷ []) → AreFit (segments ++ last ∷ [])
fit_then [] last fit one = one
fit_then (segment ∷ rest) last fit one = (fit.0, fit.1, fit_then rest last fit.2 one)

fit_turned : (segments : List Segment) → AreFit segments → AreFit (reverse segments)
fit_turned [] fit = tt
fit_turned (segment ∷ rest) fit =
    rw (turned segment rest) (fit_then (reverse rest) segment (fit_turned rest fit.2) (fit.0, fit.1, tt))

room_then : (segments : List Segment) (last : Segment) → room_of (segments ++ last ∷ []) ≡ last.memsz + room_of segments
room_then [] last = refl
room_then (segment ∷ rest) last = let more = room_then rest last in omega arith

room_turned : (segments : List Segment) → room_of (reverse segments) ≡ room_of segments
room_turned [] = refl
room_turned (segment ∷ rest) =
    let more = room_turned rest in
    ap room_of (turned segment rest) ∙ (room_then (reverse rest) segment ∙ ap (λ n. segment.memsz + n) more)

-- what can be loaded can be loaded in either order
pub loadable : (backwards : Bool) (segments : List Segment) → IsLoadable segments → IsLoadable (ordered backwards segments)
loadable false segments one = one
loadable true segments one =
    record { fit = fit_turned segments one.fit; room = rw (room_turned segments) one.room }

-- and is laid out so
lays_out : (backwards : Bool) (segments : List Segment) (memory : Contents) → IsLoadable segments
    → (backwards ≡ true → Rise 0 segments)
    → memory.regions ≡ map region_of (ordered backwards segments) → memory.bytes ≡ flat_map bytes_in (ordered backwards segments)
    → LaysOut segments memory
lays_out false segments memory one rise of_regions of_bytes =
    record {
      order = segments;
      fit = one.fit;
      of_regions = of_regions;
      of_bytes = of_bytes;
      same_bytes = refl;
      same_flags = λ a. refl;
    }
lays_out true segments memory one rise of_regions of_bytes =
    record {
      order = reverse segments;
      fit = fit_turned segments one.fit;
      of_regions = of_regions;
      of_bytes = of_bytes;
      same_bytes = same_bytes segments (rise refl);
      same_flags = λ a. same_flags segments a (rise refl);
    }

pub each_lays_out : {E : Type 0} (backwards : Bool) (segments : List Segment) (result : Result Contents E) → IsLoadable segments
    → (backwards ≡ true → Rise 0 segments)
    → IfOk result (λ memory. memory.regions ≡ map region_of (ordered backwards segments))
    → IfOk result (λ memory. memory.bytes ≡ flat_map bytes_in (ordered backwards segments))
    → IfOk result (λ memory. LaysOut segments memory)
each_lays_out backwards segments (Ok memory) one rise of_regions of_bytes =
    lays_out backwards segments memory one rise of_regions of_bytes
each_lays_out backwards segments (Err e) one rise of_regions of_bytes = tt
