-- What is loaded is the image.
use Rattle.std.proofs.Common.{◌≡◌, ℕ, zero, suc, ◌+◌, ◌-◌, ◌/◌, ◌%◌, ◌<◌, ◌≤◌, Bool, true, false, List, [], ◌∷◌, ◌++◌, length, Some, None, take, refl, sym, ap, subst, ◌∙◌, append_assoc, arith}
use Rattle.std.proofs.Math.Path.{fun_ext}
use Rattle.std.proofs.Math.ListN.{get_or-append}
use Rattle.std.proofs.lemmas.List.{get_or-append-add, get_or-append_right, length-append}
use Rattle.std.specs.Prelude.{nat_eq, nat_lt, if◌then◌else◌, map, replicate, slice_index}
use Rattle.std.specs.List.{flat_map}
use Rattle.rv_form.specs.declared.image.Segment.{Segment}
use Rattle.rv_form.specs.Image.{Access, flag_of, lies_in, flags_at, byte_at, allows}
use Rattle.rv_emulator.specs.Memory.{Contents, cells, place_from, flags_in, byte_in, memory_of, allowed, total_of, AreLow, Laid}
use Rattle.rv_emulator.specs.Loading.{AreFit, LaysOut, bytes_in, region_of}
use Rattle.scheme_base.specs.declared.env.Env.{Env}
use Rattle.scheme_base.specs.Outside.{Calls, no_calls}
use Rattle.rv_form.specs.declared.image.Image.{Image}
use Rattle.rv_form.specs.Machine.{World, Run, Running}
use Rattle.rv_emulator.specs.declared.registers.Registers.{Registers}
use Rattle.rv_emulator.specs.Held.{StartsAs}
use Rattle.rv_emulator.specs.States.{regs_of}
use Rattle.rv_emulator.proofs.BytesOfNumbers.{zeros_at}

pub written_back : {A : Type 0} (new rest : List A) (len : ℕ) → len ≡ length new → take len (new ++ rest) ≡ new
written_back new rest len is = subst (λ n. take n (new ++ rest) ≡ new) (sym is) (whole new rest)
  where
    whole : {A : Type 0} (new rest : List A) → take (length new) (new ++ rest) ≡ new
    whole [] rest = refl
    whole (x ∷ new) rest = ap (λ l. x ∷ l) (whole new rest)

zeros_size : (n : ℕ) → length {A = ℕ} (replicate n 0) ≡ n
zeros_size zero = refl
zeros_size (suc n) = ap suc (zeros_size n)

bytes_size : (segment : Segment) → length segment.bytes ≤ segment.memsz → length (bytes_in segment) ≡ segment.memsz
bytes_size segment fits =
    let e = length-append segment.bytes (replicate (segment.memsz - length segment.bytes) 0) in
    let z = zeros_size (segment.memsz - length segment.bytes) in
    omega arith

pub low_regions : (segments : List Segment) → AreFit segments → AreLow (map region_of segments)
low_regions [] fit = tt
low_regions (segment ∷ rest) fit = (fit.1, low_regions rest fit.2)

whole_bytes : (segments : List Segment) → AreFit segments
    → length (flat_map bytes_in segments) ≡ total_of (map region_of segments)
whole_bytes [] fit = refl
whole_bytes (segment ∷ rest) fit =
    let e = length-append (bytes_in segment) (flat_map bytes_in rest) in
    let one = bytes_size segment fit.0 in
    let more = whole_bytes rest fit.2 in
    omega arith

pub are_laid : (segments : List Segment) → AreFit segments → Laid (map region_of segments) (flat_map bytes_in segments)
are_laid segments fit = record { low = low_regions segments fit; whole = whole_bytes segments fit }

nothing_beyond : (xs : List ℕ) (k : ℕ) → length xs ≤ k → slice_index xs k ≡ 0
nothing_beyond [] k low = refl
nothing_beyond (x ∷ xs) zero low = absurd (omega arith)
nothing_beyond (x ∷ xs) (suc k) low = nothing_beyond xs k (omega arith)

-- a segment's bytes, and zeros
byte_of_segment : (segment : Segment) (k : ℕ) → slice_index (bytes_in segment) k ≡ slice_index segment.bytes k
byte_of_segment segment k = go (nat_lt k (length segment.bytes)) refl
  where
    zeros : List ℕ
    zeros = replicate (segment.memsz - length segment.bytes) 0

    go : (b : Bool) → nat_lt k (length segment.bytes) ≡ b → slice_index (bytes_in segment) k ≡ slice_index segment.bytes k
    go true p = get_or-append segment.bytes zeros 0 k (grind arith)
    go false p =
        let high : length segment.bytes ≤ k = grind arith in
        get_or-append_right segment.bytes zeros (length segment.bytes) k 0 refl high
        ∙ (zeros_at (segment.memsz - length segment.bytes) (k - length segment.bytes)
        ∙ sym (nothing_beyond segment.bytes k high))

by_segment : (front : List ℕ) (segment : Segment) (rest : List Segment) (a : ℕ) → length (bytes_in segment) ≡ segment.memsz
    → byte_in ((front ++ bytes_in segment) ++ flat_map bytes_in rest) (place_from (length (front ++ bytes_in segment)) (map region_of rest) a)
    ≡ byte_at rest a
    → (b : Bool) → lies_in segment a ≡ b
    → byte_in (front ++ (bytes_in segment ++ flat_map bytes_in rest))
    (if b then Some (length front + (a - segment.vaddr)) else place_from (length front + segment.memsz) (map region_of rest) a)
    ≡ (if b then slice_index segment.bytes (a - segment.vaddr) else byte_at rest a)
by_segment front segment rest a size more true p =
    let within : a - segment.vaddr < segment.memsz = grind arith in
    let inside : a - segment.vaddr < length (bytes_in segment) = rw size within in
    get_or-append-add front (bytes_in segment ++ flat_map bytes_in rest) (a - segment.vaddr) 0
    ∙ (get_or-append (bytes_in segment) (flat_map bytes_in rest) 0 (a - segment.vaddr) inside
    ∙ byte_of_segment segment (a - segment.vaddr))
by_segment front segment rest a size more false p =
    let e : length (front ++ bytes_in segment) ≡ length front + segment.memsz =
    length-append front (bytes_in segment) ∙ ap (λ n. length front + n) size
    in
    ap (λ n. byte_in (front ++ (bytes_in segment ++ flat_map bytes_in rest)) (place_from n (map region_of rest) a)) (sym e)
    ∙ (ap (λ bytes. byte_in bytes (place_from (length (front ++ bytes_in segment)) (map region_of rest) a)) (sym (append_assoc front (bytes_in segment) (flat_map bytes_in rest)))
    ∙ more)

memory_after : (front : List ℕ) (segments : List Segment) (a : ℕ) → AreFit segments
    → byte_in (front ++ flat_map bytes_in segments) (place_from (length front) (map region_of segments) a) ≡ byte_at segments a
memory_after front [] a fit = refl
memory_after front (segment ∷ rest) a fit =
    let size : length (bytes_in segment) ≡ segment.memsz = bytes_size segment fit.0 in
    let more = memory_after (front ++ bytes_in segment) rest a fit.2 in
    by_segment front segment rest a size more (lies_in segment a) refl

-- the same as functions
pub same_memory : (segments : List Segment) → AreFit segments
    → memory_of (map region_of segments) (flat_map bytes_in segments) ≡ byte_at segments
same_memory segments fit = fun_ext (λ a. memory_after [] segments a fit)

same_flags : (segments : List Segment) (a : ℕ) → flags_in (map region_of segments) a ≡ flags_at segments a
same_flags [] a = refl
same_flags (segment ∷ rest) a = ap (λ n. if lies_in segment a then segment.flags else n) (same_flags rest a)

pub same_uses : (segments : List Segment) → allowed (map region_of segments) ≡ allows segments
same_uses segments = fun_ext (λ access. fun_ext (λ a. ap (λ n. nat_eq (n / flag_of access % 2) 1) (same_flags segments a)))

pub starts_as : (image : Image) (memory : Contents) (registers : Registers) → LaysOut image.segments memory
    → regs_of registers ≡ (λ r. 0)
    → StartsAs image (record { regions = memory.regions; bytes = memory.bytes; registers = registers.words; pc = image.entry; end = None })
starts_as image memory registers out zeros =
    let same : allows out.order ≡ allows image.segments =
    fun_ext (λ access. fun_ext (λ a. ap (λ n. nat_eq (n / flag_of access % 2) 1) (out.same_flags a)))
    in
    let uses : allowed memory.regions ≡ allows image.segments = ap allowed out.of_regions ∙ (same_uses out.order ∙ same) in
    let loaded : cells memory ≡ byte_at image.segments =
    ap (λ r. memory_of r memory.bytes) out.of_regions
    ∙ (ap (memory_of (map region_of out.order)) out.of_bytes ∙ (same_memory out.order out.fit ∙ out.same_bytes))
    in
    record {
      uses = λ env. ap (λ u. as_world u env) uses;
      begins = λ env.
          ap (λ regs. begun image.entry regs (cells memory) (no_calls env)) zeros
          ∙ ap (λ m. begun image.entry (λ r. 0) m (no_calls env)) loaded;
    }
  where
    as_world : (Access → ℕ → Bool) → Env → World
    as_world u env = record { allows = u; env = env }

    begun : (pc : ℕ) (regs memory : ℕ → ℕ) → Calls → Run
    begun pc regs memory calls = Running (record { pc = pc; regs = regs; memory = memory; calls = calls })
