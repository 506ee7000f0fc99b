-- Code that memory holds is fetched as it was written.
use Rattle.std.proofs.Common.{◌≡◌, ℕ, zero, suc, ◌+◌, ◌*◌, ◌%◌, ◌<◌, ◌≤◌, true, List, [], ◌∷◌, ◌++◌, length, Some, refl, sym, ap, subst, ◌∙◌, arith}
use Rattle.std.specs.Prelude.{◌-◌, ◌/◌, nat_eq, ◌&&◌, slice_get, slice_index}
use Rattle.scheme_base.specs.declared.env.Env.{Env}
use Rattle.rv_form.specs.declared.image.Segment.{Segment}
use Rattle.rv_form.specs.declared.instr.Instr.{Instr}
use Rattle.rv_form.specs.Numbers.{low_bytes}
use Rattle.rv_form.specs.Instruction.{word_of, instruction_of, code_bytes}
use Rattle.rv_form.specs.Image.{Access, Executing, flag_of, lies_in, byte_at}
use Rattle.rv_form.specs.Machine.{World, world_of, Found, found, fetched, fetch, load, all_allowed}
use Rattle.rv_form.proofs.Words.{number_of, Decodes, AllDecode, also}

-- memory holds these bytes from a place on
abbrev pub Holds : (ℕ → ℕ) → ℕ → List ℕ → Type 0
Holds memory a [] = Unit {0}
Holds memory a (byte ∷ rest) = (memory a ≡ byte) × Holds memory (a + 1) rest

-- so many bytes from a place on may be used so
pub record IsOpen (w : World) (access : Access) (from count : ℕ) : Type 0 where
  pub usable : (a : ℕ) → from ≤ a → a < from + count → w.allows access a ≡ true

all_open : (w : World) (access : Access) (from total count a : ℕ) → IsOpen w access from total
    → from ≤ a → a + count ≤ from + total → all_allowed w access count a ≡ true
all_open w access from total zero a area low high = refl
all_open w access from total (suc count) a area low high =
    let one : w.allows access a ≡ true = area.usable a low (omega arith) in
    let rest : all_allowed w access count (a + 1) ≡ true = all_open w access from total count (a + 1) area (omega arith) (omega arith) in
    rw one rest

load_number : (memory : ℕ → ℕ) (bytes rest : List ℕ) (a : ℕ) → Holds memory a (bytes ++ rest)
    → load (length bytes) memory a ≡ number_of bytes
load_number memory [] rest a holds = refl
load_number memory (byte ∷ bytes) rest a holds =
    ap (λ b. b + 256 * load (length bytes) memory (a + 1)) holds.0
    ∙ ap (λ n. byte + 256 * n) (load_number memory bytes rest (a + 1) holds.1)

fetch_here : (w : World) (memory : ℕ → ℕ) (a : ℕ) (instr : Instr) (rest : List ℕ) → Decodes instr
    → a % 4 ≡ 0 → all_allowed w Executing 4 a ≡ true → Holds memory a (low_bytes 4 (word_of instr) ++ rest)
    → fetch w memory a ≡ Found instr
fetch_here w memory a instr rest decodes even usable holds =
    let word : load 4 memory a ≡ number_of (low_bytes 4 (word_of instr)) =
    load_number memory (low_bytes 4 (word_of instr)) rest a holds
    in
    let placed : (nat_eq (a % 4) 0 && all_allowed w Executing 4 a) ≡ true = rw (even, usable) refl in
    ap (λ b. fetched b memory a) placed ∙ (ap (λ n. found (instruction_of n)) word ∙ ap found decodes)

pub code_stands : (w : World) (memory : ℕ → ℕ) (base total : ℕ) → IsOpen w Executing base total
    → (code : List Instr) (rest : List ℕ) (a : ℕ) → AllDecode code → a % 4 ≡ 0 → base ≤ a → a + 4 * length code ≤ base + total
    → Holds memory a (code_bytes code ++ rest)
    → (k : ℕ) (instr : Instr) → slice_get code k ≡ Some instr → fetch w memory (a + 4 * k) ≡ Found instr
code_stands w memory base total area [] rest a decode even low high holds k instr is = cc
code_stands w memory base total area (first ∷ code) rest a (also decode more) even low high holds zero instr is =
    let usable : all_allowed w Executing 4 a ≡ true = all_open w Executing base total 4 a area low (omega arith) in
    let here : fetch w memory a ≡ Found first = fetch_here w memory a first (code_bytes code ++ rest) decode even usable holds in
    let e : a + 4 * zero ≡ a = omega arith in
    let same : first ≡ instr = cc in
    ap (fetch w memory) e ∙ (here ∙ ap Found same)
code_stands w memory base total area (first ∷ code) rest a (also decode more) even low high holds (suc k) instr is =
    let e : a + 4 * suc k ≡ a + 1 + 1 + 1 + 1 + 4 * k = omega arith in
    ap (fetch w memory) e
    ∙ code_stands w memory base total area code rest (a + 1 + 1 + 1 + 1) more (omega arith) (omega arith) (omega arith)
    holds.1.1.1.1 k instr is

-- what a memory holds

pub holds_past : (memory : ℕ → ℕ) (a : ℕ) (front rest : List ℕ) → Holds memory a (front ++ rest)
    → Holds memory (a + length front) rest
holds_past memory a [] rest holds =
    let e : a ≡ a + length {A = ℕ} [] = omega arith in
    subst (λ b. Holds memory b rest) e holds
holds_past memory a (byte ∷ front) rest holds =
    let e : a + 1 + length front ≡ a + length (byte ∷ front) = omega arith in
    subst (λ b. Holds memory b rest) e (holds_past memory (a + 1) front rest holds.1)

holds_each : (memory : ℕ → ℕ) (a : ℕ) (bytes : List ℕ)
    → ((k : ℕ) → k < length bytes → memory (a + k) ≡ slice_index bytes k) → Holds memory a bytes
holds_each memory a [] each = tt
holds_each memory a (byte ∷ rest) each =
    let e : a + 0 ≡ a = omega arith in (
      ap memory (sym e) ∙ each 0 (omega arith),
      holds_each memory (a + 1) rest (λ k within.
          let f : a + 1 + k ≡ a + suc k = omega arith in
          ap memory f ∙ each (suc k) (omega arith)),
    )

-- an image of one segment

lies_at : (segment : Segment) (k : ℕ) → k < segment.memsz → lies_in segment (segment.vaddr + k) ≡ true
lies_at segment k within = grind arith

pub one_segment_holds : (segment : Segment) → length segment.bytes ≤ segment.memsz
    → Holds (byte_at (segment ∷ [])) segment.vaddr segment.bytes
one_segment_holds segment fits =
    holds_each (byte_at (segment ∷ [])) segment.vaddr segment.bytes
    (λ k within.
    let inside : lies_in segment (segment.vaddr + k) ≡ true = lies_at segment k (omega arith) in
    let e : segment.vaddr + k - segment.vaddr ≡ k = omega arith in
    rw (inside, e) refl)

pub one_segment_open : (segment : Segment) (env : Env) (entry : ℕ) (access : Access)
    → nat_eq (segment.flags / flag_of access % 2) 1 ≡ true
    → IsOpen (world_of (record { entry = entry; segments = segment ∷ [] }) env) access segment.vaddr segment.memsz
one_segment_open segment env entry access flag =
    record {
      usable = λ a low high.
          let e : a ≡ segment.vaddr + (a - segment.vaddr) = omega arith in
          let inside : lies_in segment a ≡ true = ap (lies_in segment) e ∙ lies_at segment (a - segment.vaddr) (omega arith) in
          rw inside flag;
    }
