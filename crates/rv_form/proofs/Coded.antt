-- The machine that fetches from memory, and the one whose code is given, do the same where no byte that
-- may be executed may be written.
use Rattle.std.proofs.Common.{◌≡◌, ℕ, zero, suc, ◌+◌, ◌*◌, ◌%◌, ◌<◌, ◌≤◌, Bool, true, false, refl, sym, ap, ◌∙◌, arith}
use Rattle.std.specs.Prelude.{pos, negsuc, nat_eq, nat_le, nat_lt, ◌&&◌, not, if◌then◌else◌}
use Rattle.scheme_base.specs.Outside.{Event, ReadByte, read_event, next_fails}
use Rattle.scheme_base.specs.Runs.{Machine, after, SameRuns}
use Rattle.rv_form.specs.declared.instr.Instr.{Instr}
use Rattle.rv_form.specs.declared.instr.Instr.TheVariants.{Lb, Lh, Lw, Ld, Lbu, Lhu, Lwu, Sb, Sh, Sw, Sd, Ecall, Ebreak}
use Rattle.rv_form.specs.Image.{Access, Executing, Writing}
use Rattle.rv_form.specs.Instruction.{instruction_of}
use Rattle.rv_form.specs.Machine.{World, State, Run, Running, Ended, Trapped, Fetched, Found, NoWord, NoPlace, found, fetched, fetch, load, store, all_allowed, Ask, Answers, Reads, Writes, Sends, Leaves, Unknown, asked, asked_read, asked_write, received, reg, system, loaded, stored, stores, address, act, act_at, step, trace_of, ending_of, machine_in}
use Rattle.rv_form.proofs.Walk.{Coded, coded_step, coded_machine}

-- no byte that may be executed may be written
pub record IsApart (w : World) : Type 0 where
  pub kept : (a : ℕ) → w.allows Executing a ≡ true → w.allows Writing a ≡ false

-- the bytes that may not be written are the same
pub record SameCode (w : World) (before now : ℕ → ℕ) : Type 0 where
  pub same : (a : ℕ) → w.allows Writing a ≡ false → now a ≡ before a

same_all : {w : World} {m : ℕ → ℕ} → SameCode w m m
same_all = record { same = λ a kept. refl }

abbrev Keeps : World → (ℕ → ℕ) → Run → Type 0
Keeps w memory (Running s) = SameCode w memory s.memory
Keeps w memory (Ended status calls) = Unit {0}
Keeps w memory (Trapped kind pc calls) = Unit {0}

-- a read goes to a place that may be written

read_test : (none channel usable : Bool)
    → (if none then Answers (pos 0) else (if not channel then Answers (negsuc 8) else (if not usable then Answers (negsuc 13) else Reads))) ≡ Reads
    → usable ≡ true
read_test true channel usable h = cc
read_test false true true h = refl
read_test false true false h = cc
read_test false false usable h = cc

write_test : (none channel usable first : Bool) (byte : ℕ)
    → (if none then Answers (pos 0) else (if not channel then Answers (negsuc 8) else (if not usable then Answers (negsuc 13) else (if first then Writes byte else Sends byte)))) ≡ Reads
    → ⊥
write_test true channel usable first byte h = cc
write_test false false usable first byte h = cc
write_test false true false first byte h = cc
write_test false true true true byte h = cc
write_test false true true false byte h = cc

number_test : (w : World) (s : State) (reads writes leaves : Bool) (status : ℕ)
    → (if reads then asked_read w s else (if writes then asked_write w s else (if leaves then Leaves status else Unknown))) ≡ Reads
    → w.allows Writing (reg s 11) ≡ true
number_test w s true writes leaves status h = read_test _ _ _ h
number_test w s false true leaves status h = absurd (write_test _ _ _ _ _ h)
number_test w s false false true status h = cc
number_test w s false false false status h = cc

reads_open : (w : World) (s : State) → asked w s ≡ Reads → w.allows Writing (reg s 11) ≡ true
reads_open w s h = number_test w s _ _ _ _ h

both_true : (a b : Bool) → (a && b) ≡ true → (a ≡ true) × (b ≡ true)
both_true true true h = (refl, refl)
both_true true false h = cc
both_true false b h = cc

open_first : (w : World) (access : Access) (count a b : ℕ) → w.allows access a ≡ true
    → (a + 1 ≤ b → b < a + 1 + count → w.allows access b ≡ true)
    → (first : Bool) → nat_eq b a ≡ first → a ≤ b → b < a + suc count → w.allows access b ≡ true
open_first w access count a b here rest true e low high =
    let same : b ≡ a = grind arith in
    ap (w.allows access) same ∙ here
open_first w access count a b here rest false e low high =
    let apart : b ≡ a → ⊥ = grind arith in
    rest (omega (arith, apart)) (omega arith)

open_at : (w : World) (access : Access) (count a b : ℕ) → all_allowed w access count a ≡ true
    → a ≤ b → b < a + count → w.allows access b ≡ true
open_at w access zero a b usable low high = absurd (omega arith)
open_at w access (suc count) a b usable low high =
    let opens = both_true _ _ usable in
    open_first w access count a b opens.0 (open_at w access count (a + 1) b opens.1) (nat_eq b a) refl low high

store_other : (memory : ℕ → ℕ) (count a value b : ℕ) (inside : Bool) → (nat_le a b && nat_lt b (a + count)) ≡ inside
    → (a ≤ b → b < a + count → ⊥) → store count memory a value b ≡ memory b
store_other memory count a value b inside e apart = grind arith

-- a store to places that may be written leaves those that may not be
store_keeps : (w : World) (memory : ℕ → ℕ) (count a value : ℕ) → all_allowed w Writing count a ≡ true
    → SameCode w memory (store count memory a value)
store_keeps w memory count a value usable =
    record {
      same = λ b kept. store_other memory count a value b _ refl
          (λ low high. let t : true ≡ false = sym (open_at w Writing count a b usable low high) ∙ kept in cc);
    }

one_allowed : (w : World) (access : Access) (a : ℕ) → w.allows access a ≡ true → all_allowed w access 1 a ≡ true
one_allowed w access a usable = rw usable refl

received_keeps : (w : World) (event : Event) (a : ℕ) (memory : ℕ → ℕ) → w.allows Writing a ≡ true
    → SameCode w memory (received event a memory)
received_keeps w (ReadByte byte) a memory usable = store_keeps w memory 1 a byte (one_allowed w Writing a usable)
received_keeps w event a memory usable = same_all

system_keeps : (w : World) (ask : Ask) (s : State) → (ask ≡ Reads → w.allows Writing (reg s 11) ≡ true)
    → Keeps w s.memory (system w ask s)
system_keeps w (Answers answer) s usable = same_all
system_keeps w Reads s usable = received_keeps w (read_event (next_fails w.env s.calls) s.calls.input) (reg s 11) s.memory (usable refl)
system_keeps w (Writes byte) s usable = same_all
system_keeps w (Sends byte) s usable = same_all
system_keeps w (Leaves status) s usable = tt
system_keeps w Unknown s usable = tt

loaded_keeps : (w : World) (usable : Bool) (count : ℕ) (shape : ℕ → ℕ) (rd a : ℕ) (s : State)
    → Keeps w s.memory (loaded usable count shape rd a s)
loaded_keeps w true count shape rd a s = same_all
loaded_keeps w false count shape rd a s = tt

stored_keeps : (w : World) (usable : Bool) (count a value : ℕ) (s : State) → all_allowed w Writing count a ≡ usable
    → Keeps w s.memory (stored usable count a value s)
stored_keeps w true count a value s usable = store_keeps w s.memory count a value usable
stored_keeps w false count a value s usable = tt

stores_keep : (w : World) (count a value : ℕ) (s : State) → Keeps w s.memory (stores w count a value s)
stores_keep w count a value s = stored_keeps w (all_allowed w Writing count a) count a value s refl

act_keeps : (w : World) (instr : Instr) (s : State) → Keeps w s.memory (act w instr s)
act_keeps w (Lb rd rs1 imm) s = loaded_keeps w _ _ _ _ _ s
act_keeps w (Lh rd rs1 imm) s = loaded_keeps w _ _ _ _ _ s
act_keeps w (Lw rd rs1 imm) s = loaded_keeps w _ _ _ _ _ s
act_keeps w (Ld rd rs1 imm) s = loaded_keeps w _ _ _ _ _ s
act_keeps w (Lbu rd rs1 imm) s = loaded_keeps w _ _ _ _ _ s
act_keeps w (Lhu rd rs1 imm) s = loaded_keeps w _ _ _ _ _ s
act_keeps w (Lwu rd rs1 imm) s = loaded_keeps w _ _ _ _ _ s
act_keeps w (Sb rs1 rs2 imm) s = stores_keep w 1 (address s rs1 imm) (reg s rs2) s
act_keeps w (Sh rs1 rs2 imm) s = stores_keep w 2 (address s rs1 imm) (reg s rs2) s
act_keeps w (Sw rs1 rs2 imm) s = stores_keep w 4 (address s rs1 imm) (reg s rs2) s
act_keeps w (Sd rs1 rs2 imm) s = stores_keep w 8 (address s rs1 imm) (reg s rs2) s
act_keeps w Ecall s = system_keeps w (asked w s) s (reads_open w s)
act_keeps w Ebreak s = tt
act_keeps w instr s = same_all

act_at_keeps : (w : World) (at : Fetched) (s : State) → Keeps w s.memory (act_at w at s)
act_at_keeps w (Found instr) s = act_keeps w instr s
act_at_keeps w NoWord s = tt
act_at_keeps w NoPlace s = tt

keeps_on : (w : World) (first memory : ℕ → ℕ) → SameCode w first memory → (run : Run) → Keeps w memory run → Keeps w first run
keeps_on w first memory known (Running s) next = record { same = λ a kept. next.same a kept ∙ known.same a kept }
keeps_on w first memory known (Ended status calls) next = tt
keeps_on w first memory known (Trapped kind pc calls) next = tt

-- what is fetched stays the same

load_same : (w : World) → IsApart w → (before now : ℕ → ℕ) → SameCode w before now
    → (count a : ℕ) → all_allowed w Executing count a ≡ true → load count now a ≡ load count before a
load_same w apart before now known zero a usable = refl
load_same w apart before now known (suc count) a usable =
    let opens = both_true _ _ usable in
    let one : now a ≡ before a = known.same a (apart.kept a opens.0) in
    let rest : load count now (a + 1) ≡ load count before (a + 1) = load_same w apart before now known count (a + 1) opens.1 in
    ap (λ b. b + 256 * load count now (a + 1)) one ∙ ap (λ n. before a + 256 * n) rest

fetched_same : (before now : ℕ → ℕ) (pc : ℕ) (usable : Bool)
    → (usable ≡ true → load 4 now pc ≡ load 4 before pc) → fetched usable now pc ≡ fetched usable before pc
fetched_same before now pc true loads = ap (λ n. found (instruction_of n)) (loads refl)
fetched_same before now pc false loads = refl

fetch_same : (w : World) → IsApart w → (before now : ℕ → ℕ) → SameCode w before now
    → (pc : ℕ) → fetch w now pc ≡ fetch w before pc
fetch_same w apart before now known pc =
    fetched_same before now pc (nat_eq (pc % 4) 0 && all_allowed w Executing 4 pc)
    (λ usable. load_same w apart before now known 4 pc (both_true _ _ usable).1)

-- the two machines

-- the code that a memory holds
abbrev pub coded_in : World → (ℕ → ℕ) → Coded
coded_in w memory = record { world = w; code = fetch w memory }

step_same : (w : World) → IsApart w → (memory : ℕ → ℕ) (run : Run) → Keeps w memory run
    → step w run ≡ coded_step (coded_in w memory) run
step_same w apart memory (Running s) known = ap (λ f. act_at w f s) (fetch_same w apart memory s.memory known s.pc)
step_same w apart memory (Ended status calls) known = refl
step_same w apart memory (Trapped kind pc calls) known = refl

step_keeps : (w : World) (memory : ℕ → ℕ) (run : Run) → Keeps w memory run → Keeps w memory (step w run)
step_keeps w memory (Running s) known =
    keeps_on w memory s.memory known (step w (Running s)) (act_at_keeps w (fetch w s.memory s.pc) s)
step_keeps w memory (Ended status calls) known = tt
step_keeps w memory (Trapped kind pc calls) known = tt

after_same : (w : World) → IsApart w → (memory : ℕ → ℕ) (n : ℕ) (run : Run) → Keeps w memory run
    → after (coded_machine (coded_in w memory)) n run ≡ after (machine_in w) n run
after_same w apart memory zero run known = refl
after_same w apart memory (suc n) run known =
    ap (after (coded_machine (coded_in w memory)) n) (sym (step_same w apart memory run known))
    ∙ after_same w apart memory n (step w run) (step_keeps w memory run known)

-- what is shown of the machine whose code is what a state's memory holds, holds of the machine itself
pub runs_from_memory : {S : Type 0} (one : Machine S) (x : S) (w : World) (s : State) → IsApart w
    → SameRuns one (coded_machine (coded_in w s.memory)) x (Running s)
    → SameRuns one (machine_in w) x (Running s)
runs_from_memory one x w s apart runs =
    let same : (n : ℕ) → after (coded_machine (coded_in w s.memory)) n (Running s) ≡ after (machine_in w) n (Running s) =
    λ n. after_same w apart s.memory n (Running s) same_all
    in
    record {
      shows = λ n. let found = runs.shows n in (found.0, ap trace_of (sym (same found.0)) ∙ found.1);
      shown = λ m. let found = runs.shown m in (found.0, found.1 ∙ ap trace_of (same m));
      ends =
          λ n e stopped.
          let found = runs.ends n e stopped in (
            found.0,
            record {
              stopped = ap ending_of (sym (same found.0)) ∙ found.1.stopped;
              shown = ap trace_of (sym (same found.0)) ∙ found.1.shown;
            },
          );
      ended =
          λ m e stopped.
          let found = runs.ended m e (ap ending_of (same m) ∙ stopped) in (
            found.0,
            record { stopped = found.1.stopped; shown = found.1.shown ∙ ap trace_of (same m) },
          );
    }
