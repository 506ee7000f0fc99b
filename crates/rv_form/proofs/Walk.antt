-- Walks through code: from a state, over some instructions, to a state.
--
-- Here the code is given, as what is fetched at each place. `proofs/Coded` says that the machine, which
-- fetches from memory, does the same, and `proofs/CodeBytes` what it fetches of code that memory holds. A walk
-- is read from top to bottom, a word for each instruction, and ends in `here`.
use Rattle.std.proofs.Common.{◌≡◌, ℕ, suc, ◌+◌, ◌-◌, ◌^◌, true, false, refl, ap, ◌∙◌}
use Rattle.std.specs.Prelude.{ℤ, nat_eq}
use Rattle.scheme_base.specs.Runs.{Machine, after}
use Rattle.scheme_base.specs.Outside.{next_fails, after_write}
use Rattle.scheme_base.proofs.Simulations.{after-add}
use Rattle.rv_form.specs.declared.instr.Instr.{Instr}
use Rattle.rv_form.specs.declared.instr.Instr.TheVariants.{Beq, Bne, Ecall}
use Rattle.rv_form.specs.Numbers.{add, word}
use Rattle.rv_form.specs.Image.{Reading}
use Rattle.rv_form.specs.Machine.{World, State, Run, Running, Ended, Trapped, Fetched, Found, Ask, Writes, Sends, reg, with_reg, asked, system, act, act_at, trace_of, ending_of}

-- what a machine runs: its code by places, and its world
pub record Coded : Type 0 where
  pub world : World
  pub code : ℕ → Fetched

abbrev pub coded_step : Coded → Run → Run
coded_step c (Running s) = act_at c.world (c.code s.pc) s
coded_step c (Ended status calls) = Ended status calls
coded_step c (Trapped kind pc calls) = Trapped kind pc calls

abbrev pub coded_machine : Coded → Machine Run
coded_machine c = record { step = coded_step c; trace = trace_of; ending = ending_of }

-- in just so many steps
pub record Reach (c : Coded) (n : ℕ) (from to : Run) : Type 0 where
  pub is : after (coded_machine c) n from ≡ to

-- in some steps, maybe none
pub record Comes (c : Coded) (from to : Run) : Type 0 where
  pub steps : ℕ
  pub walk : Reach c steps from to

-- in one step or more
pub record Leads (c : Coded) (from to : Run) : Type 0 where
  pub more : ℕ
  pub walk : Reach c (suc more) from to

infixr 1 ◌$◌
pub ◌$◌ : {A B : Type 0} → (A → B) → A → B
f $ x = f x

pub here : {c : Coded} {run : Run} → Reach c 0 run run
here = record { is = refl }

-- any instruction that needs no fact
pub via : {c : Coded} {n : ℕ} {s : State} {instr : Instr} {to : Run}
    → c.code s.pc ≡ Found instr → Reach c n (act c.world instr s) to → Reach c (suc n) (Running s) to
via {c = c} {n = n} {s = s} at rest =
    record { is = ap (λ f. after (coded_machine c) n (act_at c.world f s)) at ∙ rest.is }

-- a known walk
pub thru : {c : Coded} {k n : ℕ} {from mid to : Run}
    → Reach c k from mid → Reach c n mid to → Reach c (k + n) from to
thru {c = c} {k = k} {n = n} {from = from} first rest =
    record { is = after-add (coded_machine c) k n from ∙ (ap (after (coded_machine c) n) first.is ∙ rest.is) }

-- branches

abbrev on_at : State → ℕ → Run
on_at s pc = Running (record s { pc = pc })

branch_to : {c : Coded} {n : ℕ} {s : State} {instr : Instr} {to : Run} (pc : ℕ)
    → act c.world instr s ≡ on_at s pc → c.code s.pc ≡ Found instr
    → Reach c n (on_at s pc) to → Reach c (suc n) (Running s) to
branch_to {c = c} {n = n} pc e at rest = via at (record { is = ap (after (coded_machine c) n) e ∙ rest.is })

pub beq_no : {c : Coded} {n : ℕ} {s : State} {rs1 rs2 : ℕ} {imm : ℤ} {to : Run}
    → c.code s.pc ≡ Found (Beq rs1 rs2 imm) → nat_eq (reg s rs1) (reg s rs2) ≡ false
    → Reach c n (on_at s (s.pc + 4)) to → Reach c (suc n) (Running s) to
beq_no {s = s} at test rest = branch_to (s.pc + 4) (rw test refl) at rest

pub beq_yes : {c : Coded} {n : ℕ} {s : State} {rs1 rs2 : ℕ} {imm : ℤ} {to : Run} {pc : ℕ}
    → c.code s.pc ≡ Found (Beq rs1 rs2 imm) → nat_eq (reg s rs1) (reg s rs2) ≡ true
    → add s.pc (word imm) ≡ pc
    → Reach c n (on_at s pc) to → Reach c (suc n) (Running s) to
beq_yes {pc = pc} at test target rest = branch_to pc (rw (test, target) refl) at rest

pub bne_no : {c : Coded} {n : ℕ} {s : State} {rs1 rs2 : ℕ} {imm : ℤ} {to : Run}
    → c.code s.pc ≡ Found (Bne rs1 rs2 imm) → nat_eq (reg s rs1) (reg s rs2) ≡ true
    → Reach c n (on_at s (s.pc + 4)) to → Reach c (suc n) (Running s) to
bne_no {s = s} at test rest = branch_to (s.pc + 4) (rw test refl) at rest

pub bne_yes : {c : Coded} {n : ℕ} {s : State} {rs1 rs2 : ℕ} {imm : ℤ} {to : Run} {pc : ℕ}
    → c.code s.pc ≡ Found (Bne rs1 rs2 imm) → nat_eq (reg s rs1) (reg s rs2) ≡ false
    → add s.pc (word imm) ≡ pc
    → Reach c n (on_at s pc) to → Reach c (suc n) (Running s) to
bne_yes {pc = pc} at test target rest = branch_to pc (rw (test, target) refl) at rest

-- system calls: the state after one through which a byte passes

abbrev pub answers_in : State → ℕ → State
answers_in s value = record s { pc = s.pc + 4; regs = with_reg s.regs 10 value }

call_to : {c : Coded} {n : ℕ} {s : State} {to : Run} (ask : Ask) (next : Run)
    → c.code s.pc ≡ Found Ecall → asked c.world s ≡ ask → system c.world ask s ≡ next
    → Reach c n next to → Reach c (suc n) (Running s) to
call_to {c = c} {n = n} {s = s} ask next at asks e rest =
    via at (record { is = ap (λ a. after (coded_machine c) n (system c.world a s)) asks ∙ (ap (after (coded_machine c) n) e ∙ rest.is) })

-- a system call that writes one byte to a channel
pub record WritesOne (w : World) (s : State) (channel byte : ℕ) : Type 0 where
  pub from : ℕ
  pub number : reg s 17 ≡ 64
  pub count : reg s 12 ≡ 1
  pub target : reg s 10 ≡ channel
  pub place : reg s 11 ≡ from
  pub readable : w.allows Reading from ≡ true
  pub content : s.memory from ≡ byte

asks_write : (w : World) (s : State) (byte : ℕ) → WritesOne w s 1 byte → asked w s ≡ Writes byte
asks_write w s byte one =
    rw (one.number, one.count, one.target, one.place, one.readable, one.content) refl

asks_send : (w : World) (s : State) (byte : ℕ) → WritesOne w s 2 byte → asked w s ≡ Sends byte
asks_send w s byte one =
    rw (one.number, one.count, one.target, one.place, one.readable, one.content) refl

pub write_ok : {c : Coded} {n : ℕ} {s : State} {to : Run} {byte : ℕ}
    → c.code s.pc ≡ Found Ecall → WritesOne c.world s 1 byte
    → next_fails c.world.env s.calls ≡ false
    → Reach c n (Running (record (answers_in s 1) { calls = after_write c.world.env byte s.calls })) to
    → Reach c (suc n) (Running s) to
write_ok {s = s} {byte = byte} at asks ok rest = call_to (Writes byte) _ at (asks_write _ s byte asks) (rw ok refl) rest

pub write_failed : {c : Coded} {n : ℕ} {s : State} {to : Run} {byte : ℕ}
    → c.code s.pc ≡ Found Ecall → WritesOne c.world s 1 byte
    → next_fails c.world.env s.calls ≡ true
    → Reach c n (Running (record (answers_in s (2 ^ 64 - 5)) { calls = after_write c.world.env byte s.calls })) to
    → Reach c (suc n) (Running s) to
write_failed {s = s} {byte = byte} at asks failed rest = call_to (Writes byte) _ at (asks_write _ s byte asks) (rw failed refl) rest

-- a byte for channel 2, whether the call fails or not
pub sends : {c : Coded} {n : ℕ} {s : State} {to : Run} {byte : ℕ}
    → c.code s.pc ≡ Found Ecall → WritesOne c.world s 2 byte
    → Reach c n (system c.world (Sends byte) s) to → Reach c (suc n) (Running s) to
sends {s = s} {byte = byte} at asks rest = call_to (Sends byte) _ at (asks_send _ s byte asks) refl rest
