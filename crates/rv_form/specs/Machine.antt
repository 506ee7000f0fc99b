-- The RV64IM machine: its states, what each instruction does, its system calls and its traps.
--
-- Registers hold numbers below 2^64, and register 0 is read as 0. Memory has a byte at each address;
-- which addresses may be used, and how, is fixed by the image, and other bytes are never seen, since
-- their use is a trap. System calls have their number in register 17: 63 reads, 64 writes, 93 exits. The
-- channel is in register 10, the buffer's address in 11, the length in 12, and the answer goes to 10.
use Rattle.std.specs.Prelude.{ℕ, zero, suc, ◌+◌, ◌-◌, ◌*◌, ◌/◌, ◌%◌, ◌^◌, ℤ, pos, negsuc, ◌*ℤ◌, List, reverse, Option, Some, None, Bool, true, false, if◌then◌else◌, not, nat_eq, nat_lt, nat_le, ◌&&◌, ◌||◌, bit_and, bit_or, bit_xor}
use Rattle.scheme_base.specs.declared.env.Env.{Env}
use Rattle.scheme_base.specs.Outside.{Event, ReadByte, ReadEnd, ReadFailed, Wrote, WriteFailed, Calls, no_calls, next_fails, read_event, after_read, write_event, after_write, next_error_fails, after_send, Ending, Exits, Traps}
use Rattle.scheme_base.specs.Runs.{Machine}
use Rattle.rv_form.specs.declared.instr.Instr.{Instr}
use Rattle.rv_form.specs.declared.instr.Instr.TheVariants.{Lui, Auipc, Jal, Jalr, Beq, Bne, Blt, Bge, Bltu, Bgeu, Lb, Lh, Lw, Ld, Lbu, Lhu, Lwu, Sb, Sh, Sw, Sd, Addi, Slti, Sltiu, Xori, Ori, Andi, Slli, Srli, Srai, Add, Sub, Sll, Slt, Sltu, Xor, Srl, Sra, Or, And, Mul, Mulh, Mulhsu, Mulhu, Div, Divu, Rem, Remu, Addiw, Slliw, Srliw, Sraiw, Addw, Subw, Sllw, Srlw, Sraw, Mulw, Divw, Divuw, Remw, Remuw, Fence, Ecall, Ebreak}
use Rattle.rv_form.specs.declared.image.Image.{Image}
use Rattle.rv_form.specs.Numbers.{word, extended, add}
use Rattle.rv_form.specs.Arithmetic.{integer, low_half, narrow, sub, mul, high_product, less, flag, shift_left, shift_right, shift_signed, divide, remainder, divide_unsigned, remainder_unsigned, shift_left_narrow, shift_right_narrow, shift_signed_narrow}
use Rattle.rv_form.specs.Instruction.{instruction_of}
use Rattle.rv_form.specs.Image.{Access, Executing, Writing, Reading, byte_at, allows}

pub record State : Type 0 where
  pub pc : ℕ
  pub regs : ℕ → ℕ
  pub memory : ℕ → ℕ
  pub calls : Calls

pub data Run : Type 0 where
  Running : (state : State) → Run
  -- it has exited with this status
  Ended : (status : ℕ) (calls : Calls) → Run
  -- It has no step: 1 no such word, 2 no such place of an instruction, 3 a load from a place that may not be
  -- read, 4 a store to one that may not be written, 5 another system call number, 6 a breakpoint.
  Trapped : (kind pc : ℕ) (calls : Calls) → Run

-- what never changes in a run
pub record World : Type 0 where
  pub allows : Access → ℕ → Bool
  pub env : Env

-- memory

abbrev pub load : (count : ℕ) → (ℕ → ℕ) → ℕ → ℕ
load zero memory a = 0
load (suc count) memory a = memory a + 256 * load count memory (a + 1)

abbrev pub store : (count : ℕ) → (ℕ → ℕ) → (a value : ℕ) → ℕ → ℕ
store count memory a value b =
    if nat_le a b && nat_lt b (a + count) then value / 256 ^ (b - a) % 256 else memory b

abbrev pub all_allowed : World → Access → (count a : ℕ) → Bool
all_allowed w access zero a = true
all_allowed w access (suc count) a = w.allows access a && all_allowed w access count (a + 1)

-- instructions in memory

pub data Fetched : Type 0 where
  Found : (instr : Instr) → Fetched
  NoWord : Fetched
  NoPlace : Fetched

abbrev pub found : Option Instr → Fetched
found (Some instr) = Found instr
found None = NoWord

abbrev pub fetched : (in_place : Bool) → (ℕ → ℕ) → ℕ → Fetched
fetched false memory pc = NoPlace
fetched true memory pc = found (instruction_of (load 4 memory pc))

abbrev pub fetch : World → (ℕ → ℕ) → ℕ → Fetched
fetch w memory pc = fetched (nat_eq (pc % 4) 0 && all_allowed w Executing 4 pc) memory pc

-- registers

abbrev pub reg : State → ℕ → ℕ
reg s r = if nat_eq r 0 then 0 else s.regs r

abbrev pub with_reg : (ℕ → ℕ) → (r value : ℕ) → ℕ → ℕ
with_reg regs r value q = if nat_eq q r then value else regs q

-- on to the next instruction, with a value in a register; a place that was fetched lies below 2^47
abbrev pub put : (r value : ℕ) → State → Run
put r value s = Running (record s { pc = s.pc + 4; regs = with_reg s.regs r value })

-- a branch or a jump is carried out whatever its target is; the fetch there may then be a trap
abbrev pub branch : (taken : Bool) → ℤ → State → Run
branch taken imm s = Running (record s { pc = if taken then add s.pc (word imm) else s.pc + 4 })

abbrev pub jump : (target rd : ℕ) → State → Run
jump target rd s = Running (record s { pc = target; regs = with_reg s.regs rd (s.pc + 4) })

-- Loads and stores of so many bytes at any place, the lowest byte first. Each byte must be one that may be
-- used so. `shape` makes a register's value of the number that is loaded.

abbrev pub loaded : (usable : Bool) → (count : ℕ) (shape : ℕ → ℕ) (rd a : ℕ) → State → Run
loaded true count shape rd a s = put rd (shape (load count s.memory a)) s
loaded false count shape rd a s = Trapped 3 s.pc s.calls

abbrev pub loads : World → (count : ℕ) (shape : ℕ → ℕ) (rd a : ℕ) → State → Run
loads w count shape rd a s = loaded (all_allowed w Reading count a) count shape rd a s

abbrev pub stored : (usable : Bool) → (count a value : ℕ) → State → Run
stored true count a value s = Running (record s { pc = s.pc + 4; memory = store count s.memory a value })
stored false count a value s = Trapped 4 s.pc s.calls

abbrev pub stores : World → (count a value : ℕ) → State → Run
stores w count a value s = stored (all_allowed w Writing count a) count a value s

-- system calls

-- what a system call comes to; the first that fits of a length of 0, another channel (-9), a buffer that
-- may not be used so (-14), and one byte that passes
pub data Ask : Type 0 where
  Answers : (answer : ℤ) → Ask
  Reads : Ask
  Writes : (byte : ℕ) → Ask
  Sends : (byte : ℕ) → Ask
  Leaves : (status : ℕ) → Ask
  Unknown : Ask

abbrev pub asked_read : World → State → Ask
asked_read w s =
    if nat_eq (reg s 12) 0 then Answers (pos 0)
    else (if not (nat_eq (reg s 10) 0) then Answers (negsuc 8)
    else (if not (w.allows Writing (reg s 11)) then Answers (negsuc 13)
    else Reads))

abbrev pub asked_write : World → State → Ask
asked_write w s =
    if nat_eq (reg s 12) 0 then Answers (pos 0)
    else (if not (nat_eq (reg s 10) 1 || nat_eq (reg s 10) 2) then Answers (negsuc 8)
    else (if not (w.allows Reading (reg s 11)) then Answers (negsuc 13)
    else (if nat_eq (reg s 10) 1 then Writes (s.memory (reg s 11))
    else Sends (s.memory (reg s 11)))))

abbrev pub asked : World → State → Ask
asked w s =
    if nat_eq (reg s 17) 63 then asked_read w s
    else (if nat_eq (reg s 17) 64 then asked_write w s
    else (if nat_eq (reg s 17) 93 then Leaves (reg s 10 % 256)
    else Unknown))

-- the answer of a call through which a byte may pass: 1, and 0 at the end of the input, -5 at a failure
abbrev pub answer_of : Event → ℤ
answer_of (ReadByte byte) = pos 1
answer_of ReadEnd = pos 0
answer_of ReadFailed = negsuc 4
answer_of (Wrote byte) = pos 1
answer_of (WriteFailed byte) = negsuc 4

abbrev pub received : Event → (a : ℕ) → (ℕ → ℕ) → ℕ → ℕ
received (ReadByte byte) a memory = store 1 memory a byte
received _ a memory = memory

abbrev pub answered : Event → State → Run
answered event s = put 10 (word (answer_of event)) s

abbrev pub system : World → Ask → State → Run
system w (Answers answer) s = put 10 (word answer) s
system w Reads s =
    let event = read_event (next_fails w.env s.calls) s.calls.input in
    answered event (record s { memory = received event (reg s 11) s.memory; calls = after_read w.env s.calls })
system w (Writes byte) s =
    answered (write_event (next_fails w.env s.calls) byte) (record s { calls = after_write w.env byte s.calls })
system w (Sends byte) s =
    answered (write_event (next_error_fails w.env s.calls) byte) (record s { calls = after_send byte s.calls })
system w (Leaves status) s = Ended status s.calls
system w Unknown s = Trapped 5 s.pc s.calls

-- the address that a register and an immediate give, and the even one at or below it
abbrev pub address : State → (rs1 : ℕ) → ℤ → ℕ
address s rs1 imm = add (reg s rs1) (word imm)

abbrev pub even : ℕ → ℕ
even a = a - a % 2

abbrev pub as_it_is : ℕ → ℕ
as_it_is n = n

-- what each instruction does
abbrev pub act : World → Instr → State → Run
act w (Lui rd imm) s = put rd (word (pos 4096 *ℤ imm)) s
act w (Auipc rd imm) s = put rd (add s.pc (word (pos 4096 *ℤ imm))) s
act w (Jal rd imm) s = jump (add s.pc (word imm)) rd s
act w (Jalr rd rs1 imm) s = jump (even (address s rs1 imm)) rd s
act w (Beq rs1 rs2 imm) s = branch (nat_eq (reg s rs1) (reg s rs2)) imm s
act w (Bne rs1 rs2 imm) s = branch (not (nat_eq (reg s rs1) (reg s rs2))) imm s
act w (Blt rs1 rs2 imm) s = branch (less (reg s rs1) (reg s rs2)) imm s
act w (Bge rs1 rs2 imm) s = branch (not (less (reg s rs1) (reg s rs2))) imm s
act w (Bltu rs1 rs2 imm) s = branch (nat_lt (reg s rs1) (reg s rs2)) imm s
act w (Bgeu rs1 rs2 imm) s = branch (not (nat_lt (reg s rs1) (reg s rs2))) imm s
act w (Lb rd rs1 imm) s = loads w 1 (extended 0x80) rd (address s rs1 imm) s
act w (Lh rd rs1 imm) s = loads w 2 (extended 0x8000) rd (address s rs1 imm) s
act w (Lw rd rs1 imm) s = loads w 4 (extended 0x8000_0000) rd (address s rs1 imm) s
act w (Ld rd rs1 imm) s = loads w 8 as_it_is rd (address s rs1 imm) s
act w (Lbu rd rs1 imm) s = loads w 1 as_it_is rd (address s rs1 imm) s
act w (Lhu rd rs1 imm) s = loads w 2 as_it_is rd (address s rs1 imm) s
act w (Lwu rd rs1 imm) s = loads w 4 as_it_is rd (address s rs1 imm) s
act w (Sb rs1 rs2 imm) s = stores w 1 (address s rs1 imm) (reg s rs2) s
act w (Sh rs1 rs2 imm) s = stores w 2 (address s rs1 imm) (reg s rs2) s
act w (Sw rs1 rs2 imm) s = stores w 4 (address s rs1 imm) (reg s rs2) s
act w (Sd rs1 rs2 imm) s = stores w 8 (address s rs1 imm) (reg s rs2) s
act w (Addi rd rs1 imm) s = put rd (add (reg s rs1) (word imm)) s
act w (Slti rd rs1 imm) s = put rd (flag (less (reg s rs1) (word imm))) s
act w (Sltiu rd rs1 imm) s = put rd (flag (nat_lt (reg s rs1) (word imm))) s
act w (Xori rd rs1 imm) s = put rd (bit_xor (reg s rs1) (word imm)) s
act w (Ori rd rs1 imm) s = put rd (bit_or (reg s rs1) (word imm)) s
act w (Andi rd rs1 imm) s = put rd (bit_and (reg s rs1) (word imm)) s
act w (Slli rd rs1 imm) s = put rd (shift_left (reg s rs1) (word imm)) s
act w (Srli rd rs1 imm) s = put rd (shift_right (reg s rs1) (word imm)) s
act w (Srai rd rs1 imm) s = put rd (shift_signed (reg s rs1) (word imm)) s
act w (Add rd rs1 rs2) s = put rd (add (reg s rs1) (reg s rs2)) s
act w (Sub rd rs1 rs2) s = put rd (sub (reg s rs1) (reg s rs2)) s
act w (Sll rd rs1 rs2) s = put rd (shift_left (reg s rs1) (reg s rs2)) s
act w (Slt rd rs1 rs2) s = put rd (flag (less (reg s rs1) (reg s rs2))) s
act w (Sltu rd rs1 rs2) s = put rd (flag (nat_lt (reg s rs1) (reg s rs2))) s
act w (Xor rd rs1 rs2) s = put rd (bit_xor (reg s rs1) (reg s rs2)) s
act w (Srl rd rs1 rs2) s = put rd (shift_right (reg s rs1) (reg s rs2)) s
act w (Sra rd rs1 rs2) s = put rd (shift_signed (reg s rs1) (reg s rs2)) s
act w (Or rd rs1 rs2) s = put rd (bit_or (reg s rs1) (reg s rs2)) s
act w (And rd rs1 rs2) s = put rd (bit_and (reg s rs1) (reg s rs2)) s
act w (Mul rd rs1 rs2) s = put rd (mul (reg s rs1) (reg s rs2)) s
act w (Mulh rd rs1 rs2) s = put rd (high_product (integer (reg s rs1)) (integer (reg s rs2))) s
act w (Mulhsu rd rs1 rs2) s = put rd (high_product (integer (reg s rs1)) (pos (reg s rs2))) s
act w (Mulhu rd rs1 rs2) s = put rd (high_product (pos (reg s rs1)) (pos (reg s rs2))) s
act w (Div rd rs1 rs2) s = put rd (divide (reg s rs1) (reg s rs2)) s
act w (Divu rd rs1 rs2) s = put rd (divide_unsigned (reg s rs1) (reg s rs2)) s
act w (Rem rd rs1 rs2) s = put rd (remainder (reg s rs1) (reg s rs2)) s
act w (Remu rd rs1 rs2) s = put rd (remainder_unsigned (reg s rs1) (reg s rs2)) s
act w (Addiw rd rs1 imm) s = put rd (narrow (add (reg s rs1) (word imm))) s
act w (Slliw rd rs1 imm) s = put rd (shift_left_narrow (reg s rs1) (word imm)) s
act w (Srliw rd rs1 imm) s = put rd (shift_right_narrow (reg s rs1) (word imm)) s
act w (Sraiw rd rs1 imm) s = put rd (shift_signed_narrow (reg s rs1) (word imm)) s
act w (Addw rd rs1 rs2) s = put rd (narrow (add (reg s rs1) (reg s rs2))) s
act w (Subw rd rs1 rs2) s = put rd (narrow (sub (reg s rs1) (reg s rs2))) s
act w (Sllw rd rs1 rs2) s = put rd (shift_left_narrow (reg s rs1) (reg s rs2)) s
act w (Srlw rd rs1 rs2) s = put rd (shift_right_narrow (reg s rs1) (reg s rs2)) s
act w (Sraw rd rs1 rs2) s = put rd (shift_signed_narrow (reg s rs1) (reg s rs2)) s
act w (Mulw rd rs1 rs2) s = put rd (narrow (mul (reg s rs1) (reg s rs2))) s
act w (Divw rd rs1 rs2) s = put rd (narrow (divide (narrow (reg s rs1)) (narrow (reg s rs2)))) s
act w (Divuw rd rs1 rs2) s = put rd (narrow (divide_unsigned (low_half (reg s rs1)) (low_half (reg s rs2)))) s
act w (Remw rd rs1 rs2) s = put rd (narrow (remainder (narrow (reg s rs1)) (narrow (reg s rs2)))) s
act w (Remuw rd rs1 rs2) s = put rd (narrow (remainder_unsigned (low_half (reg s rs1)) (low_half (reg s rs2)))) s
act w (Fence rd rs1 imm) s = Running (record s { pc = s.pc + 4 })
act w Ecall s = system w (asked w s) s
act w Ebreak s = Trapped 6 s.pc s.calls

abbrev pub act_at : World → Fetched → State → Run
act_at w (Found instr) s = act w instr s
act_at w NoWord s = Trapped 1 s.pc s.calls
act_at w NoPlace s = Trapped 2 s.pc s.calls

-- one step; a run that has stopped stays as it is
abbrev pub step : World → Run → Run
step w (Running s) = act_at w (fetch w s.memory s.pc) s
step w (Ended status calls) = Ended status calls
step w (Trapped kind pc calls) = Trapped kind pc calls

abbrev pub calls_of : Run → Calls
calls_of (Running s) = s.calls
calls_of (Ended status calls) = calls
calls_of (Trapped kind pc calls) = calls

abbrev pub trace_of : Run → List Event
trace_of run = (calls_of run).trace

abbrev pub ending_of : Run → Option Ending
ending_of (Running s) = None
ending_of (Ended status calls) = Some (Exits status (reverse calls.sent))
ending_of (Trapped kind pc calls) = Some (Traps kind pc)

abbrev pub machine_in : World → Machine Run
machine_in w = record { step = step w; trace = trace_of; ending = ending_of }

-- the machine with an image under an environment, and where it starts

abbrev pub world_of : Image → Env → World
world_of image env = record { allows = allows image.segments; env = env }

abbrev pub machine : Image → Env → Machine Run
machine image env = machine_in (world_of image env)

abbrev pub start : Image → Env → Run
start image env =
    Running (record { pc = image.entry; regs = λ r. 0; memory = byte_at image.segments; calls = no_calls env })
