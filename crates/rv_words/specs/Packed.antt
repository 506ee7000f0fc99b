-- Words of code, decoded: the instruction that an operation and its operands are.
use Rattle.std.specs.Prelude.{ℕ, ℤ, ◌<◌, ◌≤◌, Option, Some, None, if◌then◌else◌, nat_eq}
use Rattle.rv_form.specs.Machine.{Fetched, Found, NoWord, NoPlace}
use Rattle.rv_form.specs.declared.instr.Instr.TheVariants as rv
use Rattle.rv_words.specs.declared.decoded.Op.{Op}
use Rattle.rv_words.specs.declared.decoded.Op.TheVariants as op
use Rattle.rv_words.specs.declared.decoded.Decoded.{Decoded}

-- a slot from which a register may be read, and the register: slot 32 is that of register 0
abbrev pub IsSource : ℕ → Type 0
IsSource slot = (0 < slot) × (slot ≤ 32)

abbrev pub number_of : (slot : ℕ) → ℕ
number_of slot = if nat_eq slot 32 then 0 else slot

-- what an operation and its operands are
abbrev pub fetched_by : Op → (rd rs1 rs2 : ℕ) → ℤ → Fetched
fetched_by op.Lui rd rs1 rs2 imm = Found (rv.Lui rd imm)
fetched_by op.Auipc rd rs1 rs2 imm = Found (rv.Auipc rd imm)
fetched_by op.Jal rd rs1 rs2 imm = Found (rv.Jal rd imm)
fetched_by op.Jalr rd rs1 rs2 imm = Found (rv.Jalr rd rs1 imm)
fetched_by op.Beq rd rs1 rs2 imm = Found (rv.Beq rs1 rs2 imm)
fetched_by op.Bne rd rs1 rs2 imm = Found (rv.Bne rs1 rs2 imm)
fetched_by op.Blt rd rs1 rs2 imm = Found (rv.Blt rs1 rs2 imm)
fetched_by op.Bge rd rs1 rs2 imm = Found (rv.Bge rs1 rs2 imm)
fetched_by op.Bltu rd rs1 rs2 imm = Found (rv.Bltu rs1 rs2 imm)
fetched_by op.Bgeu rd rs1 rs2 imm = Found (rv.Bgeu rs1 rs2 imm)
fetched_by op.Lb rd rs1 rs2 imm = Found (rv.Lb rd rs1 imm)
fetched_by op.Lh rd rs1 rs2 imm = Found (rv.Lh rd rs1 imm)
fetched_by op.Lw rd rs1 rs2 imm = Found (rv.Lw rd rs1 imm)
fetched_by op.Ld rd rs1 rs2 imm = Found (rv.Ld rd rs1 imm)
fetched_by op.Lbu rd rs1 rs2 imm = Found (rv.Lbu rd rs1 imm)
fetched_by op.Lhu rd rs1 rs2 imm = Found (rv.Lhu rd rs1 imm)
fetched_by op.Lwu rd rs1 rs2 imm = Found (rv.Lwu rd rs1 imm)
fetched_by op.Sb rd rs1 rs2 imm = Found (rv.Sb rs1 rs2 imm)
fetched_by op.Sh rd rs1 rs2 imm = Found (rv.Sh rs1 rs2 imm)
fetched_by op.Sw rd rs1 rs2 imm = Found (rv.Sw rs1 rs2 imm)
fetched_by op.Sd rd rs1 rs2 imm = Found (rv.Sd rs1 rs2 imm)
fetched_by op.Addi rd rs1 rs2 imm = Found (rv.Addi rd rs1 imm)
fetched_by op.Slti rd rs1 rs2 imm = Found (rv.Slti rd rs1 imm)
fetched_by op.Sltiu rd rs1 rs2 imm = Found (rv.Sltiu rd rs1 imm)
fetched_by op.Xori rd rs1 rs2 imm = Found (rv.Xori rd rs1 imm)
fetched_by op.Ori rd rs1 rs2 imm = Found (rv.Ori rd rs1 imm)
fetched_by op.Andi rd rs1 rs2 imm = Found (rv.Andi rd rs1 imm)
fetched_by op.Slli rd rs1 rs2 imm = Found (rv.Slli rd rs1 imm)
fetched_by op.Srli rd rs1 rs2 imm = Found (rv.Srli rd rs1 imm)
fetched_by op.Srai rd rs1 rs2 imm = Found (rv.Srai rd rs1 imm)
fetched_by op.Add rd rs1 rs2 imm = Found (rv.Add rd rs1 rs2)
fetched_by op.Sub rd rs1 rs2 imm = Found (rv.Sub rd rs1 rs2)
fetched_by op.Sll rd rs1 rs2 imm = Found (rv.Sll rd rs1 rs2)
fetched_by op.Slt rd rs1 rs2 imm = Found (rv.Slt rd rs1 rs2)
fetched_by op.Sltu rd rs1 rs2 imm = Found (rv.Sltu rd rs1 rs2)
fetched_by op.Xor rd rs1 rs2 imm = Found (rv.Xor rd rs1 rs2)
fetched_by op.Srl rd rs1 rs2 imm = Found (rv.Srl rd rs1 rs2)
fetched_by op.Sra rd rs1 rs2 imm = Found (rv.Sra rd rs1 rs2)
fetched_by op.Or rd rs1 rs2 imm = Found (rv.Or rd rs1 rs2)
fetched_by op.And rd rs1 rs2 imm = Found (rv.And rd rs1 rs2)
fetched_by op.Mul rd rs1 rs2 imm = Found (rv.Mul rd rs1 rs2)
fetched_by op.Mulh rd rs1 rs2 imm = Found (rv.Mulh rd rs1 rs2)
fetched_by op.Mulhsu rd rs1 rs2 imm = Found (rv.Mulhsu rd rs1 rs2)
fetched_by op.Mulhu rd rs1 rs2 imm = Found (rv.Mulhu rd rs1 rs2)
fetched_by op.Div rd rs1 rs2 imm = Found (rv.Div rd rs1 rs2)
fetched_by op.Divu rd rs1 rs2 imm = Found (rv.Divu rd rs1 rs2)
fetched_by op.Rem rd rs1 rs2 imm = Found (rv.Rem rd rs1 rs2)
fetched_by op.Remu rd rs1 rs2 imm = Found (rv.Remu rd rs1 rs2)
fetched_by op.Addiw rd rs1 rs2 imm = Found (rv.Addiw rd rs1 imm)
fetched_by op.Slliw rd rs1 rs2 imm = Found (rv.Slliw rd rs1 imm)
fetched_by op.Srliw rd rs1 rs2 imm = Found (rv.Srliw rd rs1 imm)
fetched_by op.Sraiw rd rs1 rs2 imm = Found (rv.Sraiw rd rs1 imm)
fetched_by op.Addw rd rs1 rs2 imm = Found (rv.Addw rd rs1 rs2)
fetched_by op.Subw rd rs1 rs2 imm = Found (rv.Subw rd rs1 rs2)
fetched_by op.Sllw rd rs1 rs2 imm = Found (rv.Sllw rd rs1 rs2)
fetched_by op.Srlw rd rs1 rs2 imm = Found (rv.Srlw rd rs1 rs2)
fetched_by op.Sraw rd rs1 rs2 imm = Found (rv.Sraw rd rs1 rs2)
fetched_by op.Mulw rd rs1 rs2 imm = Found (rv.Mulw rd rs1 rs2)
fetched_by op.Divw rd rs1 rs2 imm = Found (rv.Divw rd rs1 rs2)
fetched_by op.Divuw rd rs1 rs2 imm = Found (rv.Divuw rd rs1 rs2)
fetched_by op.Remw rd rs1 rs2 imm = Found (rv.Remw rd rs1 rs2)
fetched_by op.Remuw rd rs1 rs2 imm = Found (rv.Remuw rd rs1 rs2)
fetched_by op.Fence rd rs1 rs2 imm = Found (rv.Fence rd rs1 imm)
fetched_by op.Ecall rd rs1 rs2 imm = Found rv.Ecall
fetched_by op.Ebreak rd rs1 rs2 imm = Found rv.Ebreak
fetched_by op.NoWord rd rs1 rs2 imm = NoWord

abbrev pub fetched_of : Decoded → Fetched
fetched_of word = fetched_by word.op word.rd (number_of word.rs1) (number_of word.rs2) word.imm

abbrev pub seen_as : Option Decoded → Fetched
seen_as (Some word) = fetched_of word
seen_as None = NoPlace

abbrev pub IsReady : Decoded → Type 0
IsReady word = (word.rd < 32) × IsSource word.rs1 × IsSource word.rs2
