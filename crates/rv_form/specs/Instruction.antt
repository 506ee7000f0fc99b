-- The table of the 65 instructions of RV64I and M (the RISC-V unprivileged manual's opcode listings): the
-- word of each, and the instruction of each word that has one.
use Rattle.std.specs.Prelude.{ℕ, ℤ, List, [], ◌∷◌, ◌++◌, Option, Some, None, if◌then◌else◌, Bool, nat_eq, ◌&&◌}
use Rattle.rv_form.specs.declared.instr.Instr.{Instr}
use Rattle.rv_form.specs.declared.instr.Instr.TheVariants.{Lui, Auipc, Jal, Jalr, Beq, Bne, Blt, Bge, Bltu, Bgeu, Lb, Lh, Lw, Ld, Lbu, Lhu, Lwu, Sb, Sh, Sw, Sd, Addi, Slti, Sltiu, Xori, Ori, Andi, Slli, Srli, Srai, Add, Sub, Sll, Slt, Sltu, Xor, Srl, Sra, Or, And, Mul, Mulh, Mulhsu, Mulhu, Div, Divu, Rem, Remu, Addiw, Slliw, Srliw, Sraiw, Addw, Subw, Sllw, Srlw, Sraw, Mulw, Divw, Divuw, Remw, Remuw, Fence, Ecall, Ebreak}
use Rattle.rv_form.specs.Numbers.{low_bytes}
use Rattle.rv_form.specs.Formats.{Format, FormatR, FormatI, FormatShift6, FormatShift5, FormatS, FormatB, FormatU, FormatJ, FormatWord, word_in, IsInRange, Fields, fields_of}

-- each instruction in its format: opcode, then funct3, then funct7 or what stands above a shift's amount
abbrev pub format_of : Instr → Format
format_of (Lui rd imm) = FormatU 0x37 rd imm
format_of (Auipc rd imm) = FormatU 0x17 rd imm
format_of (Jal rd imm) = FormatJ 0x6f rd imm
format_of (Jalr rd rs1 imm) = FormatI 0x67 0 rd rs1 imm
format_of (Beq rs1 rs2 imm) = FormatB 0x63 0 rs1 rs2 imm
format_of (Bne rs1 rs2 imm) = FormatB 0x63 1 rs1 rs2 imm
format_of (Blt rs1 rs2 imm) = FormatB 0x63 4 rs1 rs2 imm
format_of (Bge rs1 rs2 imm) = FormatB 0x63 5 rs1 rs2 imm
format_of (Bltu rs1 rs2 imm) = FormatB 0x63 6 rs1 rs2 imm
format_of (Bgeu rs1 rs2 imm) = FormatB 0x63 7 rs1 rs2 imm
format_of (Lb rd rs1 imm) = FormatI 0x03 0 rd rs1 imm
format_of (Lh rd rs1 imm) = FormatI 0x03 1 rd rs1 imm
format_of (Lw rd rs1 imm) = FormatI 0x03 2 rd rs1 imm
format_of (Ld rd rs1 imm) = FormatI 0x03 3 rd rs1 imm
format_of (Lbu rd rs1 imm) = FormatI 0x03 4 rd rs1 imm
format_of (Lhu rd rs1 imm) = FormatI 0x03 5 rd rs1 imm
format_of (Lwu rd rs1 imm) = FormatI 0x03 6 rd rs1 imm
format_of (Sb rs1 rs2 imm) = FormatS 0x23 0 rs1 rs2 imm
format_of (Sh rs1 rs2 imm) = FormatS 0x23 1 rs1 rs2 imm
format_of (Sw rs1 rs2 imm) = FormatS 0x23 2 rs1 rs2 imm
format_of (Sd rs1 rs2 imm) = FormatS 0x23 3 rs1 rs2 imm
format_of (Addi rd rs1 imm) = FormatI 0x13 0 rd rs1 imm
format_of (Slti rd rs1 imm) = FormatI 0x13 2 rd rs1 imm
format_of (Sltiu rd rs1 imm) = FormatI 0x13 3 rd rs1 imm
format_of (Xori rd rs1 imm) = FormatI 0x13 4 rd rs1 imm
format_of (Ori rd rs1 imm) = FormatI 0x13 6 rd rs1 imm
format_of (Andi rd rs1 imm) = FormatI 0x13 7 rd rs1 imm
format_of (Slli rd rs1 imm) = FormatShift6 0x13 1 0 rd rs1 imm
format_of (Srli rd rs1 imm) = FormatShift6 0x13 5 0 rd rs1 imm
format_of (Srai rd rs1 imm) = FormatShift6 0x13 5 0x10 rd rs1 imm
format_of (Add rd rs1 rs2) = FormatR 0x33 0 0 rd rs1 rs2
format_of (Sub rd rs1 rs2) = FormatR 0x33 0 0x20 rd rs1 rs2
format_of (Sll rd rs1 rs2) = FormatR 0x33 1 0 rd rs1 rs2
format_of (Slt rd rs1 rs2) = FormatR 0x33 2 0 rd rs1 rs2
format_of (Sltu rd rs1 rs2) = FormatR 0x33 3 0 rd rs1 rs2
format_of (Xor rd rs1 rs2) = FormatR 0x33 4 0 rd rs1 rs2
format_of (Srl rd rs1 rs2) = FormatR 0x33 5 0 rd rs1 rs2
format_of (Sra rd rs1 rs2) = FormatR 0x33 5 0x20 rd rs1 rs2
format_of (Or rd rs1 rs2) = FormatR 0x33 6 0 rd rs1 rs2
format_of (And rd rs1 rs2) = FormatR 0x33 7 0 rd rs1 rs2
format_of (Mul rd rs1 rs2) = FormatR 0x33 0 1 rd rs1 rs2
format_of (Mulh rd rs1 rs2) = FormatR 0x33 1 1 rd rs1 rs2
format_of (Mulhsu rd rs1 rs2) = FormatR 0x33 2 1 rd rs1 rs2
format_of (Mulhu rd rs1 rs2) = FormatR 0x33 3 1 rd rs1 rs2
format_of (Div rd rs1 rs2) = FormatR 0x33 4 1 rd rs1 rs2
format_of (Divu rd rs1 rs2) = FormatR 0x33 5 1 rd rs1 rs2
format_of (Rem rd rs1 rs2) = FormatR 0x33 6 1 rd rs1 rs2
format_of (Remu rd rs1 rs2) = FormatR 0x33 7 1 rd rs1 rs2
format_of (Addiw rd rs1 imm) = FormatI 0x1b 0 rd rs1 imm
format_of (Slliw rd rs1 imm) = FormatShift5 0x1b 1 0 rd rs1 imm
format_of (Srliw rd rs1 imm) = FormatShift5 0x1b 5 0 rd rs1 imm
format_of (Sraiw rd rs1 imm) = FormatShift5 0x1b 5 0x20 rd rs1 imm
format_of (Addw rd rs1 rs2) = FormatR 0x3b 0 0 rd rs1 rs2
format_of (Subw rd rs1 rs2) = FormatR 0x3b 0 0x20 rd rs1 rs2
format_of (Sllw rd rs1 rs2) = FormatR 0x3b 1 0 rd rs1 rs2
format_of (Srlw rd rs1 rs2) = FormatR 0x3b 5 0 rd rs1 rs2
format_of (Sraw rd rs1 rs2) = FormatR 0x3b 5 0x20 rd rs1 rs2
format_of (Mulw rd rs1 rs2) = FormatR 0x3b 0 1 rd rs1 rs2
format_of (Divw rd rs1 rs2) = FormatR 0x3b 4 1 rd rs1 rs2
format_of (Divuw rd rs1 rs2) = FormatR 0x3b 5 1 rd rs1 rs2
format_of (Remw rd rs1 rs2) = FormatR 0x3b 6 1 rd rs1 rs2
format_of (Remuw rd rs1 rs2) = FormatR 0x3b 7 1 rd rs1 rs2
format_of (Fence rd rs1 imm) = FormatI 0x0f 0 rd rs1 imm
format_of Ecall = FormatWord 0x73
format_of Ebreak = FormatWord 0x10_0073

-- an instruction that has a word: its registers and its immediate are in their ranges
abbrev pub IsValid : Instr → Type 0
IsValid instr = IsInRange (format_of instr)

-- a piece of code of which each instruction has a word
abbrev pub AllValid : List Instr → Type 0
AllValid [] = Unit {0}
AllValid (instr ∷ rest) = IsValid instr × AllValid rest

-- the word of an instruction
abbrev pub word_of : Instr → ℕ
word_of instr = word_in (format_of instr)

-- the bytes of a piece of code, four for each instruction
abbrev pub code_bytes : List Instr → List ℕ
code_bytes [] = []
code_bytes (instr ∷ rest) = low_bytes 4 (word_of instr) ++ code_bytes rest

-- A row of the table by which words are read: a format, the codes that tell the row from the others, and
-- the instruction of a word that has them.
pub data Row : Type 0 where
  RowR : (opcode funct3 funct7 : ℕ) (make : (rd rs1 rs2 : ℕ) → Instr) → Row
  RowI : (opcode funct3 : ℕ) (make : (rd rs1 : ℕ) → ℤ → Instr) → Row
  RowShift6 : (opcode funct3 above : ℕ) (make : (rd rs1 : ℕ) → ℤ → Instr) → Row
  RowShift5 : (opcode funct3 above : ℕ) (make : (rd rs1 : ℕ) → ℤ → Instr) → Row
  RowS : (opcode funct3 : ℕ) (make : (rs1 rs2 : ℕ) → ℤ → Instr) → Row
  RowB : (opcode funct3 : ℕ) (make : (rs1 rs2 : ℕ) → ℤ → Instr) → Row
  RowU : (opcode : ℕ) (make : (rd : ℕ) → ℤ → Instr) → Row
  RowJ : (opcode : ℕ) (make : (rd : ℕ) → ℤ → Instr) → Row
  RowWord : (whole : ℕ) (instr : Instr) → Row

abbrev pub rows : List Row
rows =
    RowU 0x37 Lui
    ∷ RowU 0x17 Auipc
    ∷ RowJ 0x6f Jal
    ∷ RowI 0x67 0 Jalr
    ∷ RowB 0x63 0 Beq
    ∷ RowB 0x63 1 Bne
    ∷ RowB 0x63 4 Blt
    ∷ RowB 0x63 5 Bge
    ∷ RowB 0x63 6 Bltu
    ∷ RowB 0x63 7 Bgeu
    ∷ RowI 0x03 0 Lb
    ∷ RowI 0x03 1 Lh
    ∷ RowI 0x03 2 Lw
    ∷ RowI 0x03 3 Ld
    ∷ RowI 0x03 4 Lbu
    ∷ RowI 0x03 5 Lhu
    ∷ RowI 0x03 6 Lwu
    ∷ RowS 0x23 0 Sb
    ∷ RowS 0x23 1 Sh
    ∷ RowS 0x23 2 Sw
    ∷ RowS 0x23 3 Sd
    ∷ RowI 0x13 0 Addi
    ∷ RowI 0x13 2 Slti
    ∷ RowI 0x13 3 Sltiu
    ∷ RowI 0x13 4 Xori
    ∷ RowI 0x13 6 Ori
    ∷ RowI 0x13 7 Andi
    ∷ RowShift6 0x13 1 0 Slli
    ∷ RowShift6 0x13 5 0 Srli
    ∷ RowShift6 0x13 5 0x10 Srai
    ∷ RowR 0x33 0 0 Add
    ∷ RowR 0x33 0 0x20 Sub
    ∷ RowR 0x33 1 0 Sll
    ∷ RowR 0x33 2 0 Slt
    ∷ RowR 0x33 3 0 Sltu
    ∷ RowR 0x33 4 0 Xor
    ∷ RowR 0x33 5 0 Srl
    ∷ RowR 0x33 5 0x20 Sra
    ∷ RowR 0x33 6 0 Or
    ∷ RowR 0x33 7 0 And
    ∷ RowR 0x33 0 1 Mul
    ∷ RowR 0x33 1 1 Mulh
    ∷ RowR 0x33 2 1 Mulhsu
    ∷ RowR 0x33 3 1 Mulhu
    ∷ RowR 0x33 4 1 Div
    ∷ RowR 0x33 5 1 Divu
    ∷ RowR 0x33 6 1 Rem
    ∷ RowR 0x33 7 1 Remu
    ∷ RowI 0x1b 0 Addiw
    ∷ RowShift5 0x1b 1 0 Slliw
    ∷ RowShift5 0x1b 5 0 Srliw
    ∷ RowShift5 0x1b 5 0x20 Sraiw
    ∷ RowR 0x3b 0 0 Addw
    ∷ RowR 0x3b 0 0x20 Subw
    ∷ RowR 0x3b 1 0 Sllw
    ∷ RowR 0x3b 5 0 Srlw
    ∷ RowR 0x3b 5 0x20 Sraw
    ∷ RowR 0x3b 0 1 Mulw
    ∷ RowR 0x3b 4 1 Divw
    ∷ RowR 0x3b 5 1 Divuw
    ∷ RowR 0x3b 6 1 Remw
    ∷ RowR 0x3b 7 1 Remuw
    ∷ RowI 0x0f 0 Fence
    ∷ RowWord 0x73 Ecall
    ∷ RowWord 0x10_0073 Ebreak
    ∷ []

abbrev pub has_row : Row → Fields → Bool
has_row (RowR opcode funct3 funct7 make) f = nat_eq f.opcode opcode && (nat_eq f.funct3 funct3 && nat_eq f.funct7 funct7)
has_row (RowI opcode funct3 make) f = nat_eq f.opcode opcode && nat_eq f.funct3 funct3
has_row (RowShift6 opcode funct3 above make) f = nat_eq f.opcode opcode && (nat_eq f.funct3 funct3 && nat_eq f.above6 above)
has_row (RowShift5 opcode funct3 above make) f = nat_eq f.opcode opcode && (nat_eq f.funct3 funct3 && nat_eq f.funct7 above)
has_row (RowS opcode funct3 make) f = nat_eq f.opcode opcode && nat_eq f.funct3 funct3
has_row (RowB opcode funct3 make) f = nat_eq f.opcode opcode && nat_eq f.funct3 funct3
has_row (RowU opcode make) f = nat_eq f.opcode opcode
has_row (RowJ opcode make) f = nat_eq f.opcode opcode
has_row (RowWord whole instr) f = nat_eq f.whole whole

abbrev pub made_by : Row → Fields → Instr
made_by (RowR opcode funct3 funct7 make) f = make f.rd f.rs1 f.rs2
made_by (RowI opcode funct3 make) f = make f.rd f.rs1 f.imm_i
made_by (RowShift6 opcode funct3 above make) f = make f.rd f.rs1 f.imm_shift6
made_by (RowShift5 opcode funct3 above make) f = make f.rd f.rs1 f.imm_shift5
made_by (RowS opcode funct3 make) f = make f.rs1 f.rs2 f.imm_s
made_by (RowB opcode funct3 make) f = make f.rs1 f.rs2 f.imm_b
made_by (RowU opcode make) f = make f.rd f.imm_u
made_by (RowJ opcode make) f = make f.rd f.imm_j
made_by (RowWord whole instr) f = instr

abbrev pub in_rows : List Row → Fields → Option Instr
in_rows [] f = None
in_rows (row ∷ rest) f = if has_row row f then Some (made_by row f) else in_rows rest f

-- the instruction that a word of 32 bits is, by the one row that has it
abbrev pub instruction_of : ℕ → Option Instr
instruction_of w = in_rows rows (fields_of w)
