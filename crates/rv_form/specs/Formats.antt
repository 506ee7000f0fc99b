-- The formats of the RISC-V unprivileged manual: how the 32 bits of a word hold an instruction's operands.
--
-- A word's fields, from bit 0 on: opcode (7 bits), rd (5), funct3 (3), rs1 (5), rs2 (5), funct7 (7). The
-- formats lay immediates over the fields that they do not use.
use Rattle.std.specs.Prelude.{ℕ, ◌+◌, ◌*◌, ◌/◌, ◌%◌, ◌^◌, ◌<◌, ◌≡◌, ℤ, pos, ◌≤ℤ◌, ◌<ℤ◌, neg_ℤ, unsigned_abs}
use Rattle.rv_form.specs.Numbers.{low_part, signed}

-- An instruction as its format has it: the codes that tell it from the others, and its operands.
pub data Format : Type 0 where
  FormatR : (opcode funct3 funct7 rd rs1 rs2 : ℕ) → Format
  FormatI : (opcode funct3 rd rs1 : ℕ) (imm : ℤ) → Format
  -- I, of a shift by an amount of six bits, with the bits above it; and of one by five bits
  FormatShift6 : (opcode funct3 above rd rs1 : ℕ) (imm : ℤ) → Format
  FormatShift5 : (opcode funct3 above rd rs1 : ℕ) (imm : ℤ) → Format
  FormatS : (opcode funct3 rs1 rs2 : ℕ) (imm : ℤ) → Format
  FormatB : (opcode funct3 rs1 rs2 : ℕ) (imm : ℤ) → Format
  FormatU : (opcode rd : ℕ) (imm : ℤ) → Format
  FormatJ : (opcode rd : ℕ) (imm : ℤ) → Format
  -- one word alone
  FormatWord : (whole : ℕ) → Format

-- words

abbrev pub r_word : (opcode funct3 funct7 rd rs1 rs2 : ℕ) → ℕ
r_word opcode funct3 funct7 rd rs1 rs2 =
    opcode + 0x80 * rd + 0x1000 * funct3 + 0x8000 * rs1 + 0x10_0000 * rs2 + 0x200_0000 * funct7

-- I: twelve bits from bit 20 on
abbrev pub i_word : (opcode funct3 rd rs1 : ℕ) → ℤ → ℕ
i_word opcode funct3 rd rs1 imm =
    opcode + 0x80 * rd + 0x1000 * funct3 + 0x8000 * rs1 + 0x10_0000 * low_part 0x1000 imm

-- a shift's amount from bit 20 on, and what stands above it
abbrev pub shift6_word : (opcode funct3 above rd rs1 : ℕ) → ℤ → ℕ
shift6_word opcode funct3 above rd rs1 imm =
    opcode + 0x80 * rd + 0x1000 * funct3 + 0x8000 * rs1 + 0x10_0000 * low_part 64 imm + 0x400_0000 * above

abbrev pub shift5_word : (opcode funct3 above rd rs1 : ℕ) → ℤ → ℕ
shift5_word opcode funct3 above rd rs1 imm = r_word opcode funct3 above rd rs1 (low_part 32 imm)

-- S: bits 0 to 4 are bits 7 to 11, and 5 to 11 are bits 25 to 31
abbrev pub s_fields : ℕ → ℕ
s_fields n = 0x80 * (n % 32) + 0x200_0000 * (n / 32)

abbrev pub s_word : (opcode funct3 rs1 rs2 : ℕ) → ℤ → ℕ
s_word opcode funct3 rs1 rs2 imm =
    opcode + 0x1000 * funct3 + 0x8000 * rs1 + 0x10_0000 * rs2 + s_fields (low_part 0x1000 imm)

-- B: bit 11 is bit 7, bits 1 to 4 are bits 8 to 11, 5 to 10 are 25 to 30, and 12 is 31
abbrev pub b_fields : ℕ → ℕ
b_fields n =
    0x80 * (n / 0x800 % 2) + 0x100 * (n / 2 % 16) + 0x200_0000 * (n / 32 % 64) + 0x8000_0000 * (n / 0x1000 % 2)

abbrev pub b_word : (opcode funct3 rs1 rs2 : ℕ) → ℤ → ℕ
b_word opcode funct3 rs1 rs2 imm =
    opcode + 0x1000 * funct3 + 0x8000 * rs1 + 0x10_0000 * rs2 + b_fields (low_part 0x2000 imm)

-- U: twenty bits from bit 12 on
abbrev pub u_word : (opcode rd : ℕ) → ℤ → ℕ
u_word opcode rd imm = opcode + 0x80 * rd + 0x1000 * low_part 0x10_0000 imm

-- J: bits 12 to 19 are bits 12 to 19, bit 11 is bit 20, bits 1 to 10 are 21 to 30, and 20 is 31
abbrev pub j_fields : ℕ → ℕ
j_fields n =
    0x1000 * (n / 0x1000 % 256) + 0x10_0000 * (n / 0x800 % 2) + 0x20_0000 * (n / 2 % 1024) + 0x8000_0000 * (n / 0x10_0000 % 2)

abbrev pub j_word : (opcode rd : ℕ) → ℤ → ℕ
j_word opcode rd imm = opcode + 0x80 * rd + j_fields (low_part 0x20_0000 imm)

abbrev pub word_in : Format → ℕ
word_in (FormatR opcode funct3 funct7 rd rs1 rs2) = r_word opcode funct3 funct7 rd rs1 rs2
word_in (FormatI opcode funct3 rd rs1 imm) = i_word opcode funct3 rd rs1 imm
word_in (FormatShift6 opcode funct3 above rd rs1 imm) = shift6_word opcode funct3 above rd rs1 imm
word_in (FormatShift5 opcode funct3 above rd rs1 imm) = shift5_word opcode funct3 above rd rs1 imm
word_in (FormatS opcode funct3 rs1 rs2 imm) = s_word opcode funct3 rs1 rs2 imm
word_in (FormatB opcode funct3 rs1 rs2 imm) = b_word opcode funct3 rs1 rs2 imm
word_in (FormatU opcode rd imm) = u_word opcode rd imm
word_in (FormatJ opcode rd imm) = j_word opcode rd imm
word_in (FormatWord whole) = whole

-- ranges

-- a signed number from -half up to half, half not included
pub record IsWithin (half : ℕ) (z : ℤ) : Type 0 where
  pub low : neg_ℤ (pos half) ≤ℤ z
  pub high : z <ℤ pos half

-- the same, of the even ones
pub record IsEvenWithin (half : ℕ) (z : ℤ) : Type 0 where
  pub within : IsWithin half z
  pub even : unsigned_abs z % 2 ≡ 0

-- the amount of a shift, from 0 up to a bound that is not included
pub record IsAmount (bound : ℕ) (z : ℤ) : Type 0 where
  pub low : pos 0 ≤ℤ z
  pub high : z <ℤ pos bound

-- the registers are below 32, and the immediate is one that its field can hold
abbrev pub IsInRange : Format → Type 0
IsInRange (FormatR opcode funct3 funct7 rd rs1 rs2) = (rd < 32) × (rs1 < 32) × (rs2 < 32)
IsInRange (FormatI opcode funct3 rd rs1 imm) = (rd < 32) × (rs1 < 32) × IsWithin (2 ^ 11) imm
IsInRange (FormatShift6 opcode funct3 above rd rs1 imm) = (rd < 32) × (rs1 < 32) × IsAmount 64 imm
IsInRange (FormatShift5 opcode funct3 above rd rs1 imm) = (rd < 32) × (rs1 < 32) × IsAmount 32 imm
IsInRange (FormatS opcode funct3 rs1 rs2 imm) = (rs1 < 32) × (rs2 < 32) × IsWithin (2 ^ 11) imm
IsInRange (FormatB opcode funct3 rs1 rs2 imm) = (rs1 < 32) × (rs2 < 32) × IsEvenWithin (2 ^ 12) imm
IsInRange (FormatU opcode rd imm) = (rd < 32) × IsWithin (2 ^ 19) imm
IsInRange (FormatJ opcode rd imm) = (rd < 32) × IsEvenWithin (2 ^ 20) imm
IsInRange (FormatWord whole) = Unit {0}

-- the fields of a word

abbrev pub opcode_of : ℕ → ℕ
opcode_of w = w % 0x80

abbrev pub rd_of : ℕ → ℕ
rd_of w = w / 0x80 % 32

abbrev pub funct3_of : ℕ → ℕ
funct3_of w = w / 0x1000 % 8

abbrev pub rs1_of : ℕ → ℕ
rs1_of w = w / 0x8000 % 32

abbrev pub rs2_of : ℕ → ℕ
rs2_of w = w / 0x10_0000 % 32

abbrev pub funct7_of : ℕ → ℕ
funct7_of w = w / 0x200_0000

-- the six bits above a shift's amount of six bits
abbrev pub above6_of : ℕ → ℕ
above6_of w = w / 0x400_0000

abbrev pub i_imm : ℕ → ℤ
i_imm w = signed 0x800 (w / 0x10_0000)

abbrev pub shift6_imm : ℕ → ℤ
shift6_imm w = pos (w / 0x10_0000 % 64)

abbrev pub shift5_imm : ℕ → ℤ
shift5_imm w = pos (rs2_of w)

abbrev pub s_imm : ℕ → ℤ
s_imm w = signed 0x800 (w / 0x80 % 32 + 32 * (w / 0x200_0000))

abbrev pub b_imm : ℕ → ℤ
b_imm w =
    signed 0x1000 (0x800 * (w / 0x80 % 2) + 2 * (w / 0x100 % 16) + 32 * (w / 0x200_0000 % 64) + 0x1000 * (w / 0x8000_0000))

abbrev pub u_imm : ℕ → ℤ
u_imm w = signed 0x8_0000 (w / 0x1000)

abbrev pub j_imm : ℕ → ℤ
j_imm w =
    signed 0x10_0000 (0x1000 * (w / 0x1000 % 256) + 0x800 * (w / 0x10_0000 % 2) + 2 * (w / 0x20_0000 % 1024) + 0x10_0000 * (w / 0x8000_0000))

-- all that some format reads in a word
pub record Fields : Type 0 where
  pub whole : ℕ
  pub opcode : ℕ
  pub funct3 : ℕ
  pub funct7 : ℕ
  pub above6 : ℕ
  pub rd : ℕ
  pub rs1 : ℕ
  pub rs2 : ℕ
  pub imm_i : ℤ
  pub imm_shift6 : ℤ
  pub imm_shift5 : ℤ
  pub imm_s : ℤ
  pub imm_b : ℤ
  pub imm_u : ℤ
  pub imm_j : ℤ

abbrev pub fields_of : ℕ → Fields
fields_of w =
    record {
      whole = w;
      opcode = opcode_of w;
      funct3 = funct3_of w;
      funct7 = funct7_of w;
      above6 = above6_of w;
      rd = rd_of w;
      rs1 = rs1_of w;
      rs2 = rs2_of w;
      imm_i = i_imm w;
      imm_shift6 = shift6_imm w;
      imm_shift5 = shift5_imm w;
      imm_s = s_imm w;
      imm_b = b_imm w;
      imm_u = u_imm w;
      imm_j = j_imm w;
    }
