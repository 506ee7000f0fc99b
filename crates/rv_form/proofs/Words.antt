-- Words of 32 bits: their bytes, and the instruction of an instruction's word.
use Rattle.std.proofs.Common.{◌≡◌, ℕ, ◌+◌, ◌*◌, ◌/◌, ◌%◌, ◌<◌, ◌^◌, List, [], ◌∷◌, Some, refl, ap, ◌∙◌, arith, lit<}
use Rattle.std.specs.Prelude.{ℤ, pos, negsuc, unsigned_abs}
use Rattle.std.proofs.lemmas.Int.{ints}
use Rattle.rv_form.specs.declared.instr.Instr.{Instr}
use Rattle.rv_form.specs.declared.instr.Instr.TheVariants.{Lui}
use Rattle.rv_form.specs.Numbers.{low_bytes, low_part, signed}
use Rattle.rv_form.specs.Formats.{Format, FormatR, FormatI, FormatShift6, FormatShift5, FormatS, FormatB, FormatU, FormatJ, FormatWord, Fields, fields_of, word_in, IsInRange, IsWithin, IsEvenWithin, IsAmount, opcode_of, funct3_of, funct7_of, above6_of, rd_of, rs1_of, rs2_of, r_word, i_word, i_imm, shift6_word, shift6_imm, shift5_word, shift5_imm, s_word, s_imm, b_word, b_imm, u_word, u_imm, j_word, j_imm}
use Rattle.rv_form.specs.Instruction.{rows, in_rows, instruction_of, format_of, word_of, IsValid}

-- the number of some bytes, the lowest first
abbrev pub number_of : List ℕ → ℕ
number_of [] = 0
number_of (byte ∷ rest) = byte + 256 * number_of rest

-- an instruction's word, as it lies in memory, is that instruction's
abbrev pub Decodes : Instr → Type 0
Decodes instr = instruction_of (number_of (low_bytes 4 (word_of instr))) ≡ Some instr

pub data AllDecode : List Instr → Type 0 where
  none : AllDecode []
  also : {instr : Instr} {rest : List Instr} → Decodes instr → AllDecode rest → AllDecode (instr ∷ rest)

pub number_of-low_bytes : (w : ℕ) → w < 2 ^ 32 → number_of (low_bytes 4 w) ≡ w
number_of-low_bytes w small = omega arith

-- immediates in their fields

signed-low_12 : (imm : ℤ) → IsWithin 0x800 imm → signed 0x800 (low_part 0x1000 imm) ≡ imm
signed-low_12 (pos n) within = let high : n < 0x800 = omega (arith, ints, within.high) in grind arith
signed-low_12 (negsuc n) within = let low : n < 0x800 = omega (arith, ints, within.low) in grind arith

signed-low_13 : (imm : ℤ) → IsWithin 0x1000 imm → signed 0x1000 (low_part 0x2000 imm) ≡ imm
signed-low_13 (pos n) within = let high : n < 0x1000 = omega (arith, ints, within.high) in grind arith
signed-low_13 (negsuc n) within = let low : n < 0x1000 = omega (arith, ints, within.low) in grind arith

signed-low_20 : (imm : ℤ) → IsWithin 0x8_0000 imm → signed 0x8_0000 (low_part 0x10_0000 imm) ≡ imm
signed-low_20 (pos n) within = let high : n < 0x8_0000 = omega (arith, ints, within.high) in grind arith
signed-low_20 (negsuc n) within = let low : n < 0x8_0000 = omega (arith, ints, within.low) in grind arith

signed-low_21 : (imm : ℤ) → IsWithin 0x10_0000 imm → signed 0x10_0000 (low_part 0x20_0000 imm) ≡ imm
signed-low_21 (pos n) within = let high : n < 0x10_0000 = omega (arith, ints, within.high) in grind arith
signed-low_21 (negsuc n) within = let low : n < 0x10_0000 = omega (arith, ints, within.low) in grind arith

amount_6 : (imm : ℤ) → IsAmount 64 imm → pos (low_part 64 imm) ≡ imm
amount_6 (pos n) amount = let high : n < 64 = omega (arith, ints, amount.high) in ap pos (omega arith)
amount_6 (negsuc n) amount = absurd (omega (arith, ints, amount.low))

amount_5 : (imm : ℤ) → IsAmount 32 imm → pos (low_part 32 imm) ≡ imm
amount_5 (pos n) amount = let high : n < 32 = omega (arith, ints, amount.high) in ap pos (omega arith)
amount_5 (negsuc n) amount = absurd (omega (arith, ints, amount.low))

-- a field holds less than its number of values, and half of an even number in the bits above the lowest

low_5 : (imm : ℤ) → low_part 32 imm < 32
low_5 (pos n) = omega arith
low_5 (negsuc n) = omega arith

low_6 : (imm : ℤ) → low_part 64 imm < 64
low_6 (pos n) = omega arith
low_6 (negsuc n) = omega arith

low_12 : (imm : ℤ) → low_part 0x1000 imm < 0x1000
low_12 (pos n) = omega arith
low_12 (negsuc n) = omega arith

low_13 : (imm : ℤ) → low_part 0x2000 imm < 0x2000
low_13 (pos n) = omega arith
low_13 (negsuc n) = omega arith

low_20 : (imm : ℤ) → low_part 0x10_0000 imm < 0x10_0000
low_20 (pos n) = omega arith
low_20 (negsuc n) = omega arith

low_21 : (imm : ℤ) → low_part 0x20_0000 imm < 0x20_0000
low_21 (pos n) = omega arith
low_21 (negsuc n) = omega arith

even_13 : (imm : ℤ) → unsigned_abs imm % 2 ≡ 0 → low_part 0x2000 imm % 2 ≡ 0
even_13 (pos n) even = omega arith
even_13 (negsuc n) even = omega arith

even_21 : (imm : ℤ) → unsigned_abs imm % 2 ≡ 0 → low_part 0x20_0000 imm % 2 ≡ 0
even_21 (pos n) even = omega arith
even_21 (negsuc n) even = omega arith

-- the codes of a format, 0 where it has none

abbrev opcode_in : Format → ℕ
opcode_in (FormatR opcode funct3 funct7 rd rs1 rs2) = opcode
opcode_in (FormatI opcode funct3 rd rs1 imm) = opcode
opcode_in (FormatShift6 opcode funct3 above rd rs1 imm) = opcode
opcode_in (FormatShift5 opcode funct3 above rd rs1 imm) = opcode
opcode_in (FormatS opcode funct3 rs1 rs2 imm) = opcode
opcode_in (FormatB opcode funct3 rs1 rs2 imm) = opcode
opcode_in (FormatU opcode rd imm) = opcode
opcode_in (FormatJ opcode rd imm) = opcode
opcode_in (FormatWord whole) = 0

abbrev funct3_in : Format → ℕ
funct3_in (FormatR opcode funct3 funct7 rd rs1 rs2) = funct3
funct3_in (FormatI opcode funct3 rd rs1 imm) = funct3
funct3_in (FormatShift6 opcode funct3 above rd rs1 imm) = funct3
funct3_in (FormatShift5 opcode funct3 above rd rs1 imm) = funct3
funct3_in (FormatS opcode funct3 rs1 rs2 imm) = funct3
funct3_in (FormatB opcode funct3 rs1 rs2 imm) = funct3
funct3_in format = 0

abbrev above_in : Format → ℕ
above_in (FormatR opcode funct3 funct7 rd rs1 rs2) = funct7
above_in (FormatShift6 opcode funct3 above rd rs1 imm) = above
above_in (FormatShift5 opcode funct3 above rd rs1 imm) = above
above_in format = 0

abbrev whole_in : Format → ℕ
whole_in (FormatWord whole) = whole
whole_in format = 0

-- each code is less than its field has values, and what stands above a shift's amount fits six bits
record CodesFit (format : Format) : Type 0 where
  opcode : opcode_in format < 0x80
  funct3 : funct3_in format < 8
  above : above_in format < 64
  whole : whole_in format < 2 ^ 32

codes_fit : (instr : Instr) → CodesFit (format_of instr)
codes_fit (Lui rd imm) = record { opcode = lit< tt; funct3 = lit< tt; above = lit< tt; whole = lit< tt }
codes_fit instr = record { opcode = lit< tt; funct3 = lit< tt; above = lit< tt; whole = lit< tt }

-- The fields of a word, format by format.

pub record FieldsR (w opcode funct3 funct7 rd rs1 rs2 : ℕ) : Type 0 where
  pub small : w < 2 ^ 32
  pub opcode_is : opcode_of w ≡ opcode
  pub funct3_is : funct3_of w ≡ funct3
  pub funct7_is : funct7_of w ≡ funct7
  pub rd_is : rd_of w ≡ rd
  pub rs1_is : rs1_of w ≡ rs1
  pub rs2_is : rs2_of w ≡ rs2

pub fields_r : (opcode funct3 funct7 rd rs1 rs2 : ℕ) → opcode < 128 → funct3 < 8 → funct7 < 64 → rd < 32 → rs1 < 32 → rs2 < 32
    → FieldsR (r_word opcode funct3 funct7 rd rs1 rs2) opcode funct3 funct7 rd rs1 rs2
fields_r opcode funct3 funct7 rd rs1 rs2 a b c d e f =
    record {
      small = omega arith;
      opcode_is = omega arith;
      funct3_is = omega arith;
      funct7_is = omega arith;
      rd_is = omega arith;
      rs1_is = omega arith;
      rs2_is = omega arith;
    }

pub record FieldsShift6 (w opcode funct3 above rd rs1 : ℕ) (imm : ℤ) : Type 0 where
  pub small : w < 2 ^ 32
  pub opcode_is : opcode_of w ≡ opcode
  pub funct3_is : funct3_of w ≡ funct3
  pub above_is : above6_of w ≡ above
  pub rd_is : rd_of w ≡ rd
  pub rs1_is : rs1_of w ≡ rs1
  pub imm_is : shift6_imm w ≡ imm

pub fields_shift6 : (opcode funct3 above rd rs1 : ℕ) (imm : ℤ) → opcode < 128 → funct3 < 8 → above < 64 → rd < 32 → rs1 < 32 → IsAmount 64 imm
    → FieldsShift6 (shift6_word opcode funct3 above rd rs1 imm) opcode funct3 above rd rs1 imm
fields_shift6 opcode funct3 above rd rs1 imm a b c d e amount =
    let small : low_part 64 imm < 64 = low_6 imm in
    let field : shift6_word opcode funct3 above rd rs1 imm / 0x10_0000 % 64 ≡ low_part 64 imm = omega arith in
    record {
      small = omega arith;
      opcode_is = omega arith;
      funct3_is = omega arith;
      above_is = omega arith;
      rd_is = omega arith;
      rs1_is = omega arith;
      imm_is = ap pos field ∙ amount_6 imm amount;
    }

pub record FieldsShift5 (w opcode funct3 above rd rs1 : ℕ) (imm : ℤ) : Type 0 where
  pub small : w < 2 ^ 32
  pub opcode_is : opcode_of w ≡ opcode
  pub funct3_is : funct3_of w ≡ funct3
  pub above_is : funct7_of w ≡ above
  pub rd_is : rd_of w ≡ rd
  pub rs1_is : rs1_of w ≡ rs1
  pub imm_is : shift5_imm w ≡ imm

pub fields_shift5 : (opcode funct3 above rd rs1 : ℕ) (imm : ℤ) → opcode < 128 → funct3 < 8 → above < 64 → rd < 32 → rs1 < 32 → IsAmount 32 imm
    → FieldsShift5 (shift5_word opcode funct3 above rd rs1 imm) opcode funct3 above rd rs1 imm
fields_shift5 opcode funct3 above rd rs1 imm a b c d e amount =
    let f = fields_r opcode funct3 above rd rs1 (low_part 32 imm) a b c d e (low_5 imm) in
    record {
      small = f.small;
      opcode_is = f.opcode_is;
      funct3_is = f.funct3_is;
      above_is = f.funct7_is;
      rd_is = f.rd_is;
      rs1_is = f.rs1_is;
      imm_is = ap pos f.rs2_is ∙ amount_5 imm amount;
    }

pub record FieldsS (w opcode funct3 rs1 rs2 : ℕ) (imm : ℤ) : Type 0 where
  pub small : w < 2 ^ 32
  pub opcode_is : opcode_of w ≡ opcode
  pub funct3_is : funct3_of w ≡ funct3
  pub rs1_is : rs1_of w ≡ rs1
  pub rs2_is : rs2_of w ≡ rs2
  pub imm_is : s_imm w ≡ imm

pub fields_s : (opcode funct3 rs1 rs2 : ℕ) (imm : ℤ) → opcode < 128 → funct3 < 8 → rs1 < 32 → rs2 < 32 → IsWithin 0x800 imm
    → FieldsS (s_word opcode funct3 rs1 rs2 imm) opcode funct3 rs1 rs2 imm
fields_s opcode funct3 rs1 rs2 imm a b c d within =
    let small : low_part 0x1000 imm < 0x1000 = low_12 imm in
    let w = s_word opcode funct3 rs1 rs2 imm in
    let field : w / 0x80 % 32 + 32 * (w / 0x200_0000) ≡ low_part 0x1000 imm = omega arith in
    record {
      small = omega arith;
      opcode_is = omega arith;
      funct3_is = omega arith;
      rs1_is = omega arith;
      rs2_is = omega arith;
      imm_is = ap (signed 0x800) field ∙ signed-low_12 imm within;
    }

pub record FieldsI (w opcode funct3 rd rs1 : ℕ) (imm : ℤ) : Type 0 where
  pub small : w < 2 ^ 32
  pub opcode_is : opcode_of w ≡ opcode
  pub funct3_is : funct3_of w ≡ funct3
  pub rd_is : rd_of w ≡ rd
  pub rs1_is : rs1_of w ≡ rs1
  pub imm_is : i_imm w ≡ imm

pub fields_i : (opcode funct3 rd rs1 : ℕ) (imm : ℤ) → opcode < 128 → funct3 < 8 → rd < 32 → rs1 < 32 → IsWithin 0x800 imm
    → FieldsI (i_word opcode funct3 rd rs1 imm) opcode funct3 rd rs1 imm
fields_i opcode funct3 rd rs1 imm a b c d within =
    let small : low_part 0x1000 imm < 0x1000 = low_12 imm in
    let field : i_word opcode funct3 rd rs1 imm / 0x10_0000 ≡ low_part 0x1000 imm = omega arith in
    record {
      small = omega arith;
      opcode_is = omega arith;
      funct3_is = omega arith;
      rd_is = omega arith;
      rs1_is = omega arith;
      imm_is = ap (signed 0x800) field ∙ signed-low_12 imm within;
    }

pub record FieldsB (w opcode funct3 rs1 rs2 : ℕ) (imm : ℤ) : Type 0 where
  pub small : w < 2 ^ 32
  pub opcode_is : opcode_of w ≡ opcode
  pub funct3_is : funct3_of w ≡ funct3
  pub rs1_is : rs1_of w ≡ rs1
  pub rs2_is : rs2_of w ≡ rs2
  pub imm_is : b_imm w ≡ imm

pub fields_b : (opcode funct3 rs1 rs2 : ℕ) (imm : ℤ) → opcode < 128 → funct3 < 8 → rs1 < 32 → rs2 < 32 → IsEvenWithin 0x1000 imm
    → FieldsB (b_word opcode funct3 rs1 rs2 imm) opcode funct3 rs1 rs2 imm
fields_b opcode funct3 rs1 rs2 imm a b c d within =
    let small : low_part 0x2000 imm < 0x2000 = low_13 imm in
    let even : low_part 0x2000 imm % 2 ≡ 0 = even_13 imm within.even in
    let w = b_word opcode funct3 rs1 rs2 imm in
    let field :
    0x800 * (w / 0x80 % 2) + 2 * (w / 0x100 % 16) + 32 * (w / 0x200_0000 % 64) + 0x1000 * (w / 0x8000_0000)
    ≡ low_part 0x2000 imm =
    omega arith
    in
    record {
      small = omega arith;
      opcode_is = omega arith;
      funct3_is = omega arith;
      rs1_is = omega arith;
      rs2_is = omega arith;
      imm_is = ap (signed 0x1000) field ∙ signed-low_13 imm within.within;
    }

pub record FieldsU (w opcode rd : ℕ) (imm : ℤ) : Type 0 where
  pub small : w < 2 ^ 32
  pub opcode_is : opcode_of w ≡ opcode
  pub rd_is : rd_of w ≡ rd
  pub imm_is : u_imm w ≡ imm

pub fields_u : (opcode rd : ℕ) (imm : ℤ) → opcode < 128 → rd < 32 → IsWithin 0x8_0000 imm
    → FieldsU (u_word opcode rd imm) opcode rd imm
fields_u opcode rd imm a b within =
    let small : low_part 0x10_0000 imm < 0x10_0000 = low_20 imm in
    let field : u_word opcode rd imm / 0x1000 ≡ low_part 0x10_0000 imm = omega arith in
    record {
      small = omega arith;
      opcode_is = omega arith;
      rd_is = omega arith;
      imm_is = ap (signed 0x8_0000) field ∙ signed-low_20 imm within;
    }

pub record FieldsJ (w opcode rd : ℕ) (imm : ℤ) : Type 0 where
  pub small : w < 2 ^ 32
  pub opcode_is : opcode_of w ≡ opcode
  pub rd_is : rd_of w ≡ rd
  pub imm_is : j_imm w ≡ imm

pub fields_j : (opcode rd : ℕ) (imm : ℤ) → opcode < 128 → rd < 32 → IsEvenWithin 0x10_0000 imm
    → FieldsJ (j_word opcode rd imm) opcode rd imm
fields_j opcode rd imm a b within =
    let small : low_part 0x20_0000 imm < 0x20_0000 = low_21 imm in
    let even : low_part 0x20_0000 imm % 2 ≡ 0 = even_21 imm within.even in
    let w = j_word opcode rd imm in
    let field :
    0x1000 * (w / 0x1000 % 256) + 0x800 * (w / 0x10_0000 % 2) + 2 * (w / 0x20_0000 % 1024) + 0x10_0000 * (w / 0x8000_0000)
    ≡ low_part 0x20_0000 imm =
    omega arith
    in
    record {
      small = omega arith;
      opcode_is = omega arith;
      rd_is = omega arith;
      imm_is = ap (signed 0x10_0000) field ∙ signed-low_21 imm within.within;
    }

-- The word of a format has the format's fields. Then the first row that has them is the instruction's.

-- the fields that a format has, over others
abbrev over : Fields → Format → Fields
over f (FormatR opcode funct3 funct7 rd rs1 rs2) =
    record f { opcode = opcode; funct3 = funct3; funct7 = funct7; rd = rd; rs1 = rs1; rs2 = rs2 }
over f (FormatI opcode funct3 rd rs1 imm) = record f { opcode = opcode; funct3 = funct3; rd = rd; rs1 = rs1; imm_i = imm }
over f (FormatShift6 opcode funct3 above rd rs1 imm) =
    record f { opcode = opcode; funct3 = funct3; above6 = above; rd = rd; rs1 = rs1; imm_shift6 = imm }
over f (FormatShift5 opcode funct3 above rd rs1 imm) =
    record f { opcode = opcode; funct3 = funct3; funct7 = above; rd = rd; rs1 = rs1; imm_shift5 = imm }
over f (FormatS opcode funct3 rs1 rs2 imm) = record f { opcode = opcode; funct3 = funct3; rs1 = rs1; rs2 = rs2; imm_s = imm }
over f (FormatB opcode funct3 rs1 rs2 imm) = record f { opcode = opcode; funct3 = funct3; rs1 = rs1; rs2 = rs2; imm_b = imm }
over f (FormatU opcode rd imm) = record f { opcode = opcode; rd = rd; imm_u = imm }
over f (FormatJ opcode rd imm) = record f { opcode = opcode; rd = rd; imm_j = imm }
over f (FormatWord whole) = fields_of whole

-- a word of 32 bits that has a format's fields
record Holds (format : Format) (w : ℕ) : Type 0 where
  small : w < 2 ^ 32
  fields : fields_of w ≡ over (fields_of w) format

holds_r : (w opcode funct3 funct7 rd rs1 rs2 : ℕ) → FieldsR w opcode funct3 funct7 rd rs1 rs2
    → Holds (FormatR opcode funct3 funct7 rd rs1 rs2) w
holds_r w opcode funct3 funct7 rd rs1 rs2 f =
    record { small = f.small; fields = rw (f.opcode_is, f.funct3_is, f.funct7_is, f.rd_is, f.rs1_is, f.rs2_is) refl }

holds_i : (w opcode funct3 rd rs1 : ℕ) (imm : ℤ) → FieldsI w opcode funct3 rd rs1 imm
    → Holds (FormatI opcode funct3 rd rs1 imm) w
holds_i w opcode funct3 rd rs1 imm f =
    record { small = f.small; fields = rw (f.opcode_is, f.funct3_is, f.rd_is, f.rs1_is, f.imm_is) refl }

holds_shift6 : (w opcode funct3 above rd rs1 : ℕ) (imm : ℤ) → FieldsShift6 w opcode funct3 above rd rs1 imm
    → Holds (FormatShift6 opcode funct3 above rd rs1 imm) w
holds_shift6 w opcode funct3 above rd rs1 imm f =
    record { small = f.small; fields = rw (f.opcode_is, f.funct3_is, f.above_is, f.rd_is, f.rs1_is, f.imm_is) refl }

holds_shift5 : (w opcode funct3 above rd rs1 : ℕ) (imm : ℤ) → FieldsShift5 w opcode funct3 above rd rs1 imm
    → Holds (FormatShift5 opcode funct3 above rd rs1 imm) w
holds_shift5 w opcode funct3 above rd rs1 imm f =
    record { small = f.small; fields = rw (f.opcode_is, f.funct3_is, f.above_is, f.rd_is, f.rs1_is, f.imm_is) refl }

holds_s : (w opcode funct3 rs1 rs2 : ℕ) (imm : ℤ) → FieldsS w opcode funct3 rs1 rs2 imm
    → Holds (FormatS opcode funct3 rs1 rs2 imm) w
holds_s w opcode funct3 rs1 rs2 imm f =
    record { small = f.small; fields = rw (f.opcode_is, f.funct3_is, f.rs1_is, f.rs2_is, f.imm_is) refl }

holds_b : (w opcode funct3 rs1 rs2 : ℕ) (imm : ℤ) → FieldsB w opcode funct3 rs1 rs2 imm
    → Holds (FormatB opcode funct3 rs1 rs2 imm) w
holds_b w opcode funct3 rs1 rs2 imm f =
    record { small = f.small; fields = rw (f.opcode_is, f.funct3_is, f.rs1_is, f.rs2_is, f.imm_is) refl }

holds_u : (w opcode rd : ℕ) (imm : ℤ) → FieldsU w opcode rd imm → Holds (FormatU opcode rd imm) w
holds_u w opcode rd imm f = record { small = f.small; fields = rw (f.opcode_is, f.rd_is, f.imm_is) refl }

holds_j : (w opcode rd : ℕ) (imm : ℤ) → FieldsJ w opcode rd imm → Holds (FormatJ opcode rd imm) w
holds_j w opcode rd imm f = record { small = f.small; fields = rw (f.opcode_is, f.rd_is, f.imm_is) refl }

holds : (format : Format) → CodesFit format → IsInRange format → Holds format (word_in format)
holds (FormatR opcode funct3 funct7 rd rs1 rs2) codes ok =
    holds_r _ _ _ _ _ _ _ (fields_r opcode funct3 funct7 rd rs1 rs2 codes.opcode codes.funct3 codes.above ok.0 ok.1 ok.2)
holds (FormatI opcode funct3 rd rs1 imm) codes ok =
    holds_i _ _ _ _ _ _ (fields_i opcode funct3 rd rs1 imm codes.opcode codes.funct3 ok.0 ok.1 ok.2)
holds (FormatShift6 opcode funct3 above rd rs1 imm) codes ok =
    holds_shift6 _ _ _ _ _ _ _ (fields_shift6 opcode funct3 above rd rs1 imm codes.opcode codes.funct3 codes.above ok.0 ok.1 ok.2)
holds (FormatShift5 opcode funct3 above rd rs1 imm) codes ok =
    holds_shift5 _ _ _ _ _ _ _ (fields_shift5 opcode funct3 above rd rs1 imm codes.opcode codes.funct3 codes.above ok.0 ok.1 ok.2)
holds (FormatS opcode funct3 rs1 rs2 imm) codes ok =
    holds_s _ _ _ _ _ _ (fields_s opcode funct3 rs1 rs2 imm codes.opcode codes.funct3 ok.0 ok.1 ok.2)
holds (FormatB opcode funct3 rs1 rs2 imm) codes ok =
    holds_b _ _ _ _ _ _ (fields_b opcode funct3 rs1 rs2 imm codes.opcode codes.funct3 ok.0 ok.1 ok.2)
holds (FormatU opcode rd imm) codes ok = holds_u _ _ _ _ (fields_u opcode rd imm codes.opcode ok.0 ok.1)
holds (FormatJ opcode rd imm) codes ok = holds_j _ _ _ _ (fields_j opcode rd imm codes.opcode ok.0 ok.1)
holds (FormatWord whole) codes ok = record { small = codes.whole; fields = refl }

row_found : (instr : Instr) (f : Fields) → in_rows rows (over f (format_of instr)) ≡ Some instr
row_found (Lui rd imm) f = refl
row_found instr f = refl

pub word_small : (instr : Instr) → IsValid instr → word_of instr < 2 ^ 32
word_small instr valid = (holds (format_of instr) (codes_fit instr) valid).small

-- the word of a valid instruction is that instruction's
pub of_its_word : (instr : Instr) → IsValid instr → instruction_of (word_of instr) ≡ Some instr
of_its_word instr valid =
    ap (in_rows rows) (holds (format_of instr) (codes_fit instr) valid).fields ∙ row_found instr (fields_of (word_of instr))

-- each valid instruction is read back from the bytes of its word
pub decodes : (instr : Instr) → IsValid instr → Decodes instr
decodes instr valid = ap instruction_of (number_of-low_bytes (word_of instr) (word_small instr valid)) ∙ of_its_word instr valid
