-- The instruction of a word is valid, and its word is that word: once for each format, and then for each
-- row of the table.
use Rattle.std.proofs.Common.{◌≡◌, ℕ, ◌+◌, ◌*◌, ◌/◌, ◌%◌, ◌<◌, ◌^◌, Bool, true, false, List, [], ◌∷◌, Some, refl, sym, ap, ◌∙◌, subst, arith}
use Rattle.std.specs.Prelude.{unsigned_abs, pos, nat_eq, ◌&&◌, if◌then◌else◌}
use Rattle.std.proofs.lemmas.Int.{ints}
use Rattle.rv_form.specs.declared.instr.Instr.{Instr}
use Rattle.rv_form.specs.Numbers.{low_bytes, low_part, signed}
use Rattle.rv_form.specs.Formats.{Format, FormatR, FormatI, FormatShift6, FormatShift5, FormatS, FormatB, FormatU, FormatJ, FormatWord, Fields, fields_of, word_in, IsInRange, IsWithin, IsAmount, opcode_of, funct3_of, funct7_of, above6_of, rd_of, rs1_of, rs2_of}
use Rattle.rv_form.proofs.Words.{number_of, AllDecode, also}
use Rattle.rv_form.specs.Instruction.{Row, RowR, RowI, RowShift6, RowShift5, RowS, RowB, RowU, RowJ, RowWord, rows, has_row, made_by, in_rows, instruction_of, format_of, word_of, IsValid, AllValid}

-- a field's number as a signed one, back in the field and in its range

low-signed_12 : (n : ℕ) → n < 0x1000 → low_part 0x1000 (signed 0x800 n) ≡ n
low-signed_12 n small = grind arith

low-signed_13 : (n : ℕ) → n < 0x2000 → low_part 0x2000 (signed 0x1000 n) ≡ n
low-signed_13 n small = grind arith

low-signed_20 : (n : ℕ) → n < 0x10_0000 → low_part 0x10_0000 (signed 0x8_0000 n) ≡ n
low-signed_20 n small = grind arith

low-signed_21 : (n : ℕ) → n < 0x20_0000 → low_part 0x20_0000 (signed 0x10_0000 n) ≡ n
low-signed_21 n small = grind arith

within_12 : (n : ℕ) → n < 0x1000 → IsWithin 0x800 (signed 0x800 n)
within_12 n small = record { low = grind (arith, ints); high = grind (arith, ints) }

within_13 : (n : ℕ) → n < 0x2000 → IsWithin 0x1000 (signed 0x1000 n)
within_13 n small = record { low = grind (arith, ints); high = grind (arith, ints) }

within_20 : (n : ℕ) → n < 0x10_0000 → IsWithin 0x8_0000 (signed 0x8_0000 n)
within_20 n small = record { low = grind (arith, ints); high = grind (arith, ints) }

within_21 : (n : ℕ) → n < 0x20_0000 → IsWithin 0x10_0000 (signed 0x10_0000 n)
within_21 n small = record { low = grind (arith, ints); high = grind (arith, ints) }

even_13 : (n : ℕ) → n < 0x2000 → n % 2 ≡ 0 → unsigned_abs (signed 0x1000 n) % 2 ≡ 0
even_13 n small even = grind arith

even_21 : (n : ℕ) → n < 0x20_0000 → n % 2 ≡ 0 → unsigned_abs (signed 0x10_0000 n) % 2 ≡ 0
even_21 n small even = grind arith

-- tests

both_true : (a b : Bool) → (a && b) ≡ true → (a ≡ true) × (b ≡ true)
both_true true true h = (refl, refl)
both_true true false h = cc
both_true false b h = cc

eq_from : (a b : ℕ) → nat_eq a b ≡ true → a ≡ b
eq_from a b h = grind arith

-- the format of what a row makes

abbrev format_by : Row → Fields → Format
format_by (RowR opcode funct3 funct7 make) f = FormatR opcode funct3 funct7 f.rd f.rs1 f.rs2
format_by (RowI opcode funct3 make) f = FormatI opcode funct3 f.rd f.rs1 f.imm_i
format_by (RowShift6 opcode funct3 above make) f = FormatShift6 opcode funct3 above f.rd f.rs1 f.imm_shift6
format_by (RowShift5 opcode funct3 above make) f = FormatShift5 opcode funct3 above f.rd f.rs1 f.imm_shift5
format_by (RowS opcode funct3 make) f = FormatS opcode funct3 f.rs1 f.rs2 f.imm_s
format_by (RowB opcode funct3 make) f = FormatB opcode funct3 f.rs1 f.rs2 f.imm_b
format_by (RowU opcode make) f = FormatU opcode f.rd f.imm_u
format_by (RowJ opcode make) f = FormatJ opcode f.rd f.imm_j
format_by (RowWord whole instr) f = FormatWord whole

-- a format whose word this is
record Fits (w : ℕ) (format : Format) : Type 0 where
  is_word : word_in format ≡ w
  in_range : IsInRange format

amount : (n bound : ℕ) → n < bound → IsAmount bound (pos n)
amount n bound less = record { low = omega (arith, ints); high = omega (arith, ints) }

fits_r : (w opcode funct3 funct7 : ℕ) → w < 2 ^ 32 → opcode_of w ≡ opcode → funct3_of w ≡ funct3 → funct7_of w ≡ funct7
    → Fits w (FormatR opcode funct3 funct7 (rd_of w) (rs1_of w) (rs2_of w))
fits_r w opcode funct3 funct7 small a b c =
    record { is_word = omega arith; in_range = (omega arith, omega arith, omega arith) }

fits_i : (w opcode funct3 : ℕ) → w < 2 ^ 32 → opcode_of w ≡ opcode → funct3_of w ≡ funct3
    → Fits w (FormatI opcode funct3 (rd_of w) (rs1_of w) (fields_of w).imm_i)
fits_i w opcode funct3 small a b =
    let top : w / 0x10_0000 < 0x1000 = omega arith in
    let field : low_part 0x1000 (fields_of w).imm_i ≡ w / 0x10_0000 = low-signed_12 (w / 0x10_0000) top in
    record {
      is_word = rw field (omega arith);
      in_range = (omega arith, omega arith, within_12 (w / 0x10_0000) top);
    }

fits_shift6 : (w opcode funct3 above : ℕ) → w < 2 ^ 32 → opcode_of w ≡ opcode → funct3_of w ≡ funct3 → above6_of w ≡ above
    → Fits w (FormatShift6 opcode funct3 above (rd_of w) (rs1_of w) (fields_of w).imm_shift6)
fits_shift6 w opcode funct3 above small a b c =
    record { is_word = omega arith; in_range = (omega arith, omega arith, amount (w / 0x10_0000 % 64) 64 (omega arith)) }

fits_shift5 : (w opcode funct3 above : ℕ) → w < 2 ^ 32 → opcode_of w ≡ opcode → funct3_of w ≡ funct3 → funct7_of w ≡ above
    → Fits w (FormatShift5 opcode funct3 above (rd_of w) (rs1_of w) (fields_of w).imm_shift5)
fits_shift5 w opcode funct3 above small a b c =
    record { is_word = omega arith; in_range = (omega arith, omega arith, amount (w / 0x10_0000 % 32) 32 (omega arith)) }

fits_s : (w opcode funct3 : ℕ) → w < 2 ^ 32 → opcode_of w ≡ opcode → funct3_of w ≡ funct3
    → Fits w (FormatS opcode funct3 (rs1_of w) (rs2_of w) (fields_of w).imm_s)
fits_s w opcode funct3 small a b =
    let n = w / 0x80 % 32 + 32 * (w / 0x200_0000) in
    let bits : n < 0x1000 = omega arith in
    let field : low_part 0x1000 (fields_of w).imm_s ≡ n = low-signed_12 n bits in
    record {
      is_word = rw field (omega arith);
      in_range = (omega arith, omega arith, within_12 n bits);
    }

fits_b : (w opcode funct3 : ℕ) → w < 2 ^ 32 → opcode_of w ≡ opcode → funct3_of w ≡ funct3
    → Fits w (FormatB opcode funct3 (rs1_of w) (rs2_of w) (fields_of w).imm_b)
fits_b w opcode funct3 small a b =
    let n = 0x800 * (w / 0x80 % 2) + 2 * (w / 0x100 % 16) + 32 * (w / 0x200_0000 % 64) + 0x1000 * (w / 0x8000_0000) in
    let bits : n < 0x2000 = omega arith in
    let field : low_part 0x2000 (fields_of w).imm_b ≡ n = low-signed_13 n bits in
    record {
      is_word = rw field (omega arith);
      in_range = (omega arith, omega arith, record { within = within_13 n bits; even = even_13 n bits (omega arith) });
    }

fits_u : (w opcode : ℕ) → w < 2 ^ 32 → opcode_of w ≡ opcode → Fits w (FormatU opcode (rd_of w) (fields_of w).imm_u)
fits_u w opcode small a =
    let top : w / 0x1000 < 0x10_0000 = omega arith in
    let field : low_part 0x10_0000 (fields_of w).imm_u ≡ w / 0x1000 = low-signed_20 (w / 0x1000) top in
    record { is_word = rw field (omega arith); in_range = (omega arith, within_20 (w / 0x1000) top) }

fits_j : (w opcode : ℕ) → w < 2 ^ 32 → opcode_of w ≡ opcode → Fits w (FormatJ opcode (rd_of w) (fields_of w).imm_j)
fits_j w opcode small a =
    let n = 0x1000 * (w / 0x1000 % 256) + 0x800 * (w / 0x10_0000 % 2) + 2 * (w / 0x20_0000 % 1024) + 0x10_0000 * (w / 0x8000_0000) in
    let bits : n < 0x20_0000 = omega arith in
    let field : low_part 0x20_0000 (fields_of w).imm_j ≡ n = low-signed_21 n bits in
    record {
      is_word = rw field (omega arith);
      in_range = (omega arith, record { within = within_21 n bits; even = even_21 n bits (omega arith) });
    }

-- the three codes, and the two, of a row that a word has
three_codes : (w opcode funct3 n above : ℕ) → (nat_eq (opcode_of w) opcode && (nat_eq (funct3_of w) funct3 && nat_eq n above)) ≡ true
    → (opcode_of w ≡ opcode) × (funct3_of w ≡ funct3) × (n ≡ above)
three_codes w opcode funct3 n above h =
    let first = both_true _ _ h in
    let rest = both_true _ _ first.1 in
    (eq_from _ _ first.0, eq_from _ _ rest.0, eq_from _ _ rest.1)

two_codes : (w opcode funct3 : ℕ) → (nat_eq (opcode_of w) opcode && nat_eq (funct3_of w) funct3) ≡ true
    → (opcode_of w ≡ opcode) × (funct3_of w ≡ funct3)
two_codes w opcode funct3 h = let both = both_true _ _ h in (eq_from _ _ both.0, eq_from _ _ both.1)

row_fits : (row : Row) (w : ℕ) → w < 2 ^ 32 → has_row row (fields_of w) ≡ true → Fits w (format_by row (fields_of w))
row_fits (RowR opcode funct3 funct7 make) w small h =
    let c = three_codes w opcode funct3 (funct7_of w) funct7 h in fits_r w opcode funct3 funct7 small c.0 c.1 c.2
row_fits (RowI opcode funct3 make) w small h = let c = two_codes w opcode funct3 h in fits_i w opcode funct3 small c.0 c.1
row_fits (RowShift6 opcode funct3 above make) w small h =
    let c = three_codes w opcode funct3 (above6_of w) above h in fits_shift6 w opcode funct3 above small c.0 c.1 c.2
row_fits (RowShift5 opcode funct3 above make) w small h =
    let c = three_codes w opcode funct3 (funct7_of w) above h in fits_shift5 w opcode funct3 above small c.0 c.1 c.2
row_fits (RowS opcode funct3 make) w small h = let c = two_codes w opcode funct3 h in fits_s w opcode funct3 small c.0 c.1
row_fits (RowB opcode funct3 make) w small h = let c = two_codes w opcode funct3 h in fits_b w opcode funct3 small c.0 c.1
row_fits (RowU opcode make) w small h = fits_u w opcode small (eq_from _ _ h)
row_fits (RowJ opcode make) w small h = fits_j w opcode small (eq_from _ _ h)
row_fits (RowWord whole instr) w small h = record { is_word = sym (eq_from w whole h); in_range = tt }

-- a row makes instructions of its own format and codes

record Makes (row : Row) : Type 0 where
  made : (f : Fields) → format_of (made_by row f) ≡ format_by row f

data AllMake : List Row → Type 0 where
  all_made : AllMake []
  and_made : {row : Row} {rest : List Row} → Makes row → AllMake rest → AllMake (row ∷ rest)

is_made : {row : Row} → ((f : Fields) → format_of (made_by row f) ≡ format_by row f) → Makes row
is_made h = record { made = h }

infixr 1 ◌$◌
◌$◌ : {A B : Type 0} → (A → B) → A → B
f $ x = f x

rows_make : AllMake rows
rows_make =
    and_made (is_made (λ f. refl)) $ and_made (is_made (λ f. refl)) $ and_made (is_made (λ f. refl)) $ and_made (is_made (λ f. refl))
    $ and_made (is_made (λ f. refl)) $ and_made (is_made (λ f. refl)) $ and_made (is_made (λ f. refl)) $ and_made (is_made (λ f. refl))
    $ and_made (is_made (λ f. refl)) $ and_made (is_made (λ f. refl)) $ and_made (is_made (λ f. refl)) $ and_made (is_made (λ f. refl))
    $ and_made (is_made (λ f. refl)) $ and_made (is_made (λ f. refl)) $ and_made (is_made (λ f. refl)) $ and_made (is_made (λ f. refl))
    $ and_made (is_made (λ f. refl)) $ and_made (is_made (λ f. refl)) $ and_made (is_made (λ f. refl)) $ and_made (is_made (λ f. refl))
    $ and_made (is_made (λ f. refl)) $ and_made (is_made (λ f. refl)) $ and_made (is_made (λ f. refl)) $ and_made (is_made (λ f. refl))
    $ and_made (is_made (λ f. refl)) $ and_made (is_made (λ f. refl)) $ and_made (is_made (λ f. refl)) $ and_made (is_made (λ f. refl))
    $ and_made (is_made (λ f. refl)) $ and_made (is_made (λ f. refl)) $ and_made (is_made (λ f. refl)) $ and_made (is_made (λ f. refl))
    $ and_made (is_made (λ f. refl)) $ and_made (is_made (λ f. refl)) $ and_made (is_made (λ f. refl)) $ and_made (is_made (λ f. refl))
    $ and_made (is_made (λ f. refl)) $ and_made (is_made (λ f. refl)) $ and_made (is_made (λ f. refl)) $ and_made (is_made (λ f. refl))
    $ and_made (is_made (λ f. refl)) $ and_made (is_made (λ f. refl)) $ and_made (is_made (λ f. refl)) $ and_made (is_made (λ f. refl))
    $ and_made (is_made (λ f. refl)) $ and_made (is_made (λ f. refl)) $ and_made (is_made (λ f. refl)) $ and_made (is_made (λ f. refl))
    $ and_made (is_made (λ f. refl)) $ and_made (is_made (λ f. refl)) $ and_made (is_made (λ f. refl)) $ and_made (is_made (λ f. refl))
    $ and_made (is_made (λ f. refl)) $ and_made (is_made (λ f. refl)) $ and_made (is_made (λ f. refl)) $ and_made (is_made (λ f. refl))
    $ and_made (is_made (λ f. refl)) $ and_made (is_made (λ f. refl)) $ and_made (is_made (λ f. refl)) $ and_made (is_made (λ f. refl))
    $ and_made (is_made (λ f. refl)) $ and_made (is_made (λ f. refl)) $ and_made (is_made (λ f. refl)) $ and_made (is_made (λ f. refl))
    $ and_made (is_made (λ f. refl))
    $ all_made

instr_fits : (row : Row) (w : ℕ) (instr : Instr) → Makes row → w < 2 ^ 32 → has_row row (fields_of w) ≡ true
    → made_by row (fields_of w) ≡ instr → Fits w (format_of instr)
instr_fits row w instr makes small h e =
    subst (Fits w) (sym (makes.made (fields_of w)) ∙ ap format_of e) (row_fits row w small h)

first_fits : (row : Row) (rest : List Row) (w : ℕ) (instr : Instr) → Makes row → w < 2 ^ 32
    → (in_rows rest (fields_of w) ≡ Some instr → Fits w (format_of instr))
    → (has : Bool) → has_row row (fields_of w) ≡ has
    → (if has then Some (made_by row (fields_of w)) else in_rows rest (fields_of w)) ≡ Some instr → Fits w (format_of instr)
first_fits row rest w instr makes small later true h found =
    let e : made_by row (fields_of w) ≡ instr = cc in
    instr_fits row w instr makes small h e
first_fits row rest w instr makes small later false h found = later found

rows_fit : (table : List Row) → AllMake table → (w : ℕ) (instr : Instr) → w < 2 ^ 32
    → in_rows table (fields_of w) ≡ Some instr → Fits w (format_of instr)
rows_fit [] all w instr small found = cc
rows_fit (row ∷ rest) (and_made makes more) w instr small found =
    first_fits row rest w instr makes small (rows_fit rest more w instr small) (has_row row (fields_of w)) refl found

pub valid_from_word : (w : ℕ) (instr : Instr) → w < 2 ^ 32 → instruction_of w ≡ Some instr → IsValid instr
valid_from_word w instr small found = (rows_fit rows rows_make w instr small found).in_range

pub word_from_word : (w : ℕ) (instr : Instr) → w < 2 ^ 32 → instruction_of w ≡ Some instr → word_of instr ≡ w
word_from_word w instr small found = (rows_fit rows rows_make w instr small found).is_word

-- code whose words are read back is valid

number_small : (w : ℕ) → number_of (low_bytes 4 w) < 2 ^ 32
number_small w = omega arith

pub all_valid : (code : List Instr) → AllDecode code → AllValid code
all_valid [] all = tt
all_valid (instr ∷ rest) (also decodes more) =
    (valid_from_word (number_of (low_bytes 4 (word_of instr))) instr (number_small (word_of instr)) decodes, all_valid rest more)
