-- What some instructions do at the edges of their ranges.
use Rattle.std.proofs.Common.{◌≡◌, ℕ, ◌-◌, ◌^◌, Bool, false, [], refl}
use Rattle.std.specs.Prelude.{pos, negsuc, nat_eq, nat_lt, if◌then◌else◌}
use Rattle.scheme_base.specs.Outside.{no_calls}
use Rattle.rv_form.specs.declared.instr.Instr.{Instr}
use Rattle.rv_form.specs.declared.instr.Instr.TheVariants.{Jalr, Lb, Lbu, Ld, Sd, Sltiu, Ebreak}
use Rattle.rv_form.specs.Arithmetic.{integer, narrow, high_product, shift_right, shift_signed, divide, remainder, divide_unsigned, remainder_unsigned, shift_left_narrow, shift_right_narrow, shift_signed_narrow}
use Rattle.rv_form.specs.Image.{Executing, Writing, Reading}
use Rattle.rv_form.specs.Machine.{World, State, Run, Running, Ended, Trapped, with_reg, act}

abbrev least : ℕ
least = 2 ^ 63

abbrev all_ones : ℕ
all_ones = 2 ^ 64 - 1

-- division

least_by_minus_one : divide least all_ones ≡ least
least_by_minus_one = refl

least_rest : remainder least all_ones ≡ 0
least_rest = refl

-- -7 by 2 is -3 and leaves -1; 7 by -2 is -3 and leaves 1
rounds_towards_zero : divide (all_ones - 6) 2 ≡ all_ones - 2
rounds_towards_zero = refl

rest_of_negative : remainder (all_ones - 6) 2 ≡ all_ones
rest_of_negative = refl

negative_divisor : divide 7 (all_ones - 1) ≡ all_ones - 2
negative_divisor = refl

rest_by_negative : remainder 7 (all_ones - 1) ≡ 1
rest_by_negative = refl

by_zero : divide 7 0 ≡ all_ones
by_zero = refl

rest_by_zero : remainder 7 0 ≡ 7
rest_by_zero = refl

unsigned_by_zero : divide_unsigned 7 0 ≡ all_ones
unsigned_by_zero = refl

unsigned_rest_by_zero : remainder_unsigned 7 0 ≡ 7
unsigned_rest_by_zero = refl

-- the least number of 32 bits by -1
narrow_least : narrow (divide (narrow (2 ^ 31)) (narrow (2 ^ 32 - 1))) ≡ 2 ^ 64 - 2 ^ 31
narrow_least = refl

narrow_unsigned_by_zero : narrow (divide_unsigned 7 0) ≡ all_ones
narrow_unsigned_by_zero = refl

-- high products of all ones

mulh_ones : high_product (integer all_ones) (integer all_ones) ≡ 0
mulh_ones = refl

mulhsu_ones : high_product (integer all_ones) (pos all_ones) ≡ all_ones
mulhsu_ones = refl

mulhu_ones : high_product (pos all_ones) (pos all_ones) ≡ all_ones - 1
mulhu_ones = refl

mulh_least : high_product (integer least) (integer least) ≡ 2 ^ 62
mulh_least = refl

-- shifts: six bits of an amount, and five of one of the low 32 bits

shifts_by_six_bits : shift_right least 127 ≡ 1
shifts_by_six_bits = refl

shifts_the_sign : shift_signed least 63 ≡ all_ones
shifts_the_sign = refl

narrow_shifts_by_five_bits : shift_left_narrow 1 32 ≡ 1
narrow_shifts_by_five_bits = refl

narrow_shift_extends : shift_left_narrow 1 31 ≡ 2 ^ 64 - 2 ^ 31
narrow_shift_extends = refl

narrow_shift_right : shift_right_narrow all_ones 4 ≡ 2 ^ 28 - 1
narrow_shift_right = refl

narrow_shift_of_nothing : shift_right_narrow all_ones 32 ≡ all_ones
narrow_shift_of_nothing = refl

narrow_shift_signed : shift_signed_narrow (2 ^ 31) 36 ≡ 2 ^ 64 - 2 ^ 27
narrow_shift_signed = refl

-- one step of some instructions

-- bytes below 2^12 may be read, and those below 2^11 written
abbrev world : World
world =
    record {
      allows = λ access a. elim access as (λ x. Bool) [ Executing ↦ false | Writing ↦ nat_lt a 2048 | Reading ↦ nat_lt a 4096 ];
      env = record { input = []; failing = []; err_failing = [] };
    }

-- register 10 holds this, and each byte is 0xff but that at 100, which is 0x80
abbrev with_ten : ℕ → State
with_ten value =
    record {
      pc = 400;
      regs = with_reg (λ r. 0) 10 value;
      memory = λ a. if nat_eq a 100 then 0x80 else 0xff;
      calls = no_calls world.env;
    }

record Seen : Type 0 where
  pc : ℕ
  ten : ℕ
  -- the trap, or 0
  trap : ℕ

abbrev seen : Run → Seen
seen (Running s) = record { pc = s.pc; ten = s.regs 10; trap = 0 }
seen (Ended status calls) = record { pc = 0; ten = 0; trap = 0 }
seen (Trapped kind pc calls) = record { pc = pc; ten = 0; trap = kind }

abbrev acts : Instr → ℕ → Seen
acts instr value = seen (act world instr (with_ten value))

-- the base is read before the link is written, and bit 0 of the target is cleared
jump_by_link : acts (Jalr 10 10 (pos 5)) 100 ≡ record { pc = 104; ten = 404; trap = 0 }
jump_by_link = refl

jump_backwards : acts (Jalr 10 0 (negsuc 3)) 100 ≡ record { pc = 2 ^ 64 - 4; ten = 404; trap = 0 }
jump_backwards = refl

-- the immediate -1 is the greatest number without sign
below_all_ones : acts (Sltiu 10 10 (negsuc 0)) 7 ≡ record { pc = 404; ten = 1; trap = 0 }
below_all_ones = refl

byte_with_sign : acts (Lb 10 10 (pos 0)) 100 ≡ record { pc = 404; ten = 2 ^ 64 - 128; trap = 0 }
byte_with_sign = refl

byte_without_sign : acts (Lbu 10 10 (pos 0)) 100 ≡ record { pc = 404; ten = 128; trap = 0 }
byte_without_sign = refl

unaligned_load : acts (Ld 10 10 (pos 0)) 99 ≡ record { pc = 404; ten = 2 ^ 64 - 1 - 0x7f00; trap = 0 }
unaligned_load = refl

load_over_the_end : acts (Ld 10 10 (pos 0)) 4089 ≡ record { pc = 400; ten = 0; trap = 3 }
load_over_the_end = refl

last_store : acts (Sd 10 10 (pos 0)) 2040 ≡ record { pc = 404; ten = 2040; trap = 0 }
last_store = refl

store_over_the_end : acts (Sd 10 10 (pos 0)) 2041 ≡ record { pc = 400; ten = 0; trap = 4 }
store_over_the_end = refl

breakpoint : acts Ebreak 7 ≡ record { pc = 400; ten = 0; trap = 6 }
breakpoint = refl
