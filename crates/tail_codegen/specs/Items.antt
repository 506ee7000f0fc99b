-- Items of code, each with the items behind it as its last argument.
use Rattle.std.specs.Prelude.{◌≡◌, ℕ, ◌+◌, ◌*◌, ◌^◌, ℤ, pos, negsuc, int_le, nat_lt, ◌&&◌, if◌then◌else◌, List, ◌∷◌, ◌++◌, Bool}
use Rattle.scheme_base.specs.declared.error.ErrKind.{ErrKind}
use Rattle.scheme_base.specs.declared.pos.Pos.{Pos}
use Rattle.rv_form.specs.declared.instr.Instr.{Instr}
use Rattle.rv_form.specs.declared.instr.Instr.TheVariants as rv
use Rattle.rv_form.specs.Numbers.{word}
use Rattle.const_data.specs.declared.word.Label.{Label}
use Rattle.rv_asm.specs.declared.item.AsmItem.{AsmItem}
use Rattle.rv_asm.specs.declared.item.AsmItem.TheVariants as asm
use Rattle.rv_asm.specs.declared.routine.Routine.{Routine}
use Rattle.rv_asm.specs.declared.routine.Routine.TheVariants as routine
use Rattle.rv_asm.specs.Routines.{label_of}

abbrev pub Text : Type 0
Text = List AsmItem

-- what stands before other code
abbrev pub Onto : Type 0
Onto = Text → Text

-- code that was `before` and is `after` had these items put at its end
abbrev pub Puts : (before after : Text) → Onto → Type 0
Puts before after items = (rest : Text) → after ++ rest ≡ before ++ items rest

abbrev pub item : AsmItem → Onto
item i rest = i ∷ rest

abbrev pub code : Instr → Onto
code i rest = asm.Code i ∷ rest

abbrev pub here : Label → Onto
here label rest = asm.Here label ∷ rest

abbrev pub address : (reg : ℕ) → Label → (more : ℤ) → Onto
address reg label more rest = asm.Address reg label more ∷ rest

abbrev pub jump : (link : ℕ) → Label → Onto
jump link label rest = asm.Jump link label ∷ rest

-- a jump for good
abbrev pub go : Label → Onto
go label rest = jump 0 label rest

-- the call of a routine, and that of one which leaves register 1 as it is
abbrev pub perform : Routine → Onto
perform r rest = jump 1 (label_of r) rest

abbrev pub perform_aside : Routine → Onto
perform_aside r rest = jump 28 (label_of r) rest

-- the end of a run by an error
abbrev pub fail : ErrKind → Onto
fail kind rest = go (label_of (routine.Error kind)) rest

abbrev pub add_small : (rd rs1 : ℕ) → ℤ → Onto
add_small rd rs1 imm rest = code (rv.Addi rd rs1 imm) rest

abbrev pub add : (rd rs1 rs2 : ℕ) → Onto
add rd rs1 rs2 rest = code (rv.Add rd rs1 rs2) rest

-- a number, from the pool where it is too large for an instruction
abbrev pub number : (reg n : ℕ) → Onto
number reg n rest = if nat_lt n 2048 then add_small reg 0 (pos n) rest else asm.Pool reg n ∷ rest

abbrev pub is_small : ℤ → Bool
is_small z = int_le (negsuc 2047) z && int_le z (pos 2047)

abbrev pub integer : (reg : ℕ) → ℤ → Onto
integer reg z rest = if is_small z then add_small reg 0 z rest else asm.Pool reg (word z) ∷ rest

-- the position that an error names, in register 16
abbrev pub position : Pos → Onto
position p rest = number 16 (p.line * 2 ^ 32 + p.col) rest

-- the word at an offset from a register, and a register put there
abbrev pub load : (rd base offset : ℕ) → Onto
load rd base offset rest =
    if nat_lt offset 2048
    then code (rv.Ld rd base (pos offset)) rest
    else number 29 offset (add 29 29 base (code (rv.Ld rd 29 (pos 0)) rest))

abbrev pub store : (from base offset : ℕ) → Onto
store from base offset rest =
    if nat_lt offset 2048
    then code (rv.Sd base from (pos offset)) rest
    else number 29 offset (add 29 29 base (code (rv.Sd 29 from (pos 0)) rest))
