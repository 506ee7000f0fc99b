-- The code of values: of places, of literals, and of what is known without a run.
use Rattle.std.specs.Prelude.{ℕ, ◌+◌, ◌*◌, pos, ◌*ℤ◌, ◌&&◌, if◌then◌else◌, List, slice_get, slice_index, Option, Some, None, Bool, true, false}
use Rattle.scheme_base.specs.declared.lit.Lit.{Lit}
use Rattle.scheme_base.specs.declared.lit.Lit.TheVariants as lit
use Rattle.scheme_base.specs.declared.place.Stated.{Stated}
use Rattle.scheme_base.specs.declared.place.Stated.TheVariants as stated_value
use Rattle.rv_form.specs.declared.instr.Instr.TheVariants as rv
use Rattle.const_data.specs.declared.offsets.Offsets.{Offsets}
use Rattle.const_data.specs.declared.word.Label.{Label}
use Rattle.const_data.specs.declared.word.Label.TheVariants as label
use Rattle.flat_form.specs.declared.program.At.{At}
use Rattle.flat_form.specs.declared.program.At.TheVariants.{Slot, Cell, Kept, Stated as Known}
use Rattle.flat_form.specs.declared.program.Place.{Place}
use Rattle.tail_codegen.specs.Items.{Onto, code, address, number, integer, load, store}

-- the procedure whose code is made: its number, whether it captures, the bytes of its frame; the program's
-- literals, and where its data words stand
pub record Unit : Type 0 where
  pub proc : ℕ
  pub capturing : Bool
  pub frame : ℕ
  pub lits : List Lit
  pub offsets : Offsets

abbrev pub cell_label : Unit → ℕ → Label
cell_label u n = label.Word (u.offsets.cells + n)

-- a descriptor has four words, a static closure one
abbrev pub descriptor_label : Unit → ℕ → Label
descriptor_label u p = label.Word (u.offsets.descriptors + 4 * p)

abbrev pub closure_label : Unit → ℕ → Label
closure_label u p = label.Word (u.offsets.closures + p)

abbrev pub literal_label : Unit → ℕ → Label
literal_label u l = label.Word (slice_index u.offsets.literals l)

abbrev pub slot_offset : ℕ → ℕ
slot_offset slot = 16 + 8 * slot

-- a value that is known without a run
abbrev pub stated : Unit → (reg : ℕ) → Stated → Onto
stated u reg stated_value.False rest = number reg 1 rest
stated u reg stated_value.True rest = number reg 5 rest
stated u reg stated_value.Nil rest = number reg 9 rest
stated u reg stated_value.Unspecified rest = number reg 13 rest
stated u reg stated_value.Eof rest = number reg 17 rest
stated u reg (stated_value.Closure p) rest = address reg (closure_label u p) (pos 3) rest

-- the word of a place as it stands there, and a word put there as it is
abbrev pub get_bare : Unit → (reg : ℕ) → At → Onto
get_bare u reg (Slot slot) rest = load reg 8 (slot_offset slot) rest
get_bare u reg (Cell cell) rest = address 30 (cell_label u cell) (pos 0) (load reg 30 0 rest)
get_bare u reg (Kept kept) rest = load 30 8 16 (load reg 30 (5 + 8 * kept) rest)
get_bare u reg (Known value) rest = stated u reg value rest

abbrev pub put_bare : Unit → (reg : ℕ) → At → Onto
put_bare u reg (Slot slot) rest = store reg 8 (slot_offset slot) rest
put_bare u reg (Cell cell) rest = address 30 (cell_label u cell) (pos 0) (store reg 30 0 rest)
put_bare u reg (Kept kept) rest = rest
put_bare u reg (Known value) rest = rest

abbrev pub has_variable : At → Bool
has_variable (Slot slot) = true
has_variable (Cell cell) = true
has_variable (Kept kept) = false
has_variable (Known value) = false

-- whether a place has a bare integer; what a closure keeps is tagged
abbrev pub is_raw : Place → Bool
is_raw p = p.raw && has_variable p.at

-- whether a place has a variable's value, its own or one that the closure keeps
abbrev pub is_held : At → Bool
is_held (Slot slot) = true
is_held (Cell cell) = true
is_held (Kept kept) = true
is_held (Known value) = false

-- whether a place has the value of a variable that is held as a bare integer where it has a place of its own
abbrev pub is_integer : Place → Bool
is_integer p = p.raw && is_held p.at

-- the value of a place, a value put there, and the bare integer of a place
abbrev pub get : Unit → (reg : ℕ) → Place → Onto
get u reg p rest = get_bare u reg p.at (if is_raw p then code (rv.Slli reg reg (pos 2)) rest else rest)

abbrev pub put : Unit → (reg : ℕ) → Place → Onto
put u reg p rest =
    if is_raw p then code (rv.Srai reg reg (pos 2)) (put_bare u reg p.at rest) else put_bare u reg p.at rest

abbrev pub get_integer : Unit → (reg : ℕ) → Place → Onto
get_integer u reg p rest = get_bare u reg p.at (if is_raw p then rest else code (rv.Srai reg reg (pos 2)) rest)

-- the word of literal l, which is this one
abbrev pub literal : Unit → (reg l : ℕ) → Lit → Onto
literal u reg l (lit.Integer z) rest = integer reg (pos 4 *ℤ z) rest
literal u reg l (lit.Boolean b) rest = number reg (if b then 5 else 1) rest
literal u reg l (lit.Char byte) rest = number reg (29 + 32 * byte) rest
literal u reg l lit.Nil rest = number reg 9 rest
literal u reg l lit.Unspecified rest = number reg 13 rest
literal u reg l lit.Undefined rest = number reg 21 rest
literal u reg l (lit.Symbol name) rest = address reg (literal_label u l) (pos 3) rest
literal u reg l (lit.Text bytes) rest = address reg (literal_label u l) (pos 3) rest
literal u reg l (lit.Pair car cdr) rest = address reg (literal_label u l) (pos 2) rest
literal u reg l (lit.Vector ids) rest = address reg (literal_label u l) (pos 3) rest

-- a literal of a program, put into a place; an integer as a bare one where the place has one
abbrev pub bare_literal : Unit → Place → (l : ℕ) → Lit → Onto
bare_literal u to l (lit.Integer z) rest = integer 10 z (put_bare u 10 to.at rest)
bare_literal u to l value rest = literal u 10 l value (put u 10 to rest)

abbrev pub constant_in : Unit → Place → (l : ℕ) → Option Lit → Onto
constant_in u to l None rest = rest
constant_in u to l (Some value) rest =
    if is_raw to then bare_literal u to l value rest else literal u 10 l value (put u 10 to rest)

abbrev pub constant : Unit → (l : ℕ) → Place → Onto
constant u l to rest = constant_in u to l (slice_get u.lits l) rest

-- a value from a place to another, as a bare integer where both have one
abbrev pub copy : Unit → (from to : Place) → Onto
copy u from to rest =
    if is_raw from && is_raw to
    then get_bare u 10 from.at (put_bare u 10 to.at rest)
    else get u 10 from (put u 10 to rest)
