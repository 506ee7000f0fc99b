-- The code of steps, blocks and procedures.
use Rattle.std.specs.Prelude.{ℕ, suc, ◌+◌, ◌*◌, ℤ, pos, negsuc, ◌&&◌, not, if◌then◌else◌, List, [], ◌∷◌, length, Option, Some, None, Bool, true, false, nat_eq}
use Rattle.scheme_base.specs.declared.error.ErrKind.{ErrKind}
use Rattle.scheme_base.specs.declared.error.ErrKind.TheVariants.{Unbound, Overflow, ZeroDivisor, Undefined}
use Rattle.scheme_base.specs.declared.op.Op.{Op}
use Rattle.scheme_base.specs.declared.op.Op.TheVariants as op
use Rattle.scheme_base.specs.declared.place.Mark.{Mark}
use Rattle.scheme_base.specs.declared.place.Stated.TheVariants.{Unspecified}
use Rattle.scheme_base.specs.declared.pos.Pos.{Pos}
use Rattle.rv_form.specs.declared.instr.Instr.TheVariants as rv
use Rattle.const_data.specs.declared.word.Label.{Label}
use Rattle.const_data.specs.declared.word.Label.TheVariants as label
use Rattle.rv_asm.specs.declared.routine.Routine.{Routine}
use Rattle.rv_asm.specs.declared.routine.Routine.TheVariants as routine
use Rattle.rv_asm.specs.Routines.{label_of}
use Rattle.flat_form.specs.declared.program.At.TheVariants.{Stated as Known}
use Rattle.flat_form.specs.declared.program.Made.{Made}
use Rattle.flat_form.specs.declared.program.Mode.{Mode}
use Rattle.flat_form.specs.declared.program.Mode.TheVariants.{Stack, StackTail, Record, RecordTail, Enter}
use Rattle.flat_form.specs.declared.program.Place.{Place}
use Rattle.flat_form.specs.FlatCode.{Known as StepKnown, Part, Procedure, Code, Ends, Then, Act, Const, Copy, Prim, Call, Apply, CallCC, If, Closure, Fix, MakeBox, MakeHole, Unbox, SetBox, TopGet, TopSet, TopDefine, Present, Absent}
use Rattle.tail_codegen.specs.Items.{Text, Onto, code, here, address, go, perform, perform_aside, fail, add_small, add, number, position, load, store}
use Rattle.tail_codegen.specs.Values.{Unit, descriptor_label, closure_label, cell_label, get, put, get_integer, put_bare, is_integer, is_raw, constant, copy}

-- what the templates know of a step: the position that its errors name, and whether its checks of types and
-- counts stand
pub record Spot : Type 0 where
  pub pos : Pos
  pub checked : Bool

abbrev pub inner : Unit → ℕ → Label
inner u n = label.Inner u.proc n

-- Calls

-- operands put into the argument words from an offset on
abbrev pub operands_from : Unit → (offset : ℕ) → List Place → Onto
operands_from u offset [] rest = rest
operands_from u offset (p ∷ ps) rest = get u 10 p (store 10 19 offset (operands_from u (offset + 8) ps rest))

-- the frame ends: the return address and the caller's frame come back
abbrev pub leave : Onto
leave rest = load 1 8 0 (add_small 9 8 (pos 0) (load 8 8 8 rest))

abbrev pub jump_register : (reg : ℕ) → Onto
jump_register reg rest = code (rv.Jalr 0 reg (pos 0)) rest

abbrev pub give_back : Unit → Place → Onto
give_back u value rest =
    get u 10 value
    (if u.capturing
    then load 8 8 8 (load 5 8 0 (jump_register 5 rest))
    else leave (jump_register 1 rest))

-- a jump to another part of the procedure, in the same frame
abbrev pub enter : Unit → (part : ℕ) → Onto
enter u part rest = number 30 u.frame (add 9 8 30 (go (label.Entry u.proc part false) rest))

-- a call from a frame that is moved into a record, and made anew at the return
abbrev pub recorded : Unit → (back : Label) → Routine → Onto
recorded u back r rest =
    address 1 back (pos 0)
    (number 15 u.frame (perform_aside routine.Save (go (label_of r)
    (here back (number 15 u.frame (perform_aside routine.Restore rest))))))

-- the call of a routine that enters a procedure
abbrev pub in_mode : Unit → (n : ℕ) → Routine → Mode → (to : Place) → Onto
in_mode u n r Stack to rest = perform r (put u 10 to rest)
in_mode u n r StackTail to rest = leave (go (label_of r) rest)
in_mode u n r Record to rest = recorded u (inner u n) r (put u 10 to rest)
in_mode u n r RecordTail to rest = load 8 8 8 (add_small 9 20 (pos 0) (go (label_of r) rest))
in_mode u n r (Enter part) to rest = enter u part rest

-- what a procedure call does behind its operands
abbrev pub call_in : Unit → (n : ℕ) → Spot → (operator : Place) → (count : ℕ) → Mode → (to : Place) → Onto
call_in u n k operator count (Enter part) to rest = enter u part rest
call_in u n k operator count mode to rest =
    get u 10 operator
    (number 11 count (position k.pos (in_mode u n (routine.Call k.checked) mode to rest)))

abbrev pub call : Unit → (n : ℕ) → Spot → (operator : Place) → List Place → Mode → (to : Place) → Onto
call u n k operator ps mode to rest = operands_from u 0 ps (call_in u n k operator (length ps) mode to rest)

abbrev pub call_with_list : Unit → (n : ℕ) → Spot → (operator list : Place) → Mode → (to : Place) → Onto
call_with_list u n k operator list mode to rest =
    get u 10 operator (get u 13 list (position k.pos (in_mode u n routine.Apply mode to rest)))

abbrev pub call_with_continuation : Unit → (n : ℕ) → Spot → (operator : Place) → Mode → (to : Place) → Onto
call_with_continuation u n k operator mode to rest =
    get u 10 operator (position k.pos (in_mode u n (routine.CallCC k.checked) mode to rest))

-- how many inner labels a call has
abbrev pub labels_of_mode : Mode → ℕ
labels_of_mode Record = 1
labels_of_mode m = 0

-- Closures and boxes

-- room for a closure with the address of its procedure's descriptor
abbrev pub empty_closure : Unit → Made → Mark → Onto
empty_closure u m mark rest =
    number 10 (8 * (1 + length m.kept))
    (perform (routine.New mark) (address 11 (descriptor_label u m.proc) (pos 0) (store 11 10 0 rest)))

-- values put into words, the first at an offset from register 10
abbrev pub keep : Unit → List Place → (offset : ℕ) → Onto
keep u [] offset rest = rest
keep u (p ∷ ps) offset rest = get u 11 p (store 11 10 offset (keep u ps (offset + 8) rest))

abbrev pub static_closure : Unit → Made → Onto
static_closure u m rest = address 10 (closure_label u m.proc) (pos 3) rest

abbrev pub made_in : Unit → Made → Option Mark → Onto
made_in u m None rest = static_closure u m rest
made_in u m (Some mark) rest = empty_closure u m mark (keep u m.kept 8 (add_small 10 10 (pos 3) rest))

abbrev pub closure : Unit → Made → (to : Place) → Onto
closure u m to rest = made_in u m m.mark (put u 10 to rest)

abbrev pub empty_in : Unit → Made → Option Mark → Onto
empty_in u m None rest = static_closure u m rest
empty_in u m (Some mark) rest = empty_closure u m mark (add_small 10 10 (pos 3) rest)

-- closures that know each other: first all of them, then what each keeps
abbrev pub empty_closures : Unit → List Made → (to : List Place) → Onto
empty_closures u (m ∷ ms) (to ∷ tos) rest = empty_in u m m.mark (put u 10 to (empty_closures u ms tos rest))
empty_closures u ms tos rest = rest

abbrev pub filled : Unit → (kept : List Place) → (to : Place) → Onto
filled u [] to rest = rest
filled u (p ∷ ps) to rest = get u 10 to (keep u (p ∷ ps) 5 rest)

abbrev pub fill_closures : Unit → List Made → (to : List Place) → Onto
fill_closures u (m ∷ ms) (to ∷ tos) rest = filled u m.kept to (fill_closures u ms tos rest)
fill_closures u ms tos rest = rest

abbrev pub fix : Unit → List Made → (to : List Place) → Onto
fix u ms tos rest = empty_closures u ms tos (fill_closures u ms tos rest)

abbrev pub new_box : Mark → Onto
new_box mark rest = number 10 8 (perform (routine.New mark) rest)

abbrev pub full_box : Unit → (from : Place) → Mark → (to : Place) → Onto
full_box u from mark to rest = new_box mark (get u 11 from (store 11 10 0 (put u 10 to rest)))

abbrev pub empty_box : Unit → Mark → (to : Place) → Onto
empty_box u mark to rest = new_box mark (number 11 21 (store 11 10 0 (put u 10 to rest)))

-- Variables

abbrev pub unspecified : Unit → (to : Place) → Onto
unspecified u to rest = number 10 13 (put u 10 to rest)

-- an error where register 10 has the word that stands for no value
abbrev pub refuse_word : (word : ℕ) → ErrKind → Onto
refuse_word word kind rest = number 11 word (code (rv.Bne 10 11 (pos 12)) (fail kind rest))

abbrev pub check_word : Bool → Spot → (word : ℕ) → ErrKind → Onto
check_word checked k word kind rest = if checked then position k.pos (refuse_word word kind rest) else rest

abbrev pub unbox : Unit → Spot → (boxed : Place) → (checked : Bool) → (to : Place) → Onto
unbox u k boxed checked to rest =
    get u 10 boxed (load 10 10 0 (check_word checked k 21 Undefined (put u 10 to rest)))

abbrev pub set_box : Unit → (boxed from to : Place) → Onto
set_box u boxed from to rest = get u 10 from (get u 11 boxed (store 10 11 0 (unspecified u to rest)))

abbrev pub top_value : Unit → Spot → (top : ℕ) → (checked : Bool) → Onto
top_value u k top checked rest =
    address 30 (cell_label u top) (pos 0) (load 10 30 0 (check_word checked k 25 Unbound rest))

abbrev pub top_get : Unit → Spot → (top : ℕ) → (checked : Bool) → (to : Place) → Onto
top_get u k top checked to rest = top_value u k top checked (put u 10 to rest)

abbrev pub top_define : Unit → (top : ℕ) → (from to : Place) → Onto
top_define u top from to rest =
    get u 10 from (address 30 (cell_label u top) (pos 0) (store 10 30 0 (unspecified u to rest)))

abbrev pub top_set : Unit → Spot → (top : ℕ) → (from : Place) → (checked : Bool) → (to : Place) → Onto
top_set u k top from checked to rest =
    if checked
    then top_value u k top true (top_define u top from to rest)
    else top_define u top from to rest

-- Operations

abbrev pub load_operands : Unit → List Place → Onto
load_operands u [] rest = rest
load_operands u (p ∷ []) rest = get u 10 p rest
load_operands u (p ∷ q ∷ []) rest = get u 10 p (get u 11 q rest)
load_operands u (p ∷ q ∷ r ∷ more) rest = get u 10 p (get u 11 q (get u 12 r rest))

-- an operation by its routine
abbrev pub by_routine : Unit → Spot → Op → List Place → Option Mark → (to : Place) → Onto
by_routine u k o ps mark to rest =
    load_operands u ps (position k.pos (perform (routine.Operation o k.checked mark) (put u 10 to rest)))

-- error 6 where register 10 has an integer of more than 62 bits
abbrev pub in_range : Onto
in_range rest =
    code (rv.Slli 11 10 (pos 2)) (code (rv.Srai 11 11 (pos 2)) (code (rv.Beq 10 11 (pos 12)) (fail Overflow rest)))

-- error 7 where register 11 has zero
abbrev pub not_zero : Onto
not_zero rest = code (rv.Bne 11 0 (pos 12)) (fail ZeroDivisor rest)

abbrev pub truth : Onto
truth rest = code (rv.Slli 10 10 (pos 2)) (code (rv.Addi 10 10 (pos 1)) rest)

-- the product, with error 6 where it has more than 64 bits
abbrev pub product : Onto
product rest =
    code (rv.Mulh 12 10 11)
    (code (rv.Mul 10 10 11) (code (rv.Srai 11 10 (pos 63)) (code (rv.Beq 11 12 (pos 12)) (fail Overflow rest))))

-- the divisor added to a remainder whose sign is another
abbrev pub toward_divisor : Onto
toward_divisor rest =
    code (rv.Beq 10 0 (pos 16)) (code (rv.Xor 12 10 11) (code (rv.Bge 12 0 (pos 8)) (code (rv.Add 10 10 11) rest)))

-- the arithmetic of bare integers in registers 10 and 11
abbrev pub arithmetic : Op → Onto
arithmetic op.Subtract rest = code (rv.Sub 10 10 11) (in_range rest)
arithmetic op.Multiply rest = product (in_range rest)
arithmetic op.Quotient rest = not_zero (code (rv.Div 10 10 11) (in_range rest))
arithmetic op.Remainder rest = not_zero (code (rv.Rem 10 10 11) rest)
arithmetic op.Modulo rest = not_zero (code (rv.Rem 10 10 11) (toward_divisor rest))
arithmetic o rest = code (rv.Add 10 10 11) (in_range rest)

-- the operations of two integers that are made in place; `raw` tells that the answer is held as a bare one
abbrev pub on_integers : Op → (raw : Bool) → Bool
on_integers op.Add raw = raw
on_integers op.Subtract raw = raw
on_integers op.Multiply raw = raw
on_integers op.Quotient raw = raw
on_integers op.Remainder raw = raw
on_integers op.Modulo raw = raw
on_integers op.Equals raw = true
on_integers op.Less raw = true
on_integers o raw = false

abbrev pub by_integers : Unit → Op → (to : Place) → Onto
by_integers u op.Equals to rest =
    code (rv.Xor 10 10 11) (code (rv.Sltiu 10 10 (pos 1)) (truth (put u 10 to rest)))
by_integers u op.Less to rest = code (rv.Slt 10 10 11) (truth (put u 10 to rest))
by_integers u o to rest = arithmetic o (put_bare u 10 to.at rest)

abbrev pub on_raw : Unit → Spot → Op → (first second to : Place) → Onto
on_raw u k o first second to rest =
    get_integer u 10 first (get_integer u 11 second (position k.pos (by_integers u o to rest)))

abbrev pub operation : Unit → Spot → Op → List Place → Option Mark → (to : Place) → Onto
operation u k o (p ∷ q ∷ []) mark to rest =
    if is_integer p && is_integer q && on_integers o (is_raw to)
    then on_raw u k o p q to rest
    else by_routine u k o (p ∷ q ∷ []) mark to rest
operation u k o ps mark to rest = by_routine u k o ps mark to rest

-- Blocks

-- what becomes of a block's value
pub data End : Type 0 where
  Return : End
  Goes : Place → End
  Finish : End

abbrev pub finish : Onto
finish rest = go (label_of routine.Finish) rest

abbrev pub close : Unit → Option Place → End → Onto
close u (Some value) Return rest = give_back u value rest
close u (Some value) (Goes to) rest = get u 10 value (put u 10 to rest)
close u value end rest = finish rest

-- whether a call does not come back to its caller
abbrev pub leaves : Mode → Bool
leaves Stack = false
leaves Record = false
leaves m = true

-- whether nothing comes after a step: a tail call, or a choice in tail position
abbrev pub ends : Act → Bool
ends (Call operator operands mode) = leaves mode
ends (Apply operator list mode) = leaves mode
ends (CallCC operator mode) = leaves mode
ends (If test tail this that) = tail
ends a = false

abbrev pub first_place : List Place → Place
first_place [] = record { at = Known Unspecified; raw = false }
first_place (p ∷ ps) = p

abbrev mutual
  -- the inner labels of a block's code
  pub labels_in : Code → ℕ
  labels_in (Ends value) = 0
  labels_in (Then k to a rest) = (if k.reached then labels_of a else 0) + labels_in rest

  pub labels_of : Act → ℕ
  labels_of (Call operator operands mode) = labels_of_mode mode
  labels_of (Apply operator list mode) = labels_of_mode mode
  labels_of (CallCC operator mode) = labels_of_mode mode
  labels_of (If test tail (Present this) (Present that)) = 2 + labels_in this + labels_in that
  labels_of (If test tail (Present this) Absent) = labels_in this
  labels_of (If test tail Absent (Present that)) = labels_in that
  labels_of a = 0

abbrev pub spot_of : StepKnown → Spot
spot_of k = record { pos = k.pos; checked = k.checked }

-- the jump to the second arm of a choice, unless its test has a true value
abbrev pub choose : Unit → (test : Place) → (other : Label) → Onto
choose u test other rest = get u 10 test (number 11 1 (code (rv.Bne 10 11 (pos 12)) (go other rest)))

abbrev pub arm_end : (tail : Bool) → (to : Place) → End
arm_end tail to = if tail then Return else Goes to

abbrev mutual
  -- a block whose inner labels are numbered from n; `goes_on` tells that the step before it goes on
  pub block : Unit → (n : ℕ) → (goes_on : Bool) → Code → End → Onto
  block u n goes_on (Ends value) end rest = if goes_on then close u value end rest else rest
  block u n goes_on (Then k to a more) end rest =
      if k.reached
      then step u n (spot_of k) to a (block u (n + labels_of a) (not (ends a)) more end rest)
      else block u n true more end rest

  -- a step that is reached
  pub step : Unit → (n : ℕ) → Spot → (to : List Place) → Act → Onto
  step u n k to (Const l) rest = constant u l (first_place to) rest
  step u n k to (Copy from) rest = copy u from (first_place to) rest
  step u n k to (Prim o ps mark) rest = operation u k o ps mark (first_place to) rest
  step u n k to (Call operator ps mode) rest = call u n k operator ps mode (first_place to) rest
  step u n k to (Apply operator list mode) rest = call_with_list u n k operator list mode (first_place to) rest
  step u n k to (CallCC operator mode) rest = call_with_continuation u n k operator mode (first_place to) rest
  step u n k to (If test tail (Present this) (Present that)) rest =
      choose u test (inner u n)
      (block u (2 + n) true this (arm_end tail (first_place to))
      (go (inner u (suc n))
      (here (inner u n)
      (block u (2 + n + labels_in this) true that (arm_end tail (first_place to)) (here (inner u (suc n)) rest)))))
  step u n k to (If test tail (Present this) Absent) rest =
      block u n true this (arm_end tail (first_place to)) rest
  step u n k to (If test tail Absent (Present that)) rest =
      block u n true that (arm_end tail (first_place to)) rest
  step u n k to (If test tail Absent Absent) rest = rest
  step u n k to (Closure m) rest = closure u m (first_place to) rest
  step u n k to (Fix ms) rest = fix u ms to rest
  step u n k to (MakeBox from mark) rest = full_box u from mark (first_place to) rest
  step u n k to (MakeHole mark) rest = empty_box u mark (first_place to) rest
  step u n k to (Unbox boxed checked) rest = unbox u k boxed checked (first_place to) rest
  step u n k to (SetBox boxed from) rest = set_box u boxed from (first_place to) rest
  step u n k to (TopGet top checked) rest = top_get u k top checked (first_place to) rest
  step u n k to (TopSet top from checked) rest = top_set u k top from checked (first_place to) rest
  step u n k to (TopDefine top from) rest = top_define u top from (first_place to) rest

-- Procedures

-- the stop for storage where there is no room for a frame; register 6 has its bytes
abbrev pub room_for_frame : Unit → Onto
room_for_frame u rest =
    code (rv.Sub 5 18 9)
    (number 6 u.frame (code (rv.Bgeu 5 6 (pos 12)) (go (label_of routine.Storage) rest)))

-- a new frame, with the return address, the caller's frame and the closure
abbrev pub new_frame : Unit → Onto
new_frame u rest =
    room_for_frame u (store 1 9 0 (store 8 9 8 (add_small 8 9 (pos 0) (add 9 9 6 (store 10 8 16 rest)))))

-- the argument words from an offset on put into the parameters' places
abbrev pub take_arguments : Unit → (offset : ℕ) → List Place → Onto
take_arguments u offset [] rest = rest
take_arguments u offset (p ∷ ps) rest = load 12 19 offset (put u 12 p (take_arguments u (offset + 8) ps rest))

-- the word of the pair in register 13 at an offset from its tagged address
abbrev pub item : (rd : ℕ) → ℤ → Onto
item rd imm rest = code (rv.Ld rd 13 imm) rest

-- the first items of the list in register 13 put into the parameters' places
abbrev pub take_items : Unit → List Place → Onto
take_items u [] rest = rest
take_items u (p ∷ ps) rest = item 12 (negsuc 1) (put u 12 p (item 13 (pos 6) (take_items u ps rest)))

abbrev pub rest_of_arguments : Unit → (count : ℕ) → Mark → Option Place → Onto
rest_of_arguments u count mark None rest = rest
rest_of_arguments u count mark (Some to) rest = number 12 count (perform (routine.Rest mark) (put u 10 to rest))

abbrev pub rest_of_items : Unit → Mark → Option Place → Onto
rest_of_items u mark None rest = rest
rest_of_items u mark (Some to) rest = perform (routine.Copy mark) (put u 10 to rest)

abbrev pub body_label : Unit → (part : ℕ) → Label
body_label u part = label.Body u.proc part

-- the entry with the operands in the argument words
abbrev pub first_entry : Unit → Part → Onto
first_entry u p rest =
    here (label.Entry u.proc 0 false)
    (new_frame u
    (take_arguments u 0 p.params
    (rest_of_arguments u (length p.params) p.rest_mark p.rest (go (body_label u 0) rest))))

-- the entry with the operands in a list, which the program itself has not
abbrev pub list_entry : Unit → Part → Onto
list_entry u p rest =
    here (label.Entry u.proc 0 true)
    (new_frame u (take_items u p.params (rest_of_items u p.rest_mark p.rest (go (body_label u 0) rest))))

abbrev pub entries : Unit → Part → Onto
entries u p rest = first_entry u p (if nat_eq u.proc 0 then rest else list_entry u p rest)

abbrev pub body_end : Unit → End
body_end u = if nat_eq u.proc 0 then Finish else Return

-- the body of a part, whose inner labels are numbered from n
abbrev pub body : Unit → (n part : ℕ) → Part → Onto
body u n part p rest = here (body_label u part) (block u n true p.body (body_end u) rest)

-- the parts from the second one on: each has the frame that is there
abbrev pub inner_parts : Unit → (n part : ℕ) → List Part → Onto
inner_parts u n part [] rest = rest
inner_parts u n part (p ∷ ps) rest =
    here (label.Entry u.proc part false)
    (take_arguments u 0 p.params (body u n part p (inner_parts u (n + labels_in p.body) (part + 1) ps rest)))

abbrev pub parts : Unit → List Part → Onto
parts u [] rest = rest
parts u (p ∷ ps) rest = entries u p (body u 0 0 p (inner_parts u (labels_in p.body) 1 ps rest))

-- the code of a procedure
abbrev pub procedure : Unit → Procedure → Text
procedure u p = parts u p.parts []
