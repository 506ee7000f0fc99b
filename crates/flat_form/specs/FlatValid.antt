-- Valid flat programs, as a test of the text.
use Rattle.std.specs.Prelude.{ℕ, suc, ◌+◌, nat_eq, nat_lt, nat_le, ◌&&◌, ◌||◌, List, [], ◌∷◌, length, slice_get, Option, Some, None, is_some, is_none, Bool, true, false, not, IsTrue}
use Rattle.std.specs.List.{list_all}
use Rattle.scheme_base.specs.declared.op.Op.{Op}
use Rattle.scheme_base.specs.declared.op.Op.TheVariants as op
use Rattle.scheme_base.specs.declared.place.Stated.{Stated}
use Rattle.scheme_base.specs.declared.place.Stated.TheVariants as stated
use Rattle.scheme_base.specs.Operands.{operands_of}
use Rattle.scheme_base.specs.Operations.{item_or}
use Rattle.flat_form.specs.declared.program.At.{At}
use Rattle.flat_form.specs.declared.program.At.TheVariants as at
use Rattle.flat_form.specs.declared.program.Made.{Made}
use Rattle.flat_form.specs.declared.program.Mode.{Mode}
use Rattle.flat_form.specs.declared.program.Mode.TheVariants as mode
use Rattle.flat_form.specs.declared.program.Place.{Place}
use Rattle.flat_form.specs.FlatCode.{Code, Ends, Then, Act, Const, Copy, Prim, Call, Apply, CallCC, If, Closure, Fix, MakeBox, MakeHole, Unbox, SetBox, TopGet, TopSet, TopDefine, Arm, Absent, Present, Part, Procedure, Program}

-- what the places of a procedure are looked at with: the program, how many values the closures of each
-- procedure keep, and whether they are made by steps
pub record Scope : Type 0 where
  pub program : Program
  pub keeps : List ℕ
  pub made : List Bool
  pub proc : ℕ
  pub procedure : Procedure

-- Places

abbrev pub states_procedure : Program → Stated → Bool
states_procedure p (stated.Closure q) = nat_lt q (length p.procs)
states_procedure p s = true

-- what is written is a slot from 1 on, the cell of a variable that is no top-level one, or nothing
abbrev pub is_written : Scope → Place → Bool
is_written σ place = by_at place.at
  where
    by_at : At → Bool
    by_at (at.Slot n) = nat_lt 0 n && nat_lt n σ.procedure.slots
    by_at (at.Cell n) =
        nat_le σ.program.cells.tops n && nat_lt n (σ.program.cells.tops + σ.program.cells.globals)
    by_at (at.Kept j) = false
    by_at (at.Stated s) = states_procedure σ.program s

abbrev pub is_read : Scope → Place → Bool
is_read σ place = is_written σ place || is_kept place.at
  where
    is_kept : At → Bool
    is_kept (at.Kept j) = nat_lt j (item_or 0 (slice_get σ.keeps σ.proc))
    is_kept other = false

abbrev pub is_read_if : Scope → Option Place → Bool
is_read_if σ None = true
is_read_if σ (Some place) = is_read σ place

-- Steps

-- whether an operation makes an object
abbrev pub makes : Op → Bool
makes op.Cons = true
makes op.MakeVector = true
makes op.MakeString = true
makes op.MakeSymbol = true
makes o = false

abbrev pub alike : Bool → Bool → Bool
alike true b = b
alike false b = not b

-- an operation that is no call, of its number of operands, with a mark exactly where it makes an object
abbrev pub is_operation : Op → (operands : ℕ) → (marked : Bool) → Bool
is_operation op.Apply n marked = false
is_operation op.CallCC n marked = false
is_operation o n marked = nat_eq n (length (operands_of o)) && alike (makes o) marked

-- all closures of one procedure keep as many values, and have a mark or none; what keeps something has one
abbrev pub is_made : Scope → Made → Bool
is_made σ m =
    nat_lt m.proc (length σ.program.procs) && list_all (is_read σ) m.kept
    && nat_eq (length m.kept) (item_or 0 (slice_get σ.keeps m.proc))
    && alike (is_some m.mark) (item_or false (slice_get σ.made m.proc))
    && (is_some m.mark || nat_eq (length m.kept) 0)

-- in the program's own block, which is in no tail position, no mode is a tail call's
abbrev pub is_mode : Scope → Mode → Bool
is_mode σ mode.Stack = true
is_mode σ mode.Record = true
is_mode σ mode.StackTail = not σ.procedure.capturing && not (nat_eq σ.proc 0)
is_mode σ mode.RecordTail = σ.procedure.capturing && not (nat_eq σ.proc 0)
is_mode σ (mode.Enter part) = not σ.procedure.capturing && nat_lt part (length σ.procedure.parts)

abbrev mutual
  -- a block, which has a value or is the program's own
  pub is_code : Scope → (own : Bool) → Code → Bool
  is_code σ own (Ends value) = alike own (is_none value) && is_read_if σ value
  is_code σ own (Then k to act rest) = list_all (is_written σ) to && is_act σ own (length to) act && is_code σ own rest

  -- what a step does that writes so many places; the program's own block alone has definitions
  pub is_act : Scope → (own : Bool) → (places : ℕ) → Act → Bool
  is_act σ own n (Const lit) = nat_eq n 1 && nat_lt lit (length σ.program.lits)
  is_act σ own n (Copy from) = nat_eq n 1 && is_read σ from
  is_act σ own n (Prim o operands mark) =
      nat_eq n 1 && list_all (is_read σ) operands && is_operation o (length operands) (is_some mark)
  is_act σ own n (Call f operands how) =
      nat_eq n 1 && is_read σ f && list_all (is_read σ) operands && is_mode σ how
  is_act σ own n (Apply f list how) = nat_eq n 1 && is_read σ f && is_read σ list && is_mode σ how
  is_act σ own n (CallCC f how) = nat_eq n 1 && is_read σ f && is_mode σ how
  is_act σ own n (If test tail this that) =
      nat_eq n 1 && is_read σ test && not (tail && nat_eq σ.proc 0) && is_arm σ this && is_arm σ that
  is_act σ own n (Closure m) = nat_eq n 1 && is_made σ m
  is_act σ own n (Fix ms) = nat_eq n (length ms) && list_all (is_made σ) ms
  is_act σ own n (MakeBox from mark) = nat_eq n 1 && is_read σ from
  is_act σ own n (MakeHole mark) = nat_eq n 1
  is_act σ own n (Unbox boxed checked) = nat_eq n 1 && is_read σ boxed
  is_act σ own n (SetBox boxed from) = nat_eq n 1 && is_read σ boxed && is_read σ from
  is_act σ own n (TopGet top checked) = nat_eq n 1 && nat_lt top σ.program.cells.tops
  is_act σ own n (TopSet top from checked) = nat_eq n 1 && nat_lt top σ.program.cells.tops && is_read σ from
  is_act σ own n (TopDefine top from) = own && nat_eq n 1 && nat_lt top σ.program.cells.tops && is_read σ from

  pub is_arm : Scope → Arm → Bool
  is_arm σ Absent = true
  is_arm σ (Present block) = is_code σ false block

-- Procedures

abbrev pub is_written_if : Scope → Option Place → Bool
is_written_if σ None = true
is_written_if σ (Some place) = is_written σ place

abbrev pub is_part : Scope → Part → Bool
is_part σ p =
    list_all (is_written σ) p.params && is_written_if σ p.rest && is_code σ (nat_eq σ.proc 0) p.body

-- it takes as many operands as its first part has parameters, and no more where that has no rest parameter
abbrev pub counts_agree : Procedure → List Part → Bool
counts_agree q [] = true
counts_agree q (p ∷ ps) = nat_eq q.least (length p.params) && most q.greatest p.rest
  where
    most : Option ℕ → Option Place → Bool
    most None (Some r) = true
    most (Some n) None = nat_eq n q.least
    most greatest rest = false

-- a procedure that is reached has a part, another has none
abbrev pub is_procedure : Scope → Bool
is_procedure σ =
    nat_lt 0 σ.procedure.slots && alike σ.procedure.reached (nat_lt 0 (length σ.procedure.parts))
    && list_all (is_part σ) σ.procedure.parts
    && counts_agree σ.procedure σ.procedure.parts

-- procedures numbered from q on
abbrev pub are_procedures : Program → (keeps : List ℕ) → (made : List Bool) → (q : ℕ) → List Procedure → Bool
are_procedures p keeps made q [] = true
are_procedures p keeps made q (f ∷ fs) =
    is_procedure (record { program = p; keeps = keeps; made = made; proc = q; procedure = f })
    && are_procedures p keeps made (suc q) fs

pub record IsValid (p : Program) : Type 0 where
  -- how many values the closures of each procedure keep, and whether they are made by steps
  pub keeps : List ℕ
  pub made : List Bool
  pub procedures : IsTrue (are_procedures p keeps made 0 p.procs)
