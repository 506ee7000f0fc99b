-- Runs of programs, written in named form, that stop with an error or at a channel, and runs with an input.
--
-- Expected values are R4RS's and this profile's, worked out by hand.
--
-- They refuse definitions of another meaning: `hole` a variable of a `letrec` that has a value too early,
-- `unbound` another error where a variable is not defined.
use Rattle.std.proofs.Common.{◌≡◌, List, [], ◌∷◌, ◌++◌, Some, refl}
use Rattle.std.specs.Prelude.{pos, codes, true, false}
use Rattle.scheme_base.specs.declared.lit.Lit.TheVariants as lit
use Rattle.scheme_base.specs.declared.op.Op.TheVariants as op
use Rattle.scheme_base.specs.declared.error.ErrKind.TheVariants.{WrongType, Index, Unbound, NotProcedure, Count, Overflow, ZeroDivisor, Undefined}
use Rattle.scheme_base.specs.Outside.{ReadByte, ReadEnd, ReadFailed, Wrote}
use Rattle.scheme_base.specs.Stops.{End, Error, IoStop}
use Rattle.named_form.specs.Code.{Written, Ends, Const, Copy, Prim, Call, Apply, Closure, MakeHole, Unbox, SetBox, TopGet, TopSet}
use Rattle.scheme_base.proofs.Fixtures.{at, quiet, one_x, first_fails, end_then_x, stops}
use Rattle.named_form.proofs.Library.{integer_writer_lits, writing}
use Rattle.named_form.proofs.Programs.{main, lambda, seen, calls, does, gives, choice}

-- (write (+ 2305843009213693951 1))
overflow : seen (writing op.Add 31) (integer_writer_lits ++ lit.Integer (pos 2305843009213693951) ∷ lit.Integer (pos 1) ∷ []) quiet 300 ≡ stops [] (Error Overflow (at 1 8))
overflow = refl

-- (if #f (car 1))
abbrev arm_not_taken_procs : List Written
arm_not_taken_procs =
    main (
    does 1 0 (
    (5, Const 0) ∷
    choice 1 0 (gives 1 2 ((13, Const 1) ∷ (8, Prim op.Car (2 ∷ [])) ∷ [])) (gives 1 4 ((1, Const 2) ∷ [])) ∷ [])) ∷ []

arm_not_taken : seen arm_not_taken_procs (lit.Boolean false ∷ lit.Integer (pos 1) ∷ lit.Unspecified ∷ []) quiet 300 ≡ stops [] End
arm_not_taken = refl

-- (letrec ((a b) (b 1)) a)
abbrev pub hole_procs : List Written
hole_procs =
    main (
    does 1 0 (
    (1, MakeHole) ∷ (1, MakeHole) ∷ (13, Unbox 1 true) ∷ (19, Const 0) ∷ (1, Copy 2) ∷ (1, Copy 3) ∷
    (1, SetBox 0 4) ∷ (1, SetBox 1 5) ∷ (23, Unbox 0 true) ∷ [])) ∷ []

hole : seen hole_procs (lit.Integer (pos 1) ∷ lit.Undefined ∷ lit.Undefined ∷ []) quiet 300 ≡ stops [] (Error Undefined (at 1 13))
hole = refl

-- (write-char (read-char))
abbrev copy_procs : List Written
copy_procs =
    main (does 1 0 ((13, Prim op.ReadChar []) ∷ (1, Prim op.WriteChar (0 ∷ [])) ∷ [])) ∷ []

copy : seen copy_procs [] one_x 300 ≡ stops (codes "x") End
copy = refl

copy_calls : calls copy_procs [] one_x 10 ≡ Wrote 120 ∷ ReadByte 120 ∷ []
copy_calls = refl

-- where the read fails
read_fails : seen copy_procs [] first_fails 300 ≡ stops [] IoStop
read_fails = refl

read_fails_calls : calls copy_procs [] first_fails 10 ≡ ReadFailed ∷ []
read_fails_calls = refl

-- and at the end of the input
end_is_no_character : seen copy_procs [] quiet 300 ≡ stops [] (Error WrongType (at 1 1))
end_is_no_character = refl

end_calls : calls copy_procs [] quiet 10 ≡ ReadEnd ∷ []
end_calls = refl

-- (car '())
abbrev car_of_nil_procs : List Written
car_of_nil_procs =
    main (does 1 0 ((6, Const 0) ∷ (1, Prim op.Car (0 ∷ [])) ∷ [])) ∷ []

car_of_nil : seen car_of_nil_procs (lit.Nil ∷ []) quiet 300 ≡ stops [] (Error WrongType (at 1 1))
car_of_nil = refl

-- (vector-ref (%make-vector 3 0) 3)
abbrev no_item_procs : List Written
no_item_procs =
    main (
    does 1 0 (
    (27, Const 0) ∷ (29, Const 1) ∷ (13, Prim op.MakeVector (0 ∷ 1 ∷ [])) ∷ (32, Const 2) ∷
    (1, Prim op.VectorRef (2 ∷ 3 ∷ [])) ∷ [])) ∷ []

no_item : seen no_item_procs (lit.Integer (pos 3) ∷ lit.Integer (pos 0) ∷ lit.Integer (pos 3) ∷ []) quiet 300 ≡ stops [] (Error Index (at 1 1))
no_item = refl

-- (foo)
abbrev unbound_procs : List Written
unbound_procs =
    main (does 1 0 ((2, TopGet 0 true) ∷ (1, Call 0 []) ∷ [])) ∷ []

unbound : seen unbound_procs [] quiet 300 ≡ stops [] (Error Unbound (at 1 2))
unbound = refl

-- (5 5)
abbrev no_procedure_procs : List Written
no_procedure_procs =
    main (does 1 0 ((2, Const 0) ∷ (4, Const 1) ∷ (1, Call 0 (1 ∷ [])) ∷ [])) ∷ []

no_procedure : seen no_procedure_procs (lit.Integer (pos 5) ∷ lit.Integer (pos 5) ∷ []) quiet 300 ≡ stops [] (Error NotProcedure (at 1 1))
no_procedure = refl

-- ((lambda (x) x))
abbrev no_operand_procs : List Written
no_operand_procs =
    main (does 1 0 ((2, Closure 1) ∷ (1, Call 0 []) ∷ [])) ∷
    lambda (at 1 2) (2 ∷ []) (Ends (Some 2)) ∷ []

no_operand : seen no_operand_procs [] quiet 300 ≡ stops [] (Error Count (at 1 1))
no_operand = refl

-- (quotient 7 0)
abbrev zero_divisor_procs : List Written
zero_divisor_procs =
    main (does 1 0 ((11, Const 0) ∷ (13, Const 1) ∷ (1, Prim op.Quotient (0 ∷ 1 ∷ [])) ∷ [])) ∷ []

zero_divisor : seen zero_divisor_procs (lit.Integer (pos 7) ∷ lit.Integer (pos 0) ∷ []) quiet 300 ≡ stops [] (Error ZeroDivisor (at 1 1))
zero_divisor = refl

-- (%apply (lambda (x) x) 5)
abbrev not_a_list_procs : List Written
not_a_list_procs =
    main (does 1 0 ((9, Closure 1) ∷ (24, Const 0) ∷ (1, Apply 0 1) ∷ [])) ∷
    lambda (at 1 9) (3 ∷ []) (Ends (Some 3)) ∷ []

not_a_list : seen not_a_list_procs (lit.Integer (pos 5) ∷ []) quiet 300 ≡ stops [] (Error WrongType (at 1 1))
not_a_list = refl

-- (%apply (lambda (x) x) '())
abbrev applied_count_procs : List Written
applied_count_procs =
    main (does 1 0 ((9, Closure 1) ∷ (24, Const 0) ∷ (1, Apply 0 1) ∷ [])) ∷
    lambda (at 1 9) (3 ∷ []) (Ends (Some 3)) ∷ []

applied_count : seen applied_count_procs (lit.Nil ∷ []) quiet 300 ≡ stops [] (Error Count (at 1 1))
applied_count = refl

-- (set! x 1)
abbrev assigned_before_definition_procs : List Written
assigned_before_definition_procs =
    main (does 1 0 ((9, Const 0) ∷ (1, TopSet 0 0 true) ∷ [])) ∷ []

assigned_before_definition : seen assigned_before_definition_procs (lit.Integer (pos 1) ∷ []) quiet 300 ≡ stops [] (Error Unbound (at 1 1))
assigned_before_definition = refl

-- (if (eof-object? (peek-char)) (write-char (read-char)))
abbrev end_is_not_kept_procs : List Written
end_is_not_kept_procs =
    main (
    does 1 0 (
    (18, Prim op.PeekChar []) ∷ (5, Prim op.IsEof (0 ∷ [])) ∷ choice 1 1
    (gives 1 3 ((43, Prim op.ReadChar []) ∷ (31, Prim op.WriteChar (3 ∷ [])) ∷ []))
    (gives 1 5 ((1, Const 0) ∷ [])) ∷ [])) ∷ []

end_is_not_kept : seen end_is_not_kept_procs (lit.Unspecified ∷ []) end_then_x 300 ≡ stops (codes "x") End
end_is_not_kept = refl
