-- Runs of programs, written as their cores: what they write, and how they stop.
--
-- Expected values are R4RS's and this profile's, worked out by hand. A program stands in line 1 of its
-- text; what it needs of the library is written out before, all at 0:196.
--
-- They refuse definitions of another meaning: `left_to_right` operands that are evaluated from right to
-- left, `reentered` a continuation without the rest of the program, `end_is_not_kept` an end of the input
-- that is kept, `identity` an equivalence by structure.
use Rattle.std.proofs.Common.{◌≡◌, ℕ, List, [], ◌∷◌, Option, Some, None, refl}
use Rattle.std.specs.Prelude.{pos, negsuc, codes, true, false}
use Rattle.scheme_base.specs.declared.env.Env.{Env}
use Rattle.scheme_base.specs.declared.lit.Lit.{Lit}
use Rattle.scheme_base.specs.declared.lit.Lit.TheVariants as lit
use Rattle.scheme_base.specs.declared.op.Op.TheVariants as op
use Rattle.scheme_base.specs.declared.error.ErrKind.TheVariants.{WrongType, Index, Unbound, NotProcedure, Count, Overflow, ZeroDivisor, Undefined, LiteralWritten}
use Rattle.scheme_base.specs.Outside.{Event, ReadByte, ReadEnd, ReadFailed, Wrote}
use Rattle.scheme_base.specs.Runs.{after}
use Rattle.scheme_base.specs.Stops.{Stop, End, Error, IoStop}
use Rattle.scheme_base.proofs.Fixtures.{at, quiet, one_x, first_fails, end_then_x, Seen, seen_after, stops}
use Rattle.core_form.specs.declared.program.Var.{Var}
use Rattle.core_form.specs.Trees.{Const, Ref, Lambda, If, Set, Call, Prim, Seq, Fix, Define, Trees, none, item}
use Rattle.core_form.specs.Source.{State, Stopped, machine, start, trace_of}
use Rattle.core_form.specs.Variables.{named}

-- the program's own variable of this name, and the library's
abbrev own : List ℕ → Var
own name = record { name = name; lib = false }

abbrev lib : List ℕ → Var
lib name = record { name = name; lib = true }

abbrev stop_of : State Var → Option Stop
stop_of (Stopped stop w) = Some stop
stop_of s = None

-- what is seen of a run after so many steps
abbrev seen : Trees Var → List Lit → Env → ℕ → Seen
seen forms lits env steps =
    seen_after (machine (named forms lits) env) stop_of steps (start (named forms lits) env)

-- (display "hi")(newline)
abbrev text_forms : Trees Var
text_forms =
    item (Define (at 0 196) (lib (codes "show")) (Lambda (at 0 196) ((own (codes "s")) ∷ (own (codes "i")) ∷ []) None (If (at 0 196) (Prim (at 0 196) op.Equals (item (Ref (at 0 196) (own (codes "i"))) (item (Prim (at 0 196) op.StringLength (item (Ref (at 0 196) (own (codes "s"))) none)) none))) (Const (at 0 196) 0) (Seq (at 0 196) (item (Prim (at 0 196) op.WriteChar (item (Prim (at 0 196) op.StringRef (item (Ref (at 0 196) (own (codes "s"))) (item (Ref (at 0 196) (own (codes "i"))) none))) none)) (item (Call (at 0 196) (Ref (at 0 196) (lib (codes "show"))) (item (Ref (at 0 196) (own (codes "s"))) (item (Prim (at 0 196) op.Add (item (Ref (at 0 196) (own (codes "i"))) (item (Const (at 0 196) 1) none))) none))) none)))))) (item (Define (at 0 196) (lib (codes "display")) (Lambda (at 0 196) ((own (codes "s")) ∷ []) None (Call (at 0 196) (Ref (at 0 196) (lib (codes "show"))) (item (Ref (at 0 196) (own (codes "s"))) (item (Const (at 0 196) 2) none))))) (item (Define (at 0 196) (lib (codes "newline")) (Lambda (at 0 196) [] None (Prim (at 0 196) op.WriteChar (item (Const (at 0 196) 3) none)))) (item (Call (at 1 1) (Ref (at 1 2) (lib (codes "display"))) (item (Const (at 1 10) 4) none)) (item (Call (at 1 15) (Ref (at 1 16) (lib (codes "newline"))) none) none))))

text : seen text_forms (lit.Integer (pos 0) ∷ lit.Integer (pos 1) ∷ lit.Integer (pos 0) ∷ lit.Char 10 ∷ lit.Text (codes "hi") ∷ []) quiet 120 ≡ stops (codes "hi\n") End
text = refl

-- (write (+ 2305843009213693951 1))
abbrev overflow_forms : Trees Var
overflow_forms =
    item (Define (at 0 196) (lib (codes "write")) (Lambda (at 0 196) ((own (codes "n")) ∷ []) None (If (at 0 196) (Prim (at 0 196) op.Less (item (Ref (at 0 196) (own (codes "n"))) (item (Const (at 0 196) 0) none))) (Seq (at 0 196) (item (Prim (at 0 196) op.WriteChar (item (Const (at 0 196) 1) none)) (item (Call (at 0 196) (Ref (at 0 196) (lib (codes "digits"))) (item (Ref (at 0 196) (own (codes "n"))) none)) none))) (Call (at 0 196) (Ref (at 0 196) (lib (codes "digits"))) (item (Prim (at 0 196) op.Subtract (item (Const (at 0 196) 2) (item (Ref (at 0 196) (own (codes "n"))) none))) none))))) (item (Define (at 0 196) (lib (codes "digits")) (Lambda (at 0 196) ((own (codes "m")) ∷ []) None (Seq (at 0 196) (item (If (at 0 196) (Prim (at 0 196) op.Less (item (Const (at 0 196) 3) (item (Ref (at 0 196) (own (codes "m"))) none))) (Const (at 0 196) 4) (Call (at 0 196) (Ref (at 0 196) (lib (codes "digits"))) (item (Prim (at 0 196) op.Quotient (item (Ref (at 0 196) (own (codes "m"))) (item (Const (at 0 196) 5) none))) none))) (item (Prim (at 0 196) op.WriteChar (item (Prim (at 0 196) op.IntegerToChar (item (Prim (at 0 196) op.Subtract (item (Const (at 0 196) 6) (item (Prim (at 0 196) op.Remainder (item (Ref (at 0 196) (own (codes "m"))) (item (Const (at 0 196) 7) none))) none))) none)) none)) none))))) (item (Call (at 1 1) (Ref (at 1 2) (lib (codes "write"))) (item (Prim (at 1 8) op.Add (item (Const (at 1 11) 8) (item (Const (at 1 31) 9) none))) none)) none))

overflow : seen overflow_forms (lit.Integer (pos 0) ∷ lit.Char 45 ∷ lit.Integer (pos 0) ∷ lit.Integer (negsuc 9) ∷ lit.Integer (pos 0) ∷ lit.Integer (pos 10) ∷ lit.Integer (pos 48) ∷ lit.Integer (pos 10) ∷ lit.Integer (pos 2305843009213693951) ∷ lit.Integer (pos 1) ∷ []) quiet 100 ≡ stops [] (Error Overflow (at 1 8))
overflow = refl

-- (write (- -2305843009213693951 1))
abbrev least_number_forms : Trees Var
least_number_forms =
    item (Define (at 0 196) (lib (codes "write")) (Lambda (at 0 196) ((own (codes "n")) ∷ []) None (If (at 0 196) (Prim (at 0 196) op.Less (item (Ref (at 0 196) (own (codes "n"))) (item (Const (at 0 196) 0) none))) (Seq (at 0 196) (item (Prim (at 0 196) op.WriteChar (item (Const (at 0 196) 1) none)) (item (Call (at 0 196) (Ref (at 0 196) (lib (codes "digits"))) (item (Ref (at 0 196) (own (codes "n"))) none)) none))) (Call (at 0 196) (Ref (at 0 196) (lib (codes "digits"))) (item (Prim (at 0 196) op.Subtract (item (Const (at 0 196) 2) (item (Ref (at 0 196) (own (codes "n"))) none))) none))))) (item (Define (at 0 196) (lib (codes "digits")) (Lambda (at 0 196) ((own (codes "m")) ∷ []) None (Seq (at 0 196) (item (If (at 0 196) (Prim (at 0 196) op.Less (item (Const (at 0 196) 3) (item (Ref (at 0 196) (own (codes "m"))) none))) (Const (at 0 196) 4) (Call (at 0 196) (Ref (at 0 196) (lib (codes "digits"))) (item (Prim (at 0 196) op.Quotient (item (Ref (at 0 196) (own (codes "m"))) (item (Const (at 0 196) 5) none))) none))) (item (Prim (at 0 196) op.WriteChar (item (Prim (at 0 196) op.IntegerToChar (item (Prim (at 0 196) op.Subtract (item (Const (at 0 196) 6) (item (Prim (at 0 196) op.Remainder (item (Ref (at 0 196) (own (codes "m"))) (item (Const (at 0 196) 7) none))) none))) none)) none)) none))))) (item (Call (at 1 1) (Ref (at 1 2) (lib (codes "write"))) (item (Prim (at 1 8) op.Subtract (item (Const (at 1 11) 8) (item (Const (at 1 32) 9) none))) none)) none))

least_number : seen least_number_forms (lit.Integer (pos 0) ∷ lit.Char 45 ∷ lit.Integer (pos 0) ∷ lit.Integer (negsuc 9) ∷ lit.Integer (pos 0) ∷ lit.Integer (pos 10) ∷ lit.Integer (pos 48) ∷ lit.Integer (pos 10) ∷ lit.Integer (negsuc 2305843009213693950) ∷ lit.Integer (pos 1) ∷ []) quiet 700 ≡ stops (codes "-2305843009213693952") End
least_number = refl

-- (letrec ((do (lambda (i) (if (= i 9) 7 (do (+ i 1)))))) (do 0))
abbrev loop_forms : Trees Var
loop_forms =
    item (Fix (at 1 1) ((own (codes "do")) ∷ []) (item (Lambda (at 1 14) ((own (codes "i")) ∷ []) None (If (at 1 26) (Prim (at 1 30) op.Equals (item (Ref (at 1 33) (own (codes "i"))) (item (Const (at 1 35) 0) none))) (Const (at 1 38) 1) (Call (at 1 40) (Ref (at 1 41) (own (codes "do"))) (item (Prim (at 1 44) op.Add (item (Ref (at 1 47) (own (codes "i"))) (item (Const (at 1 49) 2) none))) none)))) none) (Call (at 1 57) (Ref (at 1 58) (own (codes "do"))) (item (Const (at 1 61) 3) none))) none

loop : seen loop_forms (lit.Integer (pos 9) ∷ lit.Integer (pos 7) ∷ lit.Integer (pos 1) ∷ lit.Integer (pos 0) ∷ []) quiet 200 ≡ stops [] End
loop = refl

-- (define (f n) (let ((p (cons n n))) (car p)))(define (loop i) (if (= i 0) 0 (begin (f i) (loop (- i 1)))))(loop 5)(write-char #\z)
abbrev pairs_forms : Trees Var
pairs_forms =
    item (Define (at 1 1) (own (codes "f")) (Lambda (at 1 1) ((own (codes "n")) ∷ []) None (Call (at 1 15) (Lambda (at 1 15) ((own (codes "p")) ∷ []) None (Prim (at 1 37) op.Car (item (Ref (at 1 42) (own (codes "p"))) none))) (item (Prim (at 1 24) op.Cons (item (Ref (at 1 30) (own (codes "n"))) (item (Ref (at 1 32) (own (codes "n"))) none))) none)))) (item (Define (at 1 46) (own (codes "loop")) (Lambda (at 1 46) ((own (codes "i")) ∷ []) None (If (at 1 63) (Prim (at 1 67) op.Equals (item (Ref (at 1 70) (own (codes "i"))) (item (Const (at 1 72) 0) none))) (Const (at 1 75) 1) (Seq (at 1 77) (item (Call (at 1 84) (Ref (at 1 85) (own (codes "f"))) (item (Ref (at 1 87) (own (codes "i"))) none)) (item (Call (at 1 90) (Ref (at 1 91) (own (codes "loop"))) (item (Prim (at 1 96) op.Subtract (item (Ref (at 1 99) (own (codes "i"))) (item (Const (at 1 101) 2) none))) none)) none)))))) (item (Call (at 1 107) (Ref (at 1 108) (own (codes "loop"))) (item (Const (at 1 113) 3) none)) (item (Prim (at 1 115) op.WriteChar (item (Const (at 1 127) 4) none)) none)))

pairs : seen pairs_forms (lit.Integer (pos 0) ∷ lit.Integer (pos 0) ∷ lit.Integer (pos 1) ∷ lit.Integer (pos 5) ∷ lit.Char 122 ∷ []) quiet 300 ≡ stops (codes "z") End
pairs = refl

-- (define n 0)(define k #f)(write (call-with-current-continuation (lambda (c) (begin (set! k c) 0))))(set! n (+ n 1))(if (< n 3) (k n))
abbrev reentered_forms : Trees Var
reentered_forms =
    item (Define (at 0 196) (lib (codes "write")) (Lambda (at 0 196) ((own (codes "n")) ∷ []) None (If (at 0 196) (Prim (at 0 196) op.Less (item (Ref (at 0 196) (own (codes "n"))) (item (Const (at 0 196) 0) none))) (Seq (at 0 196) (item (Prim (at 0 196) op.WriteChar (item (Const (at 0 196) 1) none)) (item (Call (at 0 196) (Ref (at 0 196) (lib (codes "digits"))) (item (Ref (at 0 196) (own (codes "n"))) none)) none))) (Call (at 0 196) (Ref (at 0 196) (lib (codes "digits"))) (item (Prim (at 0 196) op.Subtract (item (Const (at 0 196) 2) (item (Ref (at 0 196) (own (codes "n"))) none))) none))))) (item (Define (at 0 196) (lib (codes "digits")) (Lambda (at 0 196) ((own (codes "m")) ∷ []) None (Seq (at 0 196) (item (If (at 0 196) (Prim (at 0 196) op.Less (item (Const (at 0 196) 3) (item (Ref (at 0 196) (own (codes "m"))) none))) (Const (at 0 196) 4) (Call (at 0 196) (Ref (at 0 196) (lib (codes "digits"))) (item (Prim (at 0 196) op.Quotient (item (Ref (at 0 196) (own (codes "m"))) (item (Const (at 0 196) 5) none))) none))) (item (Prim (at 0 196) op.WriteChar (item (Prim (at 0 196) op.IntegerToChar (item (Prim (at 0 196) op.Subtract (item (Const (at 0 196) 6) (item (Prim (at 0 196) op.Remainder (item (Ref (at 0 196) (own (codes "m"))) (item (Const (at 0 196) 7) none))) none))) none)) none)) none))))) (item (Define (at 1 1) (own (codes "n")) (Const (at 1 11) 8)) (item (Define (at 1 13) (own (codes "k")) (Const (at 1 23) 9)) (item (Call (at 1 26) (Ref (at 1 27) (lib (codes "write"))) (item (Prim (at 1 33) op.CallCC (item (Lambda (at 1 65) ((own (codes "c")) ∷ []) None (Seq (at 1 77) (item (Set (at 1 84) (own (codes "k")) (Ref (at 1 92) (own (codes "c")))) (item (Const (at 1 95) 10) none)))) none)) none)) (item (Set (at 1 100) (own (codes "n")) (Prim (at 1 108) op.Add (item (Ref (at 1 111) (own (codes "n"))) (item (Const (at 1 113) 11) none)))) (item (If (at 1 116) (Prim (at 1 120) op.Less (item (Ref (at 1 123) (own (codes "n"))) (item (Const (at 1 125) 12) none))) (Call (at 1 128) (Ref (at 1 129) (own (codes "k"))) (item (Ref (at 1 131) (own (codes "n"))) none)) (Const (at 1 116) 13)) none))))))

reentered : seen reentered_forms (lit.Integer (pos 0) ∷ lit.Char 45 ∷ lit.Integer (pos 0) ∷ lit.Integer (negsuc 9) ∷ lit.Integer (pos 0) ∷ lit.Integer (pos 10) ∷ lit.Integer (pos 48) ∷ lit.Integer (pos 10) ∷ lit.Integer (pos 0) ∷ lit.Boolean false ∷ lit.Integer (pos 0) ∷ lit.Integer (pos 1) ∷ lit.Integer (pos 3) ∷ lit.Unspecified ∷ []) quiet 300 ≡ stops (codes "012") End
reentered = refl

-- (define (list . xs) xs)(list (begin (write-char #\a) 1) (begin (write-char #\b) 2))
abbrev left_to_right_forms : Trees Var
left_to_right_forms =
    item (Define (at 1 1) (own (codes "list")) (Lambda (at 1 1) [] (Some (own (codes "xs"))) (Ref (at 1 21) (own (codes "xs"))))) (item (Call (at 1 24) (Ref (at 1 25) (own (codes "list"))) (item (Seq (at 1 30) (item (Prim (at 1 37) op.WriteChar (item (Const (at 1 49) 0) none)) (item (Const (at 1 54) 1) none))) (item (Seq (at 1 57) (item (Prim (at 1 64) op.WriteChar (item (Const (at 1 76) 2) none)) (item (Const (at 1 81) 3) none))) none))) none)

left_to_right : seen left_to_right_forms (lit.Char 97 ∷ lit.Integer (pos 1) ∷ lit.Char 98 ∷ lit.Integer (pos 2) ∷ []) quiet 60 ≡ stops (codes "ab") End
left_to_right = refl

-- (let ((p (lambda (x) x))) (write (eqv? p p)))(define (m) (lambda (x) x))(write (eqv? (m) (m)))
abbrev identity_forms : Trees Var
identity_forms =
    item (Define (at 0 196) (lib (codes "write")) (Lambda (at 0 196) ((own (codes "b")) ∷ []) None (Seq (at 0 196) (item (Prim (at 0 196) op.WriteChar (item (Const (at 0 196) 0) none)) (item (Prim (at 0 196) op.WriteChar (item (If (at 0 196) (Ref (at 0 196) (own (codes "b"))) (Const (at 0 196) 1) (Const (at 0 196) 2)) none)) none))))) (item (Call (at 1 1) (Lambda (at 1 1) ((own (codes "p")) ∷ []) None (Call (at 1 27) (Ref (at 1 28) (lib (codes "write"))) (item (Prim (at 1 34) op.Eqv (item (Ref (at 1 40) (own (codes "p"))) (item (Ref (at 1 42) (own (codes "p"))) none))) none))) (item (Lambda (at 1 10) ((own (codes "x")) ∷ []) None (Ref (at 1 22) (own (codes "x")))) none)) (item (Define (at 1 46) (own (codes "m")) (Lambda (at 1 46) [] None (Lambda (at 1 58) ((own (codes "x")) ∷ []) None (Ref (at 1 70) (own (codes "x")))))) (item (Call (at 1 73) (Ref (at 1 74) (lib (codes "write"))) (item (Prim (at 1 80) op.Eqv (item (Call (at 1 86) (Ref (at 1 87) (own (codes "m"))) none) (item (Call (at 1 90) (Ref (at 1 91) (own (codes "m"))) none) none))) none)) none)))

identity : seen identity_forms (lit.Char 35 ∷ lit.Char 116 ∷ lit.Char 102 ∷ []) quiet 100 ≡ stops (codes "#t#f") End
identity = refl

-- (if #f (car 1))
abbrev arm_not_taken_forms : Trees Var
arm_not_taken_forms =
    item (If (at 1 1) (Const (at 1 5) 0) (Prim (at 1 8) op.Car (item (Const (at 1 13) 1) none)) (Const (at 1 1) 2)) none

arm_not_taken : seen arm_not_taken_forms (lit.Boolean false ∷ lit.Integer (pos 1) ∷ lit.Unspecified ∷ []) quiet 10 ≡ stops [] End
arm_not_taken = refl

-- (letrec ((a b) (b 1)) a)
abbrev hole_forms : Trees Var
hole_forms =
    item (Call (at 1 1) (Lambda (at 1 1) ((own (codes "a")) ∷ (own (codes "b")) ∷ []) None (Call (at 1 1) (Lambda (at 1 1) ((own (codes ".1")) ∷ (own (codes ".2")) ∷ []) None (Seq (at 1 1) (item (Set (at 1 1) (own (codes "a")) (Ref (at 1 1) (own (codes ".1")))) (item (Set (at 1 1) (own (codes "b")) (Ref (at 1 1) (own (codes ".2")))) (item (Call (at 1 1) (Lambda (at 1 1) [] None (Ref (at 1 23) (own (codes "a")))) none) none))))) (item (Ref (at 1 13) (own (codes "b"))) (item (Const (at 1 19) 0) none)))) (item (Const (at 1 1) 1) (item (Const (at 1 1) 2) none))) none

hole : seen hole_forms (lit.Integer (pos 1) ∷ lit.Undefined ∷ lit.Undefined ∷ []) quiet 20 ≡ stops [] (Error Undefined (at 1 13))
hole = refl

-- (write-char (read-char))
abbrev copy_forms : Trees Var
copy_forms =
    item (Prim (at 1 1) op.WriteChar (item (Prim (at 1 13) op.ReadChar none) none)) none

copy : seen copy_forms ([]) one_x 10 ≡ stops (codes "x") End
copy = refl

-- (write-char (read-char))
abbrev read_fails_forms : Trees Var
read_fails_forms =
    item (Prim (at 1 1) op.WriteChar (item (Prim (at 1 13) op.ReadChar none) none)) none

read_fails : seen read_fails_forms ([]) first_fails 10 ≡ stops [] IoStop
read_fails = refl

-- (write-char (read-char))
abbrev end_is_no_character_forms : Trees Var
end_is_no_character_forms =
    item (Prim (at 1 1) op.WriteChar (item (Prim (at 1 13) op.ReadChar none) none)) none

end_is_no_character : seen end_is_no_character_forms ([]) quiet 10 ≡ stops [] (Error WrongType (at 1 1))
end_is_no_character = refl

-- (car '())
abbrev car_of_nil_forms : Trees Var
car_of_nil_forms =
    item (Prim (at 1 1) op.Car (item (Const (at 1 6) 0) none)) none

car_of_nil : seen car_of_nil_forms (lit.Nil ∷ []) quiet 10 ≡ stops [] (Error WrongType (at 1 1))
car_of_nil = refl

-- (vector-ref (%make-vector 3 0) 3)
abbrev no_item_forms : Trees Var
no_item_forms =
    item (Prim (at 1 1) op.VectorRef (item (Prim (at 1 13) op.MakeVector (item (Const (at 1 27) 0) (item (Const (at 1 29) 1) none))) (item (Const (at 1 32) 2) none))) none

no_item : seen no_item_forms (lit.Integer (pos 3) ∷ lit.Integer (pos 0) ∷ lit.Integer (pos 3) ∷ []) quiet 12 ≡ stops [] (Error Index (at 1 1))
no_item = refl

-- (foo)
abbrev unbound_forms : Trees Var
unbound_forms =
    item (Call (at 1 1) (Ref (at 1 2) (own (codes "foo"))) none) none

unbound : seen unbound_forms ([]) quiet 10 ≡ stops [] (Error Unbound (at 1 2))
unbound = refl

-- (5 5)
abbrev no_procedure_forms : Trees Var
no_procedure_forms =
    item (Call (at 1 1) (Const (at 1 2) 0) (item (Const (at 1 4) 1) none)) none

no_procedure : seen no_procedure_forms (lit.Integer (pos 5) ∷ lit.Integer (pos 5) ∷ []) quiet 10 ≡ stops [] (Error NotProcedure (at 1 1))
no_procedure = refl

-- ((lambda (x) x))
abbrev no_operand_forms : Trees Var
no_operand_forms =
    item (Call (at 1 1) (Lambda (at 1 2) ((own (codes "x")) ∷ []) None (Ref (at 1 14) (own (codes "x")))) none) none

no_operand : seen no_operand_forms ([]) quiet 10 ≡ stops [] (Error Count (at 1 1))
no_operand = refl

-- (quotient 7 0)
abbrev zero_divisor_forms : Trees Var
zero_divisor_forms =
    item (Prim (at 1 1) op.Quotient (item (Const (at 1 11) 0) (item (Const (at 1 13) 1) none))) none

zero_divisor : seen zero_divisor_forms (lit.Integer (pos 7) ∷ lit.Integer (pos 0) ∷ []) quiet 10 ≡ stops [] (Error ZeroDivisor (at 1 1))
zero_divisor = refl

-- (show (symbol->string (let ((v 3)) (if (if (eqv? v '1) #t (eqv? v '2)) 'low (if (eqv? v '3) 'HIGH 0)))) 0)(write (modulo -7 2))(write (remainder -7 2))(write (quotient -7 2))
abbrev symbol_and_division_forms : Trees Var
symbol_and_division_forms =
    item (Define (at 0 196) (lib (codes "write")) (Lambda (at 0 196) ((own (codes "n")) ∷ []) None (If (at 0 196) (Prim (at 0 196) op.Less (item (Ref (at 0 196) (own (codes "n"))) (item (Const (at 0 196) 0) none))) (Seq (at 0 196) (item (Prim (at 0 196) op.WriteChar (item (Const (at 0 196) 1) none)) (item (Call (at 0 196) (Ref (at 0 196) (lib (codes "digits"))) (item (Ref (at 0 196) (own (codes "n"))) none)) none))) (Call (at 0 196) (Ref (at 0 196) (lib (codes "digits"))) (item (Prim (at 0 196) op.Subtract (item (Const (at 0 196) 2) (item (Ref (at 0 196) (own (codes "n"))) none))) none))))) (item (Define (at 0 196) (lib (codes "digits")) (Lambda (at 0 196) ((own (codes "m")) ∷ []) None (Seq (at 0 196) (item (If (at 0 196) (Prim (at 0 196) op.Less (item (Const (at 0 196) 3) (item (Ref (at 0 196) (own (codes "m"))) none))) (Const (at 0 196) 4) (Call (at 0 196) (Ref (at 0 196) (lib (codes "digits"))) (item (Prim (at 0 196) op.Quotient (item (Ref (at 0 196) (own (codes "m"))) (item (Const (at 0 196) 5) none))) none))) (item (Prim (at 0 196) op.WriteChar (item (Prim (at 0 196) op.IntegerToChar (item (Prim (at 0 196) op.Subtract (item (Const (at 0 196) 6) (item (Prim (at 0 196) op.Remainder (item (Ref (at 0 196) (own (codes "m"))) (item (Const (at 0 196) 7) none))) none))) none)) none)) none))))) (item (Define (at 0 196) (lib (codes "show")) (Lambda (at 0 196) ((own (codes "s")) ∷ (own (codes "i")) ∷ []) None (If (at 0 196) (Prim (at 0 196) op.Equals (item (Ref (at 0 196) (own (codes "i"))) (item (Prim (at 0 196) op.StringLength (item (Ref (at 0 196) (own (codes "s"))) none)) none))) (Const (at 0 196) 8) (Seq (at 0 196) (item (Prim (at 0 196) op.WriteChar (item (Prim (at 0 196) op.StringRef (item (Ref (at 0 196) (own (codes "s"))) (item (Ref (at 0 196) (own (codes "i"))) none))) none)) (item (Call (at 0 196) (Ref (at 0 196) (lib (codes "show"))) (item (Ref (at 0 196) (own (codes "s"))) (item (Prim (at 0 196) op.Add (item (Ref (at 0 196) (own (codes "i"))) (item (Const (at 0 196) 9) none))) none))) none)))))) (item (Call (at 1 1) (Ref (at 1 2) (lib (codes "show"))) (item (Prim (at 1 7) op.SymbolName (item (Call (at 1 23) (Lambda (at 1 23) ((own (codes "v")) ∷ []) None (If (at 1 36) (If (at 1 40) (Prim (at 1 44) op.Eqv (item (Ref (at 1 50) (own (codes "v"))) (item (Const (at 1 52) 10) none))) (Const (at 1 56) 11) (Prim (at 1 59) op.Eqv (item (Ref (at 1 65) (own (codes "v"))) (item (Const (at 1 67) 12) none)))) (Const (at 1 72) 13) (If (at 1 77) (Prim (at 1 81) op.Eqv (item (Ref (at 1 87) (own (codes "v"))) (item (Const (at 1 89) 14) none))) (Const (at 1 93) 15) (Const (at 1 99) 16)))) (item (Const (at 1 32) 17) none)) none)) (item (Const (at 1 105) 18) none))) (item (Call (at 1 107) (Ref (at 1 108) (lib (codes "write"))) (item (Prim (at 1 114) op.Modulo (item (Const (at 1 122) 19) (item (Const (at 1 125) 20) none))) none)) (item (Call (at 1 128) (Ref (at 1 129) (lib (codes "write"))) (item (Prim (at 1 135) op.Remainder (item (Const (at 1 146) 21) (item (Const (at 1 149) 22) none))) none)) (item (Call (at 1 152) (Ref (at 1 153) (lib (codes "write"))) (item (Prim (at 1 159) op.Quotient (item (Const (at 1 169) 23) (item (Const (at 1 172) 24) none))) none)) none))))))

symbol_and_division : seen symbol_and_division_forms (lit.Integer (pos 0) ∷ lit.Char 45 ∷ lit.Integer (pos 0) ∷ lit.Integer (negsuc 9) ∷ lit.Integer (pos 0) ∷ lit.Integer (pos 10) ∷ lit.Integer (pos 48) ∷ lit.Integer (pos 10) ∷ lit.Integer (pos 0) ∷ lit.Integer (pos 1) ∷ lit.Integer (pos 1) ∷ lit.Boolean true ∷ lit.Integer (pos 2) ∷ lit.Symbol (codes "low") ∷ lit.Integer (pos 3) ∷ lit.Symbol (codes "high") ∷ lit.Integer (pos 0) ∷ lit.Integer (pos 3) ∷ lit.Integer (pos 0) ∷ lit.Integer (negsuc 6) ∷ lit.Integer (pos 2) ∷ lit.Integer (negsuc 6) ∷ lit.Integer (pos 2) ∷ lit.Integer (negsuc 6) ∷ lit.Integer (pos 2) ∷ []) quiet 500 ≡ stops (codes "high1-1-3") End
symbol_and_division = refl

-- (define a #f)(define b #f)(define t 0)
-- (define (f) (+ (* 10 (call-with-current-continuation (lambda (c) (begin (set! a c) 1))))
--   (call-with-current-continuation (lambda (c) (begin (if (not b) (set! b c)) 2)))))
-- (write (f))
-- (set! t (+ t 1))
-- (if (= t 1) (b 5) (if (= t 2) (a 3) (if (= t 3) (b 7))))
abbrev continuations_forms : Trees Var
continuations_forms =
    item (Define (at 0 196) (lib (codes "write")) (Lambda (at 0 196) ((own (codes "n")) ∷ []) None (If (at 0 196) (Prim (at 0 196) op.Less (item (Ref (at 0 196) (own (codes "n"))) (item (Const (at 0 196) 0) none))) (Seq (at 0 196) (item (Prim (at 0 196) op.WriteChar (item (Const (at 0 196) 1) none)) (item (Call (at 0 196) (Ref (at 0 196) (lib (codes "digits"))) (item (Ref (at 0 196) (own (codes "n"))) none)) none))) (Call (at 0 196) (Ref (at 0 196) (lib (codes "digits"))) (item (Prim (at 0 196) op.Subtract (item (Const (at 0 196) 2) (item (Ref (at 0 196) (own (codes "n"))) none))) none))))) (item (Define (at 0 196) (lib (codes "digits")) (Lambda (at 0 196) ((own (codes "m")) ∷ []) None (Seq (at 0 196) (item (If (at 0 196) (Prim (at 0 196) op.Less (item (Const (at 0 196) 3) (item (Ref (at 0 196) (own (codes "m"))) none))) (Const (at 0 196) 4) (Call (at 0 196) (Ref (at 0 196) (lib (codes "digits"))) (item (Prim (at 0 196) op.Quotient (item (Ref (at 0 196) (own (codes "m"))) (item (Const (at 0 196) 5) none))) none))) (item (Prim (at 0 196) op.WriteChar (item (Prim (at 0 196) op.IntegerToChar (item (Prim (at 0 196) op.Subtract (item (Const (at 0 196) 6) (item (Prim (at 0 196) op.Remainder (item (Ref (at 0 196) (own (codes "m"))) (item (Const (at 0 196) 7) none))) none))) none)) none)) none))))) (item (Define (at 1 1) (own (codes "a")) (Const (at 1 11) 8)) (item (Define (at 1 14) (own (codes "b")) (Const (at 1 24) 9)) (item (Define (at 1 27) (own (codes "t")) (Const (at 1 37) 10)) (item (Define (at 2 1) (own (codes "f")) (Lambda (at 2 1) [] None (Prim (at 2 13) op.Add (item (Prim (at 2 16) op.Multiply (item (Const (at 2 19) 11) (item (Prim (at 2 22) op.CallCC (item (Lambda (at 2 54) ((own (codes "c")) ∷ []) None (Seq (at 2 66) (item (Set (at 2 73) (own (codes "a")) (Ref (at 2 81) (own (codes "c")))) (item (Const (at 2 84) 12) none)))) none)) none))) (item (Prim (at 3 3) op.CallCC (item (Lambda (at 3 35) ((own (codes "c")) ∷ []) None (Seq (at 3 47) (item (If (at 3 54) (If (at 3 58) (Ref (at 3 63) (own (codes "b"))) (Const (at 3 58) 13) (Const (at 3 58) 14)) (Set (at 3 66) (own (codes "b")) (Ref (at 3 74) (own (codes "c")))) (Const (at 3 54) 15)) (item (Const (at 3 78) 16) none)))) none)) none))))) (item (Call (at 4 1) (Ref (at 4 2) (lib (codes "write"))) (item (Call (at 4 8) (Ref (at 4 9) (own (codes "f"))) none) none)) (item (Set (at 5 1) (own (codes "t")) (Prim (at 5 9) op.Add (item (Ref (at 5 12) (own (codes "t"))) (item (Const (at 5 14) 17) none)))) (item (If (at 6 1) (Prim (at 6 5) op.Equals (item (Ref (at 6 8) (own (codes "t"))) (item (Const (at 6 10) 18) none))) (Call (at 6 13) (Ref (at 6 14) (own (codes "b"))) (item (Const (at 6 16) 19) none)) (If (at 6 19) (Prim (at 6 23) op.Equals (item (Ref (at 6 26) (own (codes "t"))) (item (Const (at 6 28) 20) none))) (Call (at 6 31) (Ref (at 6 32) (own (codes "a"))) (item (Const (at 6 34) 21) none)) (If (at 6 37) (Prim (at 6 41) op.Equals (item (Ref (at 6 44) (own (codes "t"))) (item (Const (at 6 46) 22) none))) (Call (at 6 49) (Ref (at 6 50) (own (codes "b"))) (item (Const (at 6 52) 23) none)) (Const (at 6 37) 24)))) none))))))))

continuations : seen continuations_forms (lit.Integer (pos 0) ∷ lit.Char 45 ∷ lit.Integer (pos 0) ∷ lit.Integer (negsuc 9) ∷ lit.Integer (pos 0) ∷ lit.Integer (pos 10) ∷ lit.Integer (pos 48) ∷ lit.Integer (pos 10) ∷ lit.Boolean false ∷ lit.Boolean false ∷ lit.Integer (pos 0) ∷ lit.Integer (pos 10) ∷ lit.Integer (pos 1) ∷ lit.Boolean false ∷ lit.Boolean true ∷ lit.Unspecified ∷ lit.Integer (pos 2) ∷ lit.Integer (pos 1) ∷ lit.Integer (pos 1) ∷ lit.Integer (pos 5) ∷ lit.Integer (pos 2) ∷ lit.Integer (pos 3) ∷ lit.Integer (pos 3) ∷ lit.Integer (pos 7) ∷ lit.Unspecified ∷ []) quiet 900 ≡ stops (codes "12153217") End
continuations = refl

-- (define (list . xs) xs)(define (second x . r) (car r))(write-char (%apply second (list #\a #\b #\c)))
abbrev applied_forms : Trees Var
applied_forms =
    item (Define (at 1 1) (own (codes "list")) (Lambda (at 1 1) [] (Some (own (codes "xs"))) (Ref (at 1 21) (own (codes "xs"))))) (item (Define (at 1 24) (own (codes "second")) (Lambda (at 1 24) ((own (codes "x")) ∷ []) (Some (own (codes "r"))) (Prim (at 1 47) op.Car (item (Ref (at 1 52) (own (codes "r"))) none)))) (item (Prim (at 1 55) op.WriteChar (item (Prim (at 1 67) op.Apply (item (Ref (at 1 75) (own (codes "second"))) (item (Call (at 1 82) (Ref (at 1 83) (own (codes "list"))) (item (Const (at 1 88) 0) (item (Const (at 1 92) 1) (item (Const (at 1 96) 2) none)))) none))) none)) none))

applied : seen applied_forms (lit.Char 97 ∷ lit.Char 98 ∷ lit.Char 99 ∷ []) quiet 60 ≡ stops (codes "b") End
applied = refl

-- (%apply (lambda (x) x) 5)
abbrev not_a_list_forms : Trees Var
not_a_list_forms =
    item (Prim (at 1 1) op.Apply (item (Lambda (at 1 9) ((own (codes "x")) ∷ []) None (Ref (at 1 21) (own (codes "x")))) (item (Const (at 1 24) 0) none))) none

not_a_list : seen not_a_list_forms (lit.Integer (pos 5) ∷ []) quiet 12 ≡ stops [] (Error WrongType (at 1 1))
not_a_list = refl

-- (%apply (lambda (x) x) '())
abbrev applied_count_forms : Trees Var
applied_count_forms =
    item (Prim (at 1 1) op.Apply (item (Lambda (at 1 9) ((own (codes "x")) ∷ []) None (Ref (at 1 21) (own (codes "x")))) (item (Const (at 1 24) 0) none))) none

applied_count : seen applied_count_forms (lit.Nil ∷ []) quiet 12 ≡ stops [] (Error Count (at 1 1))
applied_count = refl

-- (set! x 1)
abbrev assigned_before_definition_forms : Trees Var
assigned_before_definition_forms =
    item (Set (at 1 1) (own (codes "x")) (Const (at 1 9) 0)) none

assigned_before_definition : seen assigned_before_definition_forms (lit.Integer (pos 1) ∷ []) quiet 12 ≡ stops [] (Error Unbound (at 1 1))
assigned_before_definition = refl

-- (if (eof-object? (peek-char)) (write-char (read-char)))
abbrev end_is_not_kept_forms : Trees Var
end_is_not_kept_forms =
    item (If (at 1 1) (Prim (at 1 5) op.IsEof (item (Prim (at 1 18) op.PeekChar none) none)) (Prim (at 1 31) op.WriteChar (item (Prim (at 1 43) op.ReadChar none) none)) (Const (at 1 1) 0)) none

end_is_not_kept : seen end_is_not_kept_forms (lit.Unspecified ∷ []) end_then_x 20 ≡ stops (codes "x") End
end_is_not_kept = refl

-- ((call-with-current-continuation (lambda (k) k)) 1 2): a continuation takes one operand
abbrev continuation_count_forms : Trees Var
continuation_count_forms =
    item (Call (at 1 1) (Prim (at 1 2) op.CallCC (item (Lambda (at 1 35) (own (codes "k") ∷ []) None (Ref (at 1 47) (own (codes "k")))) none)) (item (Const (at 1 51) 0) (item (Const (at 1 53) 1) none))) none

continuation_count : seen continuation_count_forms (lit.Integer (pos 1) ∷ lit.Integer (pos 2) ∷ []) quiet 20 ≡ stops [] (Error Count (at 1 1))
continuation_count = refl

-- Writes to a literal: (set-car! '(1) 2), (string-set! "abc" 9 #\x), (string-set! (symbol->string 'a) 0 #\b);
-- writes to what the run has made: (vector-set! (make-vector 2 0) 2 0), (string-set! (make-string 1 #\a) 0 #\x)

abbrev literal_pair : Trees Var
literal_pair = item (Prim (at 1 1) op.SetCar (item (Const (at 1 11) 0) (item (Const (at 1 16) 3) none))) none

written_pair : seen literal_pair (lit.Pair 1 2 ∷ lit.Integer (pos 1) ∷ lit.Nil ∷ lit.Integer (pos 2) ∷ []) quiet 20 ≡ stops [] (Error LiteralWritten (at 1 1))
written_pair = refl

abbrev literal_string : Trees Var
literal_string =
    item (Prim (at 1 1) op.StringSet (item (Const (at 1 14) 0) (item (Const (at 1 20) 1) (item (Const (at 1 22) 2) none)))) none

written_string : seen literal_string (lit.Text (codes "abc") ∷ lit.Integer (pos 9) ∷ lit.Char 120 ∷ []) quiet 20 ≡ stops [] (Error LiteralWritten (at 1 1))
written_string = refl

abbrev literal_name : Trees Var
literal_name =
    item (Prim (at 1 1) op.StringSet (item (Prim (at 1 14) op.SymbolName (item (Const (at 1 31) 0) none)) (item (Const (at 1 35) 1) (item (Const (at 1 37) 2) none)))) none

written_name : seen literal_name (lit.Symbol (codes "a") ∷ lit.Integer (pos 0) ∷ lit.Char 98 ∷ []) quiet 20 ≡ stops [] (Error LiteralWritten (at 1 1))
written_name = refl

abbrev made_vector : Trees Var
made_vector =
    item (Prim (at 1 1) op.VectorSet (item (Prim (at 1 14) op.MakeVector (item (Const (at 1 27) 0) (item (Const (at 1 29) 1) none))) (item (Const (at 1 32) 2) (item (Const (at 1 34) 3) none)))) none

past_vector : seen made_vector (lit.Integer (pos 2) ∷ lit.Integer (pos 0) ∷ lit.Integer (pos 2) ∷ lit.Integer (pos 0) ∷ []) quiet 20 ≡ stops [] (Error Index (at 1 1))
past_vector = refl

abbrev made_string : Trees Var
made_string =
    item (Prim (at 1 1) op.StringSet (item (Prim (at 1 14) op.MakeString (item (Const (at 1 27) 0) (item (Const (at 1 29) 1) none))) (item (Const (at 1 34) 2) (item (Const (at 1 36) 3) none)))) none

written_made : seen made_string (lit.Integer (pos 1) ∷ lit.Char 97 ∷ lit.Integer (pos 0) ∷ lit.Char 120 ∷ []) quiet 20 ≡ stops [] End
written_made = refl

-- calls with their answers, the newest first
abbrev calls : Trees Var → List Lit → Env → ℕ → List Event
calls forms lits env steps = trace_of (after (machine (named forms lits) env) steps (start (named forms lits) env))

copy_calls : calls copy_forms [] one_x 10 ≡ Wrote 120 ∷ ReadByte 120 ∷ []
copy_calls = refl

read_fails_calls : calls read_fails_forms [] first_fails 10 ≡ ReadFailed ∷ []
read_fails_calls = refl

end_calls : calls end_is_no_character_forms [] quiet 10 ≡ ReadEnd ∷ []
end_calls = refl
