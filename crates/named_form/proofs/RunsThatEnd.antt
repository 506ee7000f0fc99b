-- Runs of programs, written in named form: what they write, and that they end.
--
-- Expected values are R4RS's and this profile's, worked out by hand. A program stands in line 1 of its
-- text; what it needs of the library is written out before, all at 0:196.
--
-- They refuse definitions of another meaning: `loop_points` a tail call that makes a return point, `reentered`
-- a continuation without its return points, `applied` a rest parameter that has all operands, `least_number` a
-- return that forgets the arms around the call, `loop` closures that keep nothing.
use Rattle.std.proofs.Common.{◌≡◌, List, [], ◌∷◌, ◌++◌, Some, refl}
use Rattle.std.specs.Prelude.{pos, negsuc, codes, true, false}
use Rattle.scheme_base.specs.declared.lit.Lit.{Lit}
use Rattle.scheme_base.specs.declared.lit.Lit.TheVariants as lit
use Rattle.scheme_base.specs.declared.op.Op.TheVariants as op
use Rattle.scheme_base.specs.Stops.{End}
use Rattle.named_form.specs.Code.{Written, Ends, Const, Copy, Prim, Call, Apply, CallCC, Closure, Fix, TopGet, TopSet, TopDefine}
use Rattle.scheme_base.proofs.Fixtures.{at, quiet, stops}
use Rattle.named_form.proofs.Library.{integer_writer, integer_writer_lits, string_writer, writing}
use Rattle.named_form.proofs.Programs.{main, lambda, lambda_rest, define, seen, points_made, steps, does, gives, defining, choice}

-- (display "hi")(newline)
abbrev text_procs : List Written
text_procs =
    defining ((at 0 196, 1) ∷ (at 0 196, 2) ∷ (at 0 196, 3) ∷ []) (
    does 1 6 (
    (2, TopGet 1 false) ∷ (10, Const 4) ∷ (1, Call 6 (7 ∷ [])) ∷ (16, TopGet 2 false) ∷ (15, Call 9 []) ∷ [])) ∷
    (string_writer 11 0 0 ++
    lambda (at 0 196) (23 ∷ []) (
    gives 0 24 ((196, TopGet 0 false) ∷ (196, Const 2) ∷ (196, Call 24 (23 ∷ 25 ∷ [])) ∷ [])) ∷
    lambda (at 0 196) [] (gives 0 27 ((196, Const 3) ∷ (196, Prim op.WriteChar (27 ∷ [])) ∷ [])) ∷ [])

text : seen text_procs (lit.Integer (pos 0) ∷ lit.Integer (pos 1) ∷ lit.Integer (pos 0) ∷ lit.Char 10 ∷ lit.Text (codes "hi") ∷ []) quiet 300 ≡ stops (codes "hi\n") End
text = refl

-- (write (- -2305843009213693951 1))
least_number : seen (writing op.Subtract 32) (integer_writer_lits ++ lit.Integer (negsuc 2305843009213693950) ∷ lit.Integer (pos 1) ∷ []) quiet 600 ≡ stops (codes "-2305843009213693952") End
least_number = refl

-- (letrec ((do (lambda (i) (if (= i 9) 7 (do (+ i 1)))))) (do 0))
abbrev pub loop_procs : List Written
loop_procs =
    main (does 1 0 ((1, Fix (1 ∷ [])) ∷ (61, Const 3) ∷ (57, Call 0 (1 ∷ [])) ∷ [])) ∷
    lambda (at 1 14) (3 ∷ []) (
    gives 1 4 (
    (35, Const 0) ∷ (30, Prim op.Equals (3 ∷ 4 ∷ [])) ∷ choice 26 5
    (gives 1 7 ((38, Const 1) ∷ []))
    (gives 1 8 ((49, Const 2) ∷ (44, Prim op.Add (3 ∷ 8 ∷ [])) ∷ (40, Call 0 (9 ∷ [])) ∷ [])) ∷ [])) ∷ []

abbrev pub loop_lits : List Lit
loop_lits = lit.Integer (pos 9) ∷ lit.Integer (pos 7) ∷ lit.Integer (pos 1) ∷ lit.Integer (pos 0) ∷ []

loop : seen loop_procs loop_lits quiet 300 ≡ stops [] End
loop = refl

-- (define (f n) (let ((p (cons n n))) (car p)))(define (loop i) (if (= i 0) 0 (begin (f i) (loop (- i 1)))))(loop 5)(write-char #\z)
abbrev pairs_procs : List Written
pairs_procs =
    defining ((at 1 1, 1) ∷ (at 1 46, 2) ∷ []) (
    does 1 4 (
    (108, TopGet 1 false) ∷ (113, Const 3) ∷ (107, Call 4 (5 ∷ [])) ∷ (127, Const 4) ∷
    (115, Prim op.WriteChar (7 ∷ [])) ∷ [])) ∷
    lambda (at 1 1) (9 ∷ []) (
    gives 1 10 ((24, Prim op.Cons (9 ∷ 9 ∷ [])) ∷ (15, Copy 10) ∷ (37, Prim op.Car (11 ∷ [])) ∷ [])) ∷
    lambda (at 1 46) (13 ∷ []) (
    gives 1 14 (
    (72, Const 0) ∷ (67, Prim op.Equals (13 ∷ 14 ∷ [])) ∷ choice 63 15
    (gives 1 17 ((75, Const 1) ∷ []))
    (gives 1 18 (
    (85, TopGet 0 false) ∷ (84, Call 18 (13 ∷ [])) ∷ (91, TopGet 1 false) ∷ (101, Const 2) ∷
    (96, Prim op.Subtract (13 ∷ 21 ∷ [])) ∷ (90, Call 20 (22 ∷ [])) ∷ [])) ∷ [])) ∷ []

pairs : seen pairs_procs (lit.Integer (pos 0) ∷ lit.Integer (pos 0) ∷ lit.Integer (pos 1) ∷ lit.Integer (pos 5) ∷ lit.Char 122 ∷ []) quiet 300 ≡ stops (codes "z") End
pairs = refl

-- (define n 0)(define k #f)(write (call-with-current-continuation (lambda (c) (begin (set! k c) 0))))(set! n (+ n 1))(if (< n 3) (k n))
abbrev pub reentered_procs : List Written
reentered_procs =
    defining ((at 0 196, 1) ∷ (at 0 196, 2) ∷ []) (
    does 1 4 (
    (11, Const 8) ∷ (1, TopDefine 2 4) ∷ (23, Const 9) ∷ (13, TopDefine 3 6) ∷ (27, TopGet 0 false) ∷
    (65, Closure 3) ∷ (33, CallCC 9) ∷ (26, Call 8 (10 ∷ [])) ∷ (111, TopGet 2 false) ∷ (113, Const 11) ∷
    (108, Prim op.Add (12 ∷ 13 ∷ [])) ∷ (100, TopSet 2 14 false) ∷ (123, TopGet 2 false) ∷ (125, Const 12) ∷
    (120, Prim op.Less (16 ∷ 17 ∷ [])) ∷ choice 116 18
    (gives 1 20 ((129, TopGet 3 false) ∷ (131, TopGet 2 false) ∷ (128, Call 20 (21 ∷ [])) ∷ []))
    (gives 1 23 ((116, Const 13) ∷ [])) ∷ [])) ∷
    (integer_writer 24 0 0 ++
    lambda (at 1 65) (51 ∷ []) (gives 1 52 ((84, TopSet 3 51 false) ∷ (95, Const 10) ∷ [])) ∷ [])

abbrev pub reentered_lits : List Lit
reentered_lits =
    integer_writer_lits
    ++ lit.Integer (pos 0) ∷ lit.Boolean false ∷ lit.Integer (pos 0) ∷ lit.Integer (pos 1) ∷ lit.Integer (pos 3)
    ∷ lit.Unspecified ∷ []

reentered : seen reentered_procs reentered_lits quiet 300 ≡ stops (codes "012") End
reentered = refl

-- (define (list . xs) xs)(list (begin (write-char #\a) 1) (begin (write-char #\b) 2))
abbrev pub left_to_right_procs : List Written
left_to_right_procs =
    defining ((at 1 1, 1) ∷ []) (
    does 1 2 (
    (25, TopGet 0 false) ∷ (49, Const 0) ∷ (37, Prim op.WriteChar (3 ∷ [])) ∷ (54, Const 1) ∷
    (76, Const 2) ∷ (64, Prim op.WriteChar (6 ∷ [])) ∷ (81, Const 3) ∷ (24, Call 2 (5 ∷ 8 ∷ [])) ∷ [])) ∷
    lambda_rest (at 1 1) [] 10 (Ends (Some 10)) ∷ []

left_to_right : seen left_to_right_procs (lit.Char 97 ∷ lit.Integer (pos 1) ∷ lit.Char 98 ∷ lit.Integer (pos 2) ∷ []) quiet 300 ≡ stops (codes "ab") End
left_to_right = refl

-- (let ((p (lambda (x) x))) (write (eqv? p p)))(define (m) (lambda (x) x))(write (eqv? (m) (m)))
abbrev identity_procs : List Written
identity_procs =
    defining ((at 0 196, 1) ∷ []) (
    steps 1 2 (
    (10, Closure 2) ∷ (1, Copy 2) ∷ (28, TopGet 0 false) ∷ (34, Prim op.Eqv (3 ∷ 3 ∷ [])) ∷
    (27, Call 4 (5 ∷ [])) ∷ []) (
    define (at 1 46) 7 3 1 (
    does 1 9 (
    (74, TopGet 0 false) ∷ (87, TopGet 1 false) ∷ (86, Call 10 []) ∷ (91, TopGet 1 false) ∷
    (90, Call 12 []) ∷ (80, Prim op.Eqv (11 ∷ 13 ∷ [])) ∷ (73, Call 9 (14 ∷ [])) ∷ [])))) ∷
    lambda (at 0 196) (16 ∷ []) (
    steps 0 17 (
    (196, Const 0) ∷ (196, Prim op.WriteChar (17 ∷ [])) ∷
    choice 196 16 (gives 0 20 ((196, Const 1) ∷ [])) (gives 0 21 ((196, Const 2) ∷ [])) ∷ []) (
    gives 0 22 ((196, Prim op.WriteChar (19 ∷ [])) ∷ []))) ∷
    lambda (at 1 10) (23 ∷ []) (Ends (Some 23)) ∷
    lambda (at 1 46) [] (gives 1 24 ((58, Closure 4) ∷ [])) ∷
    lambda (at 1 58) (25 ∷ []) (Ends (Some 25)) ∷ []

identity : seen identity_procs (lit.Char 35 ∷ lit.Char 116 ∷ lit.Char 102 ∷ []) quiet 300 ≡ stops (codes "#t#f") End
identity = refl

-- (show (symbol->string (let ((v 3)) (if (if (eqv? v '1) #t (eqv? v '2)) 'low (if (eqv? v '3) 'HIGH 0)))) 0)(write (modulo -7 2))(write (remainder -7 2))(write (quotient -7 2))
abbrev symbol_and_division_procs : List Written
symbol_and_division_procs =
    defining ((at 0 196, 1) ∷ (at 0 196, 2) ∷ (at 0 196, 3) ∷ []) (
    steps 1 6 (
    (2, TopGet 2 false) ∷ (32, Const 17) ∷ (23, Copy 7) ∷ (52, Const 10) ∷ (44, Prim op.Eqv (8 ∷ 9 ∷ [])) ∷ choice 40 10
    (gives 1 12 ((56, Const 11) ∷ []))
    (gives 1 13 ((67, Const 12) ∷ (59, Prim op.Eqv (8 ∷ 13 ∷ [])) ∷ [])) ∷ []) (
    steps 1 15 (choice 36 11
    (gives 1 16 ((72, Const 13) ∷ []))
    (gives 1 17 (
    (89, Const 14) ∷ (81, Prim op.Eqv (8 ∷ 17 ∷ [])) ∷
    choice 77 18 (gives 1 20 ((93, Const 15) ∷ [])) (gives 1 21 ((99, Const 16) ∷ [])) ∷ [])) ∷ []) (
    does 1 22 (
    (7, Prim op.SymbolName (15 ∷ [])) ∷ (105, Const 18) ∷ (1, Call 6 (22 ∷ 23 ∷ [])) ∷
    (108, TopGet 0 false) ∷ (122, Const 19) ∷ (125, Const 20) ∷ (114, Prim op.Modulo (26 ∷ 27 ∷ [])) ∷
    (107, Call 25 (28 ∷ [])) ∷ (129, TopGet 0 false) ∷ (146, Const 21) ∷ (149, Const 22) ∷
    (135, Prim op.Remainder (31 ∷ 32 ∷ [])) ∷ (128, Call 30 (33 ∷ [])) ∷ (153, TopGet 0 false) ∷
    (169, Const 23) ∷ (172, Const 24) ∷ (159, Prim op.Quotient (36 ∷ 37 ∷ [])) ∷ (152, Call 35 (38 ∷ [])) ∷ [])))) ∷
    (integer_writer 40 0 0 ++
    (string_writer 67 8 2 ++ []))

symbol_and_division : seen symbol_and_division_procs (integer_writer_lits ++ lit.Integer (pos 0) ∷ lit.Integer (pos 1) ∷ lit.Integer (pos 1) ∷ lit.Boolean true ∷ lit.Integer (pos 2) ∷ lit.Symbol (codes "low") ∷ lit.Integer (pos 3) ∷ lit.Symbol (codes "high") ∷ lit.Integer (pos 0) ∷ lit.Integer (pos 3) ∷ lit.Integer (pos 0) ∷ lit.Integer (negsuc 6) ∷ lit.Integer (pos 2) ∷ lit.Integer (negsuc 6) ∷ lit.Integer (pos 2) ∷ lit.Integer (negsuc 6) ∷ lit.Integer (pos 2) ∷ []) quiet 300 ≡ stops (codes "high1-1-3") End
symbol_and_division = refl

-- (define a #f)(define b #f)(define t 0)
-- (define (f) (+ (* 10 (call-with-current-continuation (lambda (c) (begin (set! a c) 1))))
--   (call-with-current-continuation (lambda (c) (begin (if (not b) (set! b c)) 2)))))
-- (write (f))
-- (set! t (+ t 1))
-- (if (= t 1) (b 5) (if (= t 2) (a 3) (if (= t 3) (b 7))))
abbrev continuations_procs : List Written
continuations_procs =
    defining ((at 0 196, 1) ∷ (at 0 196, 2) ∷ []) (
    steps 1 4 (
    (11, Const 8) ∷ (1, TopDefine 2 4) ∷ (24, Const 9) ∷ (14, TopDefine 3 6) ∷ (37, Const 10) ∷
    (27, TopDefine 4 8) ∷ []) (
    define (at 2 1) 10 3 5 (
    steps 4 12 ((2, TopGet 0 false) ∷ (9, TopGet 5 false) ∷ (8, Call 13 []) ∷ (1, Call 12 (14 ∷ [])) ∷ []) (
    steps 5 16 (
    (12, TopGet 4 false) ∷ (14, Const 17) ∷ (9, Prim op.Add (16 ∷ 17 ∷ [])) ∷ (1, TopSet 4 18 false) ∷ []) (
    does 6 20 (
    (8, TopGet 4 false) ∷ (10, Const 18) ∷ (5, Prim op.Equals (20 ∷ 21 ∷ [])) ∷ choice 1 22
    (gives 6 24 ((14, TopGet 3 false) ∷ (16, Const 19) ∷ (13, Call 24 (25 ∷ [])) ∷ []))
    (gives 6 27 (
    (26, TopGet 4 false) ∷ (28, Const 20) ∷ (23, Prim op.Equals (27 ∷ 28 ∷ [])) ∷ choice 19 29
    (gives 6 31 ((32, TopGet 2 false) ∷ (34, Const 21) ∷ (31, Call 31 (32 ∷ [])) ∷ []))
    (gives 6 34 (
    (44, TopGet 4 false) ∷ (46, Const 22) ∷ (41, Prim op.Equals (34 ∷ 35 ∷ [])) ∷ choice 37 36
    (gives 6 38 ((50, TopGet 3 false) ∷ (52, Const 23) ∷ (49, Call 38 (39 ∷ [])) ∷ []))
    (gives 6 41 ((37, Const 24) ∷ [])) ∷ [])) ∷ [])) ∷ [])))))) ∷
    (integer_writer 42 0 0 ++
    lambda (at 2 1) [] (
    steps 2 69 (
    (19, Const 11) ∷ (54, Closure 4) ∷ (22, CallCC 70) ∷ (16, Prim op.Multiply (69 ∷ 71 ∷ [])) ∷ []) (
    steps 3 73 ((35, Closure 5) ∷ (3, CallCC 73) ∷ []) (
    gives 2 75 ((13, Prim op.Add (72 ∷ 74 ∷ [])) ∷ [])))) ∷
    lambda (at 2 54) (76 ∷ []) (gives 2 77 ((73, TopSet 2 76 false) ∷ (84, Const 12) ∷ [])) ∷
    lambda (at 3 35) (79 ∷ []) (
    steps 3 80 (
    (63, TopGet 3 false) ∷
    choice 58 80 (gives 3 82 ((58, Const 13) ∷ [])) (gives 3 83 ((58, Const 14) ∷ [])) ∷ []) (
    steps 3 84 (
    choice 54 81 (gives 3 85 ((66, TopSet 3 79 false) ∷ [])) (gives 3 86 ((54, Const 15) ∷ [])) ∷ []) (
    gives 3 87 ((78, Const 16) ∷ [])))) ∷ [])

continuations : seen continuations_procs (integer_writer_lits ++ lit.Boolean false ∷ lit.Boolean false ∷ lit.Integer (pos 0) ∷ lit.Integer (pos 10) ∷ lit.Integer (pos 1) ∷ lit.Boolean false ∷ lit.Boolean true ∷ lit.Unspecified ∷ lit.Integer (pos 2) ∷ lit.Integer (pos 1) ∷ lit.Integer (pos 1) ∷ lit.Integer (pos 5) ∷ lit.Integer (pos 2) ∷ lit.Integer (pos 3) ∷ lit.Integer (pos 3) ∷ lit.Integer (pos 7) ∷ lit.Unspecified ∷ []) quiet 700 ≡ stops (codes "12153217") End
continuations = refl

-- (define (list . xs) xs)(define (second x . r) (car r))(write-char (%apply second (list #\a #\b #\c)))
abbrev applied_procs : List Written
applied_procs =
    defining ((at 1 1, 1) ∷ (at 1 24, 2) ∷ []) (
    does 1 4 (
    (75, TopGet 1 false) ∷ (83, TopGet 0 false) ∷ (88, Const 0) ∷ (92, Const 1) ∷ (96, Const 2) ∷
    (82, Call 5 (6 ∷ 7 ∷ 8 ∷ [])) ∷ (67, Apply 4 9) ∷ (55, Prim op.WriteChar (10 ∷ [])) ∷ [])) ∷
    lambda_rest (at 1 1) [] 12 (Ends (Some 12)) ∷
    lambda_rest (at 1 24) (13 ∷ []) 14 (gives 1 15 ((47, Prim op.Car (14 ∷ [])) ∷ [])) ∷ []

applied : seen applied_procs (lit.Char 97 ∷ lit.Char 98 ∷ lit.Char 99 ∷ []) quiet 300 ≡ stops (codes "b") End
applied = refl

-- A tail call makes no return point: the first call of the loop makes one, those in it none.
loop_points : points_made loop_procs loop_lits quiet 300 ≡ 1
loop_points = refl
