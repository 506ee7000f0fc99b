-- Open storage of small programs under plans made by hand, with numbers worked out by hand.
--
-- A frame of a procedure that binds v variables, all of them in the frame, has 8(2 + 1 + v) bytes.
--
-- They refuse definitions that count otherwise: `tail_holds` a tail call that leaves a frame, `waiting_holds` local
-- objects that end while their activation waits, `record_holds` records that take nothing, and a continuation
-- without its return points.
use Rattle.std.proofs.Common.{List, [], ◌∷◌, Some, refl}
use Rattle.std.specs.Prelude.{pos, false, replicate}
use Rattle.scheme_base.specs.declared.lit.Lit.{Lit}
use Rattle.scheme_base.specs.declared.lit.Lit.TheVariants as lit
use Rattle.scheme_base.specs.declared.op.Op.TheVariants as op
use Rattle.scheme_base.specs.declared.place.Mark.TheVariants.{Local, Global}
use Rattle.scheme_base.specs.declared.place.Stated.TheVariants as stated
use Rattle.named_form.specs.declared.plan.Plan.{Plan}
use Rattle.named_form.specs.declared.plan.Repr.TheVariants as repr
use Rattle.named_form.specs.Code.{Written, Ends, Const, Prim, Call, CallCC, Copy, Closure, MakeBox, Unbox, SetBox, TopGet, TopSet, TopDefine}
use Rattle.named_form.proofs.Programs.{main, lambda, lambda_rest, steps, does, gives, calling, defining, choice}
use Rattle.scheme_base.proofs.Fixtures.{at}
use Rattle.named_form.proofs.PlanParts.{plan, Holds}

-- (define (f x) (%+ (g x) 1))(define (g y) y)(f 3)
--
-- Frames: the program's, of 7 variables, 80; f's, of 5, 64; g's, of 1, 32.
abbrev pub frames_procs : List Written
frames_procs =
    calling ((at 1 1, 1) ∷ (at 1 28, 2) ∷ []) 0 45 47 44 ∷
    lambda (at 1 1) (7 ∷ []) (
    gives 1 8 (
    (20, TopGet 1 false) ∷ (19, Call 8 (7 ∷ [])) ∷ (25, Const 1) ∷ (15, Prim op.Add (9 ∷ 10 ∷ [])) ∷ [])) ∷
    lambda (at 1 28) (12 ∷ []) (Ends (Some 12)) ∷ []

abbrev pub frames_lits : List Lit
frames_lits = lit.Integer (pos 3) ∷ lit.Integer (pos 1) ∷ []

abbrev pub frames_plan : Plan
frames_plan = plan frames_procs ([] ∷ [] ∷ [] ∷ []) (Global ∷ Global ∷ [])

-- f runs: 64 + 80; g runs: 32 + 64 + 80; back in f, and back in the program
frames_holds : Holds frames_plan frames_procs frames_lits (0 ∷ 7 ∷ 9 ∷ 10 ∷ 20 ∷ []) (80 ∷ 144 ∷ 176 ∷ 144 ∷ 80 ∷ []) 20
frames_holds = (refl, refl)

-- the closures and what the definitions give have no place: the program's frame is 8(2 + 1 + 3)
abbrev pub short_plan : Plan
short_plan =
    record frames_plan {
      slots =
          record frames_plan.slots {
            fictitious =
                record { var = 0; value = stated.Closure 1 }
                ∷ record { var = 1; value = stated.Unspecified }
                ∷ record { var = 2; value = stated.Closure 2 }
                ∷ record { var = 3; value = stated.Unspecified }
                ∷ [];
          };
      reprs =
          record frames_plan.reprs { vars = repr.Nothing ∷ repr.Nothing ∷ repr.Nothing ∷ repr.Nothing ∷ replicate 9 repr.Tagged };
    }

short_holds : Holds short_plan frames_procs frames_lits (9 ∷ []) (144 ∷ []) 20
short_holds = (refl, refl)

-- a variable of the program that has a place for good has none in the frame: 8(2 + 1 + 6)
abbrev pub place_plan : Plan
place_plan = record frames_plan { slots = record frames_plan.slots { global = 5 ∷ [] } }

place_holds : Holds place_plan frames_procs frames_lits (0 ∷ []) (72 ∷ []) 20
place_holds = (refl, refl)

-- (define (f x) (g x))(define (g y) y)(f 3)
--
-- Frames: the program's, of 7 variables, 80; f's, of 3, 48; g's, of 1, 32. The tail call leaves no frame of f.
abbrev pub tail_procs : List Written
tail_procs =
    calling ((at 1 1, 1) ∷ (at 1 21, 2) ∷ []) 0 38 40 37 ∷
    lambda (at 1 1) (7 ∷ []) (gives 1 8 ((16, TopGet 1 false) ∷ (15, Call 8 (7 ∷ [])) ∷ [])) ∷
    lambda (at 1 21) (10 ∷ []) (Ends (Some 10)) ∷ []

abbrev pub tail_lits : List Lit
tail_lits = lit.Integer (pos 3) ∷ []

abbrev pub tail_plan : Plan
tail_plan = plan tail_procs ([] ∷ [] ∷ [] ∷ []) (Global ∷ Global ∷ [])

-- f runs: 48 + 80; g runs: 32 + 80
tail_holds : Holds tail_plan tail_procs tail_lits (7 ∷ 9 ∷ 10 ∷ []) (128 ∷ 112 ∷ 80 ∷ []) 20
tail_holds = (refl, refl)

-- (define (f n) (%car (%cons n n)))(f 1)
--
-- Frames: the program's, of 5 variables, 64; f's, of 3, 48. The pair has 16; its site is 1, after the closure's.
abbrev pub pair_procs : List Written
pair_procs =
    calling ((at 1 1, 1) ∷ []) 0 35 37 34 ∷
    lambda (at 1 1) (5 ∷ []) (gives 1 6 ((21, Prim op.Cons (5 ∷ 5 ∷ [])) ∷ (15, Prim op.Car (6 ∷ [])) ∷ [])) ∷ []

abbrev pub pair_lits : List Lit
pair_lits = lit.Integer (pos 1) ∷ []

abbrev pub local_plan : Plan
local_plan = plan pair_procs ([] ∷ [] ∷ []) (Global ∷ Local ∷ [])

abbrev pub global_plan : Plan
global_plan = plan pair_procs ([] ∷ [] ∷ []) (Global ∷ Global ∷ [])

-- the pair is made: 48 + 64 + 16; it ends with f
local_holds : Holds local_plan pair_procs pair_lits (6 ∷ 8 ∷ []) (128 ∷ 64 ∷ []) 20
local_holds = (refl, refl)

-- or it stays: 64 + 16
global_holds : Holds global_plan pair_procs pair_lits (6 ∷ 8 ∷ []) (128 ∷ 80 ∷ []) 20
global_holds = (refl, refl)

-- (define (f n) (let ((p (%cons n n))) (begin (g n) (%car p))))(define (g y) y)(f 1)
--
-- Frames: the program's, of 7 variables, 80; f's, of 6, 72; g's, of 1, 32. The pair has 16; its site is 2, after
-- those of the two closures.
abbrev pub waiting_procs : List Written
waiting_procs =
    calling ((at 1 1, 1) ∷ (at 1 63, 2) ∷ []) 0 80 82 79 ∷
    lambda (at 1 1) (7 ∷ []) (
    gives 1 8 (
    (24, Prim op.Cons (7 ∷ 7 ∷ [])) ∷ (15, Copy 8) ∷ (46, TopGet 1 false) ∷ (45, Call 10 (7 ∷ [])) ∷
    (51, Prim op.Car (9 ∷ [])) ∷ [])) ∷
    lambda (at 1 63) (13 ∷ []) (Ends (Some 13)) ∷ []

abbrev pub waiting_plan : Plan
waiting_plan = plan waiting_procs ([] ∷ [] ∷ [] ∷ []) (Global ∷ Global ∷ Local ∷ [])

-- g runs, and f's pair stays while f waits: 32 + 72 + 80 + 16
waiting_holds : Holds waiting_plan waiting_procs pair_lits (11 ∷ 12 ∷ 14 ∷ []) (200 ∷ 168 ∷ 80 ∷ []) 20
waiting_holds = (refl, refl)

-- (define (f . r) (%car r))(f 1 2)
--
-- Frames: the program's, of 6 variables, 72; f's, of 2, 40. The list that f makes has two pairs, 32; its site is 1,
-- after the closure's.
abbrev pub rest_procs : List Written
rest_procs =
    defining ((at 1 1, 1) ∷ []) (
    does 1 2 ((27, TopGet 0 false) ∷ (29, Const 0) ∷ (31, Const 1) ∷ (26, Call 2 (3 ∷ 4 ∷ [])) ∷ [])) ∷
    lambda_rest (at 1 1) [] 6 (gives 1 7 ((17, Prim op.Car (6 ∷ [])) ∷ [])) ∷ []

abbrev pub rest_lits : List Lit
rest_lits = lit.Integer (pos 1) ∷ lit.Integer (pos 2) ∷ []

abbrev pub rest_plan : Plan
rest_plan = plan rest_procs ([] ∷ [] ∷ []) (Global ∷ Local ∷ [])

-- f runs, and has made its list: 40 + 72 + 32
rest_holds : Holds rest_plan rest_procs rest_lits (6 ∷ 8 ∷ []) (144 ∷ 72 ∷ []) 20
rest_holds = (refl, refl)

-- (define (f x) (begin (set! x 2) x))(f 1)
--
-- Frames: the program's, of 5 variables, 64; f's, of 5, 64. The box has 8.
abbrev pub box_procs : List Written
box_procs =
    calling ((at 1 1, 1) ∷ []) 0 37 39 36 ∷
    lambda (at 1 1) (5 ∷ []) (
    gives 1 6 ((1, MakeBox 5) ∷ (30, Const 1) ∷ (22, SetBox 6 7) ∷ (33, Unbox 6 false) ∷ [])) ∷ []

abbrev pub box_lits : List Lit
box_lits = rest_lits

abbrev pub box_plan : Plan
box_plan = plan box_procs ([] ∷ [] ∷ []) (Global ∷ Local ∷ [])

-- 64 + 64, then with the box, then without f
box_holds : Holds box_plan box_procs box_lits (5 ∷ 6 ∷ 10 ∷ []) (128 ∷ 136 ∷ 64 ∷ []) 20
box_holds = (refl, refl)

-- (define (make n) (lambda () n))((make 5))
--
-- Frames: the program's, of 6 variables, 72; make's, of 2, 40; that of the closure's procedure, of none, 24. The
-- closure keeps n and has 16.
abbrev pub closure_procs : List Written
closure_procs =
    defining ((at 1 1, 1) ∷ []) (
    does 1 2 ((34, TopGet 0 false) ∷ (39, Const 0) ∷ (33, Call 2 (3 ∷ [])) ∷ (32, Call 4 []) ∷ [])) ∷
    lambda (at 1 1) (6 ∷ []) (gives 1 7 ((18, Closure 2) ∷ [])) ∷
    lambda (at 1 18) [] (Ends (Some 6)) ∷ []

abbrev pub closure_lits : List Lit
closure_lits = lit.Integer (pos 5) ∷ []

abbrev pub closure_plan : Plan
closure_plan = plan closure_procs ([] ∷ [] ∷ (6 ∷ []) ∷ []) (Global ∷ Global ∷ [])

-- make runs: 40 + 72, and with the closure 16 more; the closure runs: 24 + 72 + 16
closure_holds : Holds closure_plan closure_procs closure_lits (5 ∷ 6 ∷ 8 ∷ 20 ∷ []) (112 ∷ 128 ∷ 112 ∷ 88 ∷ []) 20
closure_holds = (refl, refl)

-- (define k #f)(define n 0)
-- (%call/cc (lambda (c) (begin (set! k c) 1)))
-- (set! n (%+ n 1))
-- (if (%< n 2) (k n))
--
-- Frames: the program's, of 18 variables, 168; that of the lambda expression, of 3, 48. The continuation has 16.
-- Both calls are in record mode: each leaves the program's frame in a record, which stays.
abbrev pub record_procs : List Written
record_procs =
    main (
    steps 1 0 ((11, Const 0) ∷ (1, TopDefine 0 0) ∷ (24, Const 1) ∷ (14, TopDefine 1 2) ∷ []) (
    steps 2 4 ((11, Closure 1) ∷ (1, CallCC 4) ∷ []) (
    steps 3 6 (
    (13, TopGet 1 false) ∷ (15, Const 3) ∷ (9, Prim op.Add (6 ∷ 7 ∷ [])) ∷ (1, TopSet 1 8 false) ∷ []) (
    does 4 10 (
    (9, TopGet 1 false) ∷ (11, Const 4) ∷ (5, Prim op.Less (10 ∷ 11 ∷ [])) ∷ choice 1 12
    (gives 4 14 ((15, TopGet 0 false) ∷ (17, TopGet 1 false) ∷ (14, Call 14 (15 ∷ [])) ∷ []))
    (gives 4 17 ((1, Const 5) ∷ [])) ∷ []))))) ∷
    lambda (at 2 11) (18 ∷ []) (gives 2 19 ((30, TopSet 0 18 false) ∷ (41, Const 2) ∷ [])) ∷ []

abbrev pub record_lits : List Lit
record_lits =
    lit.Boolean false ∷ lit.Integer (pos 0) ∷ lit.Integer (pos 1) ∷ lit.Integer (pos 1) ∷ lit.Integer (pos 2)
    ∷ lit.Unspecified ∷ []

abbrev pub record_plan : Plan
record_plan =
    record (plan record_procs ([] ∷ [] ∷ []) (Global ∷ Global ∷ [])) {
      capturing = record { procs = 0 ∷ 1 ∷ []; recording = 5 ∷ 16 ∷ [] };
    }

-- the procedure runs, and the program's frame is in a record: 48 + 168 + 16; the record is entered: 168 + 168 + 16;
-- the call of the continuation makes a record of its own, and the first is entered again: 168 + 168 + 168 + 16
record_holds : Holds record_plan record_procs record_lits (5 ∷ 6 ∷ 9 ∷ 20 ∷ 40 ∷ []) (168 ∷ 232 ∷ 352 ∷ 520 ∷ 520 ∷ []) 40
record_holds = (refl, refl)
