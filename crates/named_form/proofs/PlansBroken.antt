-- Plans that are not valid, each with the part that it breaks.
--
-- They refuse definitions that let such a plan pass: `escaping_pair` and `local_closure` ones where what is
-- returned or entered by is not looked at, `local_list` one without the rule for `%apply`.
use Rattle.std.proofs.Common.{◌≡◌, ℕ, List, [], ◌∷◌, ◌++◌, Some, refl}
use Rattle.std.specs.Prelude.{pos, Bool, true, false, replicate}
use Rattle.scheme_base.specs.declared.lit.Lit.{Lit}
use Rattle.scheme_base.specs.declared.lit.Lit.TheVariants as lit
use Rattle.scheme_base.specs.declared.op.Op.TheVariants as op
use Rattle.scheme_base.specs.declared.pos.Pos.{Pos}
use Rattle.scheme_base.specs.declared.place.Mark.TheVariants.{Local, Global}
use Rattle.scheme_base.specs.declared.place.Stated.TheVariants as stated
use Rattle.named_form.specs.declared.plan.Plan.{Plan}
use Rattle.named_form.specs.declared.plan.Repr.TheVariants as repr
use Rattle.named_form.specs.Code.{Act, Written, Ends, Const, Copy, Prim, Call, Apply, CallCC, Closure, TopGet, TopSet, TopDefine, program}
use Rattle.named_form.specs.ValidPlan.{ValidPlan}
use Rattle.named_form.proofs.Programs.{main, lambda, define, steps, does, gives, calling, defining, choice}
use Rattle.scheme_base.proofs.Fixtures.{at, quiet}
use Rattle.named_form.proofs.PlanParts.{plan, used, fails, Reached, Fictions, Homes, Pointers, Lists, Checks, Bare, QuietCalls, CapturedGlobal, CaptureModes, CaptureEntries, CaptureTails, Compared, Begun, KeptFree, GlobalsOwn, HeldOrNot}
use Rattle.named_form.proofs.StorageHeld.{frames_procs, frames_lits, frames_plan, tail_procs, tail_lits, tail_plan, pair_procs, pair_lits, local_plan, closure_procs, closure_lits, closure_plan, record_procs, record_lits, record_plan}

never : false ≡ true → ⊥
never h = cc

-- (define (f n) (%cons n n))(f 1): the pair is returned
abbrev escaping_pair_procs : List Written
escaping_pair_procs =
    calling ((at 1 1, 1) ∷ []) 0 28 30 27 ∷
    lambda (at 1 1) (5 ∷ []) (gives 1 6 ((15, Prim op.Cons (5 ∷ 5 ∷ [])) ∷ [])) ∷ []

abbrev one : List Lit
one = lit.Integer (pos 1) ∷ []

abbrev escaping_pair_plan : Plan
escaping_pair_plan = plan escaping_pair_procs ([] ∷ [] ∷ []) (Global ∷ Local ∷ [])

escaping_pair : fails escaping_pair_plan escaping_pair_procs one 20 ≡ Pointers ∷ []
escaping_pair = refl

escaping_pair_is_refused : ValidPlan escaping_pair_plan (program escaping_pair_procs one) → ⊥
escaping_pair_is_refused v = never (v.pointers quiet 7)

-- where it stays, nothing fails
escaping_pair_stays : fails (plan escaping_pair_procs ([] ∷ [] ∷ []) (Global ∷ Global ∷ [])) escaping_pair_procs one 20 ≡ []
escaping_pair_stays = refl

-- (define (f x) (let ((g (lambda () x))) (g)))(f 1): a tail call of a local closure
abbrev local_closure_procs : List Written
local_closure_procs =
    calling ((at 1 1, 1) ∷ []) 0 46 48 45 ∷
    lambda (at 1 1) (5 ∷ []) (gives 1 6 ((24, Closure 2) ∷ (15, Copy 6) ∷ (40, Call 7 []) ∷ [])) ∷
    lambda (at 1 24) [] (Ends (Some 5)) ∷ []

abbrev local_closure_plan : Plan
local_closure_plan = plan local_closure_procs ([] ∷ [] ∷ (5 ∷ []) ∷ []) (Global ∷ Local ∷ [])

local_closure : fails local_closure_plan local_closure_procs one 20 ≡ Pointers ∷ []
local_closure = refl

local_closure_is_refused : ValidPlan local_closure_plan (program local_closure_procs one) → ⊥
local_closure_is_refused v = never (v.pointers quiet 8)

closure_stays : fails (plan local_closure_procs ([] ∷ [] ∷ (5 ∷ []) ∷ []) (Global ∷ Global ∷ [])) local_closure_procs one 20 ≡ []
closure_stays = refl

-- (define (f x) (%apply g (%cons x '())))(define (g y) y)(f 1): a tail call with a local list
abbrev local_list_procs : List Written
local_list_procs =
    calling ((at 1 1, 1) ∷ (at 1 40, 2) ∷ []) 1 57 59 56 ∷
    lambda (at 1 1) (7 ∷ []) (
    gives 1 8 (
    (23, TopGet 1 false) ∷ (34, Const 0) ∷ (25, Prim op.Cons (7 ∷ 9 ∷ [])) ∷ (15, Apply 8 10) ∷ [])) ∷
    lambda (at 1 40) (12 ∷ []) (Ends (Some 12)) ∷ []

abbrev nil_and_one : List Lit
nil_and_one = lit.Nil ∷ lit.Integer (pos 1) ∷ []

abbrev local_list_plan : Plan
local_list_plan = plan local_list_procs ([] ∷ [] ∷ [] ∷ []) (Global ∷ Global ∷ Local ∷ [])

local_list : fails local_list_plan local_list_procs nil_and_one 20 ≡ Lists ∷ []
local_list = refl

local_list_is_refused : ValidPlan local_list_plan (program local_list_procs nil_and_one) → ⊥
local_list_is_refused v = never (v.lists quiet 10)

list_stays : fails (plan local_list_procs ([] ∷ [] ∷ [] ∷ []) (Global ∷ Global ∷ Global ∷ [])) local_list_procs nil_and_one 20 ≡ []
list_stays = refl

-- a step that runs is called unreached
unreached : fails (record frames_plan { reprs = record frames_plan.reprs { steps = used ∷ used ∷ [] } }) frames_procs frames_lits 20 ≡ Reached ∷ []
unreached = refl

-- and a body that is begun
unreached_body : fails (record frames_plan { reprs = record frames_plan.reprs { blocks = true ∷ true ∷ [] } }) frames_procs frames_lits 20 ≡ Reached ∷ []
unreached_body = refl

-- (%car '()), without the check that refuses it
abbrev unchecked_procs : List Written
unchecked_procs =
    main (does 1 0 ((7, Const 0) ∷ (1, Prim op.Car (0 ∷ [])) ∷ [])) ∷ []

unchecked : fails (record (plan unchecked_procs ([] ∷ []) []) { reprs = record { vars = []; blocks = true ∷ []; steps = used ∷ record { reached = true; checked = false } ∷ [] } }) unchecked_procs (lit.Nil ∷ []) 20 ≡ Checks ∷ []
unchecked = refl

checked : fails (plan unchecked_procs ([] ∷ []) []) unchecked_procs (lit.Nil ∷ []) 20 ≡ []
checked = refl

-- a variable that is stated to be another value, and one that holds no integer where it is to be bare
abbrev wrong_value : Plan
wrong_value =
    record frames_plan {
      slots = record frames_plan.slots { fictitious = record { var = 5; value = stated.Nil } ∷ [] };
      reprs = record frames_plan.reprs { vars = replicate 5 repr.Tagged ++ repr.Nothing ∷ replicate 7 repr.Tagged };
    }

stated_wrongly : fails wrong_value frames_procs frames_lits 20 ≡ Fictions ∷ []
stated_wrongly = refl

no_integer : fails (record frames_plan { reprs = record frames_plan.reprs { vars = repr.Raw ∷ [] } }) frames_procs frames_lits 20 ≡ Bare ∷ []
no_integer = refl

-- a closure that does not keep what its procedure reads
nothing_kept : fails (record closure_plan { slots = record closure_plan.slots { kept = [] } }) closure_procs closure_lits 20 ≡ Homes ∷ []
nothing_kept = refl

-- (define (m) (lambda (x) x))(%eqv? (m) (m)): two closures of one procedure are told apart
abbrev told_procs : List Written
told_procs =
    defining ((at 1 1, 1) ∷ []) (
    does 1 2 (
    (36, TopGet 0 false) ∷ (35, Call 2 []) ∷ (40, TopGet 0 false) ∷ (39, Call 4 []) ∷
    (28, Prim op.Eqv (3 ∷ 5 ∷ [])) ∷ [])) ∷
    lambda (at 1 1) [] (gives 1 7 ((13, Closure 2) ∷ [])) ∷
    lambda (at 1 13) (8 ∷ []) (Ends (Some 8)) ∷ []

abbrev told_plan : Plan
told_plan = plan told_procs ([] ∷ [] ∷ [] ∷ []) (Global ∷ Global ∷ [])

told_apart : fails told_plan told_procs [] 20 ≡ Compared ∷ []
told_apart = refl

compared : fails (record told_plan { slots = record told_plan.slots { compared = 2 ∷ [] } }) told_procs [] 20 ≡ []
compared = refl

-- the program that enters a record twice, where nothing captures; with a local continuation; and without record
-- mode
nothing_captures : fails (record record_plan { capturing = record { procs = []; recording = [] } }) record_procs record_lits 40 ≡ QuietCalls ∷ []
nothing_captures = refl

local_continuation : fails (record record_plan { marks = Global ∷ Local ∷ [] }) record_procs record_lits 40 ≡ CapturedGlobal ∷ []
local_continuation = refl

not_recorded : fails (record record_plan { capturing = record { procs = 0 ∷ 1 ∷ []; recording = 16 ∷ [] } }) record_procs record_lits 40 ≡ CaptureModes ∷ CaptureEntries ∷ []
not_recorded = refl

-- Calls that are refused call nothing and enter nothing.

-- (call-with-current-continuation 5): the program captures, and its call is in no mode of its own
abbrev no_procedure_procs : List Written
no_procedure_procs =
    main (does 1 0 ((33, Const 0) ∷ (1, CallCC 0) ∷ [])) ∷ []

abbrev no_procedure_plan : Plan
no_procedure_plan =
    record (plan no_procedure_procs ([] ∷ []) (Global ∷ [])) { capturing = record { procs = 0 ∷ []; recording = [] } }

no_procedure : fails no_procedure_plan no_procedure_procs (lit.Integer (pos 5) ∷ []) 20 ≡ []
no_procedure = refl

-- (define (f x) (call-with-current-continuation (lambda (k) k)))(define (g) (f))(f 1)(g): g does not capture,
-- and its call of f has the wrong count
abbrev wrong_count_procs : List Written
wrong_count_procs =
    defining ((at 1 1, 1) ∷ (at 1 63, 3) ∷ []) (
    does 1 4 (
    (80, TopGet 0 false) ∷ (82, Const 0) ∷ (79, Call 4 (5 ∷ [])) ∷ (85, TopGet 1 false) ∷ (84, Call 7 []) ∷ [])) ∷
    lambda (at 1 1) (9 ∷ []) (gives 1 10 ((47, Closure 2) ∷ (15, CallCC 10) ∷ [])) ∷
    lambda (at 1 47) (12 ∷ []) (Ends (Some 12)) ∷
    lambda (at 1 63) [] (gives 1 13 ((76, TopGet 0 false) ∷ (75, Call 13 []) ∷ [])) ∷ []

abbrev wrong_count_plan : Plan
wrong_count_plan =
    record (plan wrong_count_procs ([] ∷ [] ∷ [] ∷ [] ∷ []) (replicate 4 Global)) {
      capturing = record { procs = 0 ∷ 1 ∷ 2 ∷ []; recording = 6 ∷ [] };
    }

wrong_count : fails wrong_count_plan wrong_count_procs one 30 ≡ []
wrong_count = refl

-- A top-level variable is looked at for the value that it has.

-- (define g #f)(define (f x) (begin (set! g (cons x x)) ..))(f 1), where the columns are those of the last call
abbrev keeping : (lit operator operand call : ℕ) → (more : List (ℕ × Act Pos)) → List Written
keeping l f o c more =
    main (
    steps 1 0 ((11, Const 0) ∷ (1, TopDefine 0 0) ∷ []) (
    define (at 1 14) 2 1 1 (
    does 1 4 ((f, TopGet 1 false) ∷ (o, Const l) ∷ (c, Call 4 (5 ∷ [])) ∷ [])))) ∷
    lambda (at 1 14) (7 ∷ []) (gives 1 8 ((43, Prim op.Cons (7 ∷ 7 ∷ [])) ∷ (35, TopSet 0 8 false) ∷ more)) ∷ []

-- .. is (set! g #f) 1
abbrev forgotten_procs : List Written
forgotten_procs = keeping 3 71 73 70 ((63, Const 1) ∷ (55, TopSet 0 10 false) ∷ (67, Const 2) ∷ [])

forgotten : fails (plan forgotten_procs ([] ∷ [] ∷ []) (Global ∷ Local ∷ [])) forgotten_procs (lit.Boolean false ∷ lit.Boolean false ∷ lit.Integer (pos 1) ∷ lit.Integer (pos 1) ∷ []) 30 ≡ []
forgotten = refl

-- .. is 1
abbrev remembered_procs : List Written
remembered_procs = keeping 2 59 61 58 ((55, Const 1) ∷ [])

remembered : fails (plan remembered_procs ([] ∷ [] ∷ []) (Global ∷ Local ∷ [])) remembered_procs (lit.Boolean false ∷ lit.Integer (pos 1) ∷ lit.Integer (pos 1) ∷ []) 30 ≡ Pointers ∷ []
remembered = refl

-- (define (g y) y)(%apply g ..), where the check of the last step is dropped
abbrev applied_procs : List Written
applied_procs =
    defining ((at 1 1, 1) ∷ []) (does 1 2 ((25, TopGet 0 false) ∷ (27, Const 0) ∷ (17, Apply 2 3) ∷ [])) ∷
    lambda (at 1 1) (5 ∷ []) (Ends (Some 5)) ∷ []

abbrev unchecked_apply : Plan
unchecked_apply =
    let p = plan applied_procs ([] ∷ [] ∷ []) (Global ∷ []) in
    record p { reprs = record p.reprs { steps = replicate 4 used ++ record { reached = true; checked = false } ∷ [] } }

-- no list, a list of none, and a list of one
no_list : fails unchecked_apply applied_procs (lit.Integer (pos 5) ∷ []) 20 ≡ Checks ∷ []
no_list = refl

no_operand : fails unchecked_apply applied_procs (lit.Nil ∷ []) 20 ≡ Checks ∷ []
no_operand = refl

one_operand : fails unchecked_apply applied_procs (lit.Pair 1 2 ∷ lit.Integer (pos 1) ∷ lit.Nil ∷ []) 20 ≡ []
one_operand = refl

-- What is looked at once

-- the program's own body is called unreached
not_begun : fails (record frames_plan { reprs = record frames_plan.reprs { blocks = false ∷ true ∷ true ∷ [] } }) frames_procs frames_lits 20 ≡ Begun ∷ []
not_begun = refl

-- f keeps a variable that is not free in it
kept_not_free : fails (record frames_plan { slots = record frames_plan.slots { kept = [] ∷ (5 ∷ []) ∷ [] ∷ [] } }) frames_procs frames_lits 20 ≡ KeptFree ∷ []
kept_not_free = refl

-- f's parameter has a cell for good
cell_of_another : fails (record frames_plan { slots = record frames_plan.slots { global = 7 ∷ [] } }) frames_procs frames_lits 20 ≡ GlobalsOwn ∷ []
cell_of_another = refl

-- a variable has a cell for good, and the program captures
cell_beside_capture : fails (record frames_plan { slots = record frames_plan.slots { global = 5 ∷ [] }; capturing = record { procs = 0 ∷ []; recording = [] } }) frames_procs frames_lits 20 ≡ GlobalsOwn ∷ []
cell_beside_capture = refl

capture_alone : fails (record frames_plan { capturing = record { procs = 0 ∷ []; recording = [] } }) frames_procs frames_lits 20 ≡ []
capture_alone = refl

-- a variable without a stated value is held as nothing, and one with a stated value is held
held_as_nothing : fails (record frames_plan { reprs = record frames_plan.reprs { vars = repr.Nothing ∷ replicate 12 repr.Tagged } }) frames_procs frames_lits 20 ≡ HeldOrNot ∷ []
held_as_nothing = refl

stated_and_held : fails (record frames_plan { slots = record frames_plan.slots { fictitious = record { var = 1; value = stated.Unspecified } ∷ [] } }) frames_procs frames_lits 20 ≡ HeldOrNot ∷ []
stated_and_held = refl

-- An arm that is begun is called unreached: (if #t 1 2).

abbrev choice_procs : List Written
choice_procs =
    main (
    does 1 0 (
    (5, Const 0) ∷ choice 1 0 (gives 1 2 ((8, Const 1) ∷ [])) (gives 1 3 ((10, Const 2) ∷ [])) ∷ [])) ∷ []

abbrev choice_lits : List Lit
choice_lits = lit.Boolean true ∷ lit.Integer (pos 1) ∷ lit.Integer (pos 2) ∷ []

abbrev choice_plan : (first second : Bool) → Plan
choice_plan first second =
    let p = plan choice_procs ([] ∷ []) [] in
    record p { reprs = record p.reprs { blocks = true ∷ first ∷ second ∷ [] } }

arm_unreached : fails (choice_plan false true) choice_procs choice_lits 20 ≡ Reached ∷ []
arm_unreached = refl

other_arm_unreached : fails (choice_plan true false) choice_procs choice_lits 20 ≡ []
other_arm_unreached = refl

-- Modes of calls, each broken alone

-- (%call/cc (lambda (k) 1)): the program captures, and enters a procedure that does not
abbrev callcc_procs : List Written
callcc_procs =
    main (does 1 0 ((11, Closure 1) ∷ (1, CallCC 0) ∷ [])) ∷
    lambda (at 1 11) (2 ∷ []) (gives 1 3 ((23, Const 0) ∷ [])) ∷ []

abbrev callcc_plan : (recording : List ℕ) → Plan
callcc_plan recording =
    record (plan callcc_procs ([] ∷ [] ∷ []) (Global ∷ Global ∷ [])) {
      capturing = record { procs = 0 ∷ []; recording = recording };
    }

no_mode : fails (callcc_plan []) callcc_procs one 20 ≡ CaptureModes ∷ []
no_mode = refl

record_mode : fails (callcc_plan (1 ∷ [])) callcc_procs one 20 ≡ []
record_mode = refl

-- (define (f x) (g x))(define (g y) y)(f 3): which of them capture, and whether the program's call of f is in
-- record mode
abbrev modes_plan : (procs recording : List ℕ) → Plan
modes_plan procs recording = record tail_plan { capturing = record { procs = procs; recording = recording } }

entered_from_stack : fails (modes_plan (0 ∷ 1 ∷ 2 ∷ []) []) tail_procs tail_lits 20 ≡ CaptureEntries ∷ []
entered_from_stack = refl

tail_to_another : fails (modes_plan (0 ∷ 1 ∷ []) (6 ∷ [])) tail_procs tail_lits 20 ≡ CaptureTails ∷ []
tail_to_another = refl

all_capture : fails (modes_plan (0 ∷ 1 ∷ 2 ∷ []) (6 ∷ [])) tail_procs tail_lits 20 ≡ []
all_capture = refl

none_capture : fails (modes_plan [] []) tail_procs tail_lits 20 ≡ []
none_capture = refl

-- a call in record mode and a call of a capturing procedure, in one that does not capture
records_quietly : fails (modes_plan [] (6 ∷ [])) tail_procs tail_lits 20 ≡ QuietCalls ∷ []
records_quietly = refl

-- a capturing procedure makes a local pair
local_captured : fails (record local_plan { capturing = record { procs = 0 ∷ 1 ∷ []; recording = 4 ∷ [] } }) pair_procs pair_lits 20 ≡ CapturedGlobal ∷ []
local_captured = refl
