-- Small sources with the texts of their cores, and broken ones with their faults, worked out by hand from the rules.
--
-- The library of these examples has three definitions, so that little is computed. `Worked` has programs with the
-- whole library.
use Rattle.std.proofs.Common.{◌≡◌, ℕ, List, Some, Option, refl}
use Rattle.std.specs.Prelude.{codes}
use Rattle.std.specs.Fmt.{digits}
use Rattle.scheme_expand.specs.Faults.{Fault, fault, least}
use Rattle.scheme_expand.specs.Programs.{library_of, faults}
use Rattle.scheme_expand.proofs.CoreText.{data_in, text_of}

abbrev small : List ℕ
small = codes "(define (car x) (%car x)) (define (list . xs) xs) (define (caar p) (car (car p)))"

abbrev core_of : List ℕ → List ℕ
core_of text = text_of (library_of (data_in small)) (data_in text)

abbrev at : ℕ → ℕ → ℕ → Option Fault
at line col rule = Some (fault (record { line = line; col = col }) rule)

abbrev fault_of : List ℕ → Option Fault
fault_of text = least (faults (data_in text))

-- Derived forms

let_star : core_of (codes "(let* ((x 1) (x x)) x)") ≡ codes "(call (lambda (x) #f (call (lambda (x) #f (ref x)) ((ref x)))) ((const 1)))\n"
unfolding digits
let_star = refl

no_binding : core_of (codes "(let* () 1)") ≡ codes "(call (lambda () #f (const 1)) ())\n"
unfolding digits
no_binding = refl

either : core_of (codes "(or a b)") ≡ codes "(call (lambda (.1) #f (if (ref .1) (ref .1) (ref b))) ((ref a)))\n"
unfolding digits
either = refl

receiver : core_of (codes "(cond (a => car) (else 1 2))") ≡ codes "(call (lambda (.1) #f (if (ref .1) (prim %car ((ref .1))) (seq ((const 1) (const 2))))) ((ref a)))\n"
unfolding digits
receiver = refl

choice : core_of (codes "(case k ((1 a) 2) (() 3))")
    ≡ codes "(call (lambda (.1) #f (if (call (lambda (.2) #f (if (ref .2) (ref .2) (prim %eqv? ((ref .1) (const a))))) ((prim %eqv? ((ref .1) (const 1))))) (seq ((const 2))) (if (const #f) (seq ((const 3))) (const #<unspecified>)))) ((ref k)))\n"
unfolding digits
choice = refl

recursive : core_of (codes "(letrec ((f (lambda () (f)))) f)") ≡ codes "(fix (f) ((lambda () #f (call (ref f) ()))) (ref f))\n"
unfolding digits
recursive = refl

assigned : core_of (codes "(letrec ((f (lambda () 1))) (set! f 2))")
    ≡ codes "(call (lambda (f) #f (call (lambda (.1) #f (seq ((set f (ref .1)) (call (lambda () #f (set f (const 2))) ())))) ((lambda () #f (const 1))))) ((const #<undefined>)))\n"
unfolding digits
assigned = refl

-- an assignment of another variable of that name
hidden : core_of (codes "(letrec ((f (lambda (f) (set! f 2)))) f)") ≡ codes "(fix (f) ((lambda (f) #f (set f (const 2)))) (ref f))\n"
unfolding digits
hidden = refl

loop : core_of (codes "(do ((i 1 (g i)) (k 2)) ((h i)) (p k))")
    ≡ codes "(call (fix (.1) ((lambda (i k) #f (if (call (ref h) ((ref i))) (const #<unspecified>) (seq ((call (ref p) ((ref k))) (call (ref .1) ((call (ref g) ((ref i))) (ref k)))))))) (ref .1)) ((const 1) (const 2)))\n"
unfolding digits
loop = refl

inner : core_of (codes "(lambda (x . r) (define y x) (begin (define (z) y)) z)")
    ≡ codes "(lambda (x) r (call (lambda (y z) #f (call (lambda (.1 .2) #f (seq ((set y (ref .1)) (set z (ref .2)) (call (lambda () #f (ref z)) ())))) ((ref x) (lambda () #f (ref y))))) ((const #<undefined>) (const #<undefined>))))\n"
unfolding digits
inner = refl

template : core_of (codes "`(1 `(,,x ,@y) . ,z)")
    ≡ codes "(prim %cons ((const 1) (prim %cons ((prim %cons ((const quasiquote) (prim %cons ((prim %cons ((prim %cons ((const unquote) (prim %cons ((ref x) (const ()))))) (const ((unquote-splicing y))))) (const ()))))) (ref z)))))\n"
unfolding digits
template = refl

-- The library's names

own : core_of (codes "(car 1) (define car 2)") ≡ codes "(define lib:car (lambda (x) #f (prim %car ((ref x)))))\n(define car (ref lib:car))\n(call (ref car) ((const 1)))\n(define car (const 2))\n"
unfolding digits
own = refl

bound : core_of (codes "(lambda (car) (car 1))") ≡ codes "(lambda (car) #f (call (ref car) ((const 1))))\n"
unfolding digits
bound = refl

passed : core_of (codes "(f car caar)") ≡ codes "(define lib:car (lambda (x) #f (prim %car ((ref x)))))\n(define lib:caar (lambda (p) #f (prim %car ((prim %car ((ref p)))))))\n(call (ref f) ((ref lib:car) (ref lib:caar)))\n"
unfolding digits
passed = refl

in_order : core_of (codes "(list (f) (g))") ≡ codes "(call (lambda (.1 .2) #f (prim %cons ((ref .1) (prim %cons ((ref .2) (const ())))))) ((call (ref f) ()) (call (ref g) ())))\n"
unfolding digits
in_order = refl

another_count : core_of (codes "(car)") ≡ codes "(define lib:car (lambda (x) #f (prim %car ((ref x)))))\n(call (ref lib:car) ())\n"
unfolding digits
another_count = refl

-- Faults

keyword : fault_of (codes "(f if)") ≡ at 1 4 1
keyword = refl

quoted : fault_of (codes "(quote)") ≡ at 1 1 2
quoted = refl

formals : fault_of (codes "(define (f 1) 2)") ≡ at 1 1 3
formals = refl

body : fault_of (codes "(let 5 1 (define x 1))") ≡ at 1 1 4
body = refl

test : fault_of (codes "(let ((x (if)) (if 1)) x)") ≡ at 1 10 5
test = refl

clause : fault_of (codes "(cond (else 1) (2 3))") ≡ at 1 1 6
clause = refl

key : fault_of (codes "(case)") ≡ at 1 1 7
key = refl

binding : fault_of (codes "(let ((x)) 1)") ≡ at 1 1 8
binding = refl

round : fault_of (codes "(do ((i)) (1))") ≡ at 1 1 9
round = refl

tail : fault_of (codes "(else . 1)") ≡ at 1 1 10
tail = refl

definition : fault_of (codes "(f (define x 1))") ≡ at 1 4 11
definition = refl

twice : fault_of (codes "(lambda (x . x) x)") ≡ at 1 1 12
twice = refl

twice_inside : fault_of (codes "(lambda (x) (define y 1) (define y 2) y)") ≡ at 1 1 12
twice_inside = refl

nothing : fault_of (codes "(f ())") ≡ at 1 4 13
nothing = refl

outside : fault_of (codes "(f ,x)") ≡ at 1 4 14
outside = refl

vector : fault_of (codes "#(1)") ≡ at 1 1 15
vector = refl

promise : fault_of (codes "(delay 1)") ≡ at 1 1 16
promise = refl

-- the first of several
first : fault_of (codes "(f (if)\n (quote))") ≡ at 1 4 5
first = refl
