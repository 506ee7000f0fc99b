-- Cores of programs by their texts, found by the definitions themselves.
use Rattle.std.proofs.Common.{◌≡◌, ℕ, List, [], ◌∷◌, refl}
use Rattle.std.specs.Prelude.{codes}
use Rattle.std.specs.Fmt.{digits}
use Rattle.prelude_text.specs.Text.{library_text}
use Rattle.scheme_expand.specs.Programs.{Library, library_of}
use Rattle.scheme_expand.proofs.CoreText.{data_in, text_of}

-- the cores' texts of programs by theirs
abbrev texts_of : Library → List (List ℕ) → List (List ℕ)
texts_of library [] = []
texts_of library (text ∷ texts) = text_of library (data_in text) ∷ texts_of library texts

abbrev own_names_quasi_defines_control_text : List (List ℕ)
own_names_quasi_defines_control_text =
    codes "\n(write (car '(1 2)))\n(define (square x) (* x x))\n(define old-car car)\n(define (car x) (list 'mycar (old-car x)))\n(write (car '(1 2)))\n(write (caar '((1))))\n(write (cadr '(1 2)))\n(set! + -) (write (+ 5 3)) (write (apply + '(5 3))) (write (- 5 3)) (write (map + '(5) '(3)))\n(define (list . x) (cons 'mine x)) (write (list 1 2)) (write `(1 ,(+ 1 1) ,@(list 3)))\n(let ((cdr (lambda (x) 'local))) (write (cdr '(1 2))))\n(define (h vector-ref) (vector-ref 1)) (write (h (lambda (x) (- x))))\n(define list->vector car) (write `#(1 ,(- 3 1)))\n(define (eqv? a b) #f) (write (case 1 ((1) 'same) (else 'other))) (write (memv 1 '(1)))\n(write (equal? 1 1))\n"
    ∷ codes "\n(write `(list ,(+ 1 2) 4))\n(write (let ((name 'a)) `(list ,name ',name)))\n(write `(a ,(+ 1 2) ,@(map abs '(4 -5 6)) b)) (newline)\n(write `((foo ,(- 10 3)) ,@(cdr '(c)) . ,(car '(cons))))\n(write `#(10 5 ,(abs -2) ,@(map abs '(4 -3 2)) 8)) (newline)\n(write `(a `(b ,(foo ,(+ 1 3) d) e) f)) (newline)\n(write (let ((name1 'x) (name2 'y)) `(a `(b ,,name1 ,',name2 d) e))) (newline)\n(write `(1 . ,(+ 1 1))) (write `(1 ,@'() . 2)) (write `(,@'(1 2))) (write `(,@'(1 2) . 3)) (write `,(+ 1 2)) (write `x) (write `()) (write `#()) (write `(1 `(,@(a ,@(list 1 2) b)))) (newline)\n(write `(1 `,@,(list 2))) (write `(unquote (+ 1 2))) (write '(quasiquote (a (unquote b) (unquote-splicing c)))) (write `(a unquote (+ 1 2))) (newline)\n(write (quasiquote (list (unquote (+ 1 2)) 4))) (write '(quasiquote (list (unquote (+ 1 2)) 4)))\n(write `(1 . #(,(+ 1 1)))) (write `(#(,@(list 1 2)) \"s\" #\\a))\n(define (f . x) `(f ,@x)) (write (eq? (f) (f))) (write (f 1 2))\n(write (eq? (cdr `(,1 2 3)) (cdr `(,1 2 3)))) (define (g) `(,1 2 3)) (write (eq? (cdr (g)) (cdr (g))))\n"
    ∷ codes "\n(define (f x) (define (even? n) (if (= n 0) #t (odd? (- n 1)))) (define (odd? n) (if (= n 0) #f (even? (- n 1)))) (even? x))\n(write (f 100)) (write (f 101))\n(define (g x) (define a (* x 2)) (define b (lambda () (+ a 1))) (begin (define c 5) (begin) (begin (define (d) c))) (set! c 9) (list a (b) (d)))\n(write (g 4))\n(write (let ((x 5)) (define foo (lambda (y) (bar x y))) (define bar (lambda (a b) (+ (* a b) a))) (foo (+ x 3))))\n(begin (define q 1) (begin (define w 2)) (begin))\n(write (+ q w)) (define q 10) (write q)\n(write (letrec ((e? (lambda (n) (if (= 0 n) #t (o? (- n 1))))) (o? (lambda (n) (if (= 0 n) #f (e? (- n 1)))))) (e? 88)))\n(write (let* ((x 1) (y (+ x 1)) (x (* y 10))) (list x y)))\n(write (letrec ((a (lambda () b)) (b 7)) (a)))\n(write (let () (define x 1) (define y 2) (set! x 5) (+ x y)))\n(define (opt a . r) (if (null? r) a (car r))) (write (opt 1)) (write (opt 1 2))\n(write ((lambda x x))) (write ((lambda (a . b) (list a b)) 1 2 3)) (write ((lambda x x) 1 2))\n(let () (define a 1) (define b a) b)\n"
    ∷ codes "\n(write (case (* 2 3) ((2 3 5 7) 'prime) ((1 4 6 8 9) 'composite)))\n(write (case (car '(c d)) ((a e i o u) 'vowel) ((w y) 'semivowel) (else 'consonant)))\n(write (case #\\a ((#\\b #\\a) 1) (else 2))) (write (case \"a\" ((\"a\") 1) (else 2))) (write (case '() ((()) 'nil) (else 'no))) (write (case 5 (() 1) ((5) 'five)))\n(write (list (case 9 ((1) 1)))) (write (case #t ((#f) 0) ((#t) 1))) (newline)\n(write (cond ((assv 'b '((a 1) (b 2))) => cadr) (else #f))) (write (cond (#f 1) (5))) (write (list (cond (#f 1)))) (write (cond ((> 3 2) 'greater) ((< 3 2) 'less))) (write (cond (#f => car) ((memv 2 '(1 2 3)) => length) (else 9)))\n(newline)\n(write (and)) (write (or)) (write (and 1 2 'c '(f g))) (write (or (memq 'b '(a b c)) (car '()))) (write (and 1 #f (car '()))) (write (or #f #f 3)) (write (or #f))\n(write (if '() 1 2)) (write (if 0 1 2)) (write (list (if #f #f))) (write (list (set! x 5))) (define x 1)\n"
    ∷ []

abbrev own_names_quasi_defines_control_core : List (List ℕ)
own_names_quasi_defines_control_core =
    codes "(define lib:eqv? (lambda (x y) #f (prim %eqv? ((ref x) (ref y)))))\n(define lib:car (lambda (x) #f (prim %car ((ref x)))))\n(define lib:cdr (lambda (x) #f (prim %cdr ((ref x)))))\n(define lib:char->integer (lambda (x) #f (prim %char->integer ((ref x)))))\n(define lib:caar (lambda (p) #f (prim %car ((prim %car ((ref p)))))))\n(define lib:cadr (lambda (p) #f (prim %car ((prim %cdr ((ref p)))))))\n(define lib:list (lambda () xs (ref xs)))\n(define lib:%opt (lambda (r d) #f (if (prim %null? ((ref r))) (ref d) (if (prim %null? ((prim %cdr ((ref r))))) (prim %car ((ref r))) (call (lambda () #f (ref d)) ((ref d)))))))\n(define lib:%fold (lambda (f a r) #f (if (prim %null? ((ref r))) (ref a) (call (ref lib:%fold) ((ref f) (call (ref f) ((ref a) (prim %car ((ref r))))) (prim %cdr ((ref r))))))))\n(define lib:+ (lambda () r (call (ref lib:%fold) ((lambda (a b) #f (prim %+ ((ref a) (ref b)))) (const 0) (ref r)))))\n(define lib:- (lambda (a) r (if (prim %null? ((ref r))) (prim %- ((const 0) (ref a))) (call (ref lib:%fold) ((lambda (a b) #f (prim %- ((ref a) (ref b)))) (ref a) (ref r))))))\n(define lib:length (lambda (l) #f (call (ref lib:%length) ((ref l) (const 0)))))\n(define lib:%length (lambda (l n) #f (if (prim %null? ((ref l))) (ref n) (call (ref lib:%length) ((prim %cdr ((ref l))) (prim %+ ((ref n) (const 1))))))))\n(define lib:%join (lambda (a b) #f (if (prim %null? ((ref a))) (ref b) (prim %cons ((prim %car ((ref a))) (call (ref lib:%join) ((prim %cdr ((ref a))) (ref b))))))))\n(define lib:%mem (lambda (f x l) #f (if (prim %null? ((ref l))) (seq ((const #f))) (if (call (ref f) ((ref x) (prim %car ((ref l))))) (seq ((ref l))) (seq ((call (ref lib:%mem) ((ref f) (ref x) (prim %cdr ((ref l)))))))))))\n(define lib:memv (lambda (x l) #f (call (ref lib:%mem) ((ref lib:eqv?) (ref x) (ref l)))))\n(define lib:equal? (lambda (a b) #f (if (prim %eqv? ((ref a) (ref b))) (seq ((const #t))) (if (prim %pair? ((ref a))) (seq ((if (prim %pair? ((ref b))) (if (call (ref lib:equal?) ((prim %car ((ref a))) (prim %car ((ref b))))) (call (ref lib:equal?) ((prim %cdr ((ref a))) (prim %cdr ((ref b))))) (const #f)) (const #f)))) (if (prim %string? ((ref a))) (seq ((if (prim %string? ((ref b))) (call (ref lib:string=?) ((ref a) (ref b))) (const #f)))) (if (prim %vector? ((ref a))) (seq ((if (prim %vector? ((ref b))) (if (prim %= ((prim %vector-length ((ref a))) (prim %vector-length ((ref b))))) (call (ref lib:%vequal?) ((ref a) (ref b) (const 0))) (const #f)) (const #f)))) (seq ((const #f)))))))))\n(define lib:%vequal? (lambda (a b i) #f (call (lambda (.1) #f (if (ref .1) (ref .1) (if (call (ref lib:equal?) ((prim %vector-ref ((ref a) (ref i))) (prim %vector-ref ((ref b) (ref i))))) (call (ref lib:%vequal?) ((ref a) (ref b) (prim %+ ((ref i) (const 1))))) (const #f)))) ((prim %= ((ref i) (prim %vector-length ((ref a)))))))))\n(define lib:map (lambda (f l) r (if (prim %null? ((ref r))) (call (ref lib:%map) ((ref f) (ref l))) (call (ref lib:%maps) ((ref f) (prim %cons ((ref l) (ref r))))))))\n(define lib:%map (lambda (f l) #f (if (prim %null? ((ref l))) (const ()) (call (lambda (x) #f (prim %cons ((ref x) (call (ref lib:%map) ((ref f) (prim %cdr ((ref l)))))))) ((call (ref f) ((prim %car ((ref l))))))))))\n(define lib:%maps (lambda (f ls) #f (if (call (ref lib:%ends?) ((ref ls))) (const ()) (call (lambda (x) #f (prim %cons ((ref x) (call (ref lib:%maps) ((ref f) (call (ref lib:%map) ((ref lib:cdr) (ref ls)))))))) ((prim %apply ((ref f) (call (ref lib:%map) ((ref lib:car) (ref ls))))))))))\n(define lib:%ends? (lambda (ls) #f (call (lambda (.2) #f (if (ref .2) (ref .2) (if (prim %null? ((prim %car ((ref ls))))) (call (ref lib:%ends?) ((prim %cdr ((ref ls))))) (const #f)))) ((prim %null? ((ref ls)))))))\n(define lib:char=? (lambda (a b) #f (prim %= ((prim %char->integer ((ref a))) (prim %char->integer ((ref b)))))))\n(define lib:string->list (lambda (s) #f (call (ref lib:%slist) ((ref s) (prim %string-length ((ref s))) (const ())))))\n(define lib:%slist (lambda (s n a) #f (if (prim %= ((ref n) (const 0))) (ref a) (call (ref lib:%slist) ((ref s) (prim %- ((ref n) (const 1))) (prim %cons ((prim %string-ref ((ref s) (prim %- ((ref n) (const 1))))) (ref a))))))))\n(define lib:%compare (lambda (f a b i) #f (if (prim %= ((ref i) (prim %string-length ((ref a))))) (seq ((if (prim %= ((ref i) (prim %string-length ((ref b))))) (const 0) (const -1)))) (if (prim %= ((ref i) (prim %string-length ((ref b))))) (seq ((const 1))) (if (prim %= ((call (ref f) ((prim %string-ref ((ref a) (ref i))))) (call (ref f) ((prim %string-ref ((ref b) (ref i))))))) (seq ((call (ref lib:%compare) ((ref f) (ref a) (ref b) (prim %+ ((ref i) (const 1))))))) (if (prim %< ((call (ref f) ((prim %string-ref ((ref a) (ref i))))) (call (ref f) ((prim %string-ref ((ref b) (ref i))))))) (seq ((const -1))) (seq ((const 1)))))))))\n(define lib:string=? (lambda (a b) #f (prim %= ((call (ref lib:%compare) ((ref lib:char->integer) (ref a) (ref b) (const 0))) (const 0)))))\n(define lib:make-vector (lambda (n) r (prim %make-vector ((ref n) (call (ref lib:%opt) ((ref r) (const 0)))))))\n(define lib:list->vector (lambda (l) #f (call (lambda (v) #f (seq ((call (ref lib:%vput) ((ref v) (ref l) (const 0))) (ref v)))) ((call (ref lib:make-vector) ((call (ref lib:length) ((ref l)))))))))\n(define lib:%vput (lambda (v l i) #f (if (if (prim %null? ((ref l))) (const #f) (const #t)) (seq ((prim %vector-set! ((ref v) (ref i) (prim %car ((ref l))))) (call (ref lib:%vput) ((ref v) (prim %cdr ((ref l))) (prim %+ ((ref i) (const 1))))))) (const #<unspecified>))))\n(define lib:vector->list (lambda (v) #f (call (ref lib:%vlist) ((ref v) (prim %vector-length ((ref v))) (const ())))))\n(define lib:%vlist (lambda (v n a) #f (if (prim %= ((ref n) (const 0))) (ref a) (call (ref lib:%vlist) ((ref v) (prim %- ((ref n) (const 1))) (prim %cons ((prim %vector-ref ((ref v) (prim %- ((ref n) (const 1))))) (ref a))))))))\n(define lib:%chars (lambda (n b) #f (if (prim %< ((ref n) (const 0))) (prim %cons ((const #\\-) (call (ref lib:%num) ((ref n) (ref b) (const ()))))) (call (ref lib:%num) ((call (lambda (.3) #f (prim %- ((const 0) (ref .3)))) ((ref n))) (ref b) (const ()))))))\n(define lib:%num (lambda (n b a) #f (call (lambda (c q) #f (if (prim %= ((ref q) (const 0))) (prim %cons ((ref c) (ref a))) (call (ref lib:%num) ((ref q) (ref b) (prim %cons ((ref c) (ref a))))))) ((call (ref lib:%digit) ((call (lambda (.4) #f (prim %- ((const 0) (ref .4)))) ((prim %remainder ((ref n) (ref b))))))) (prim %quotient ((ref n) (ref b)))))))\n(define lib:%digit (lambda (d) #f (prim %integer->char ((if (prim %< ((ref d) (const 10))) (prim %+ ((const 48) (ref d))) (prim %+ ((const 87) (ref d))))))))\n(define lib:write (lambda (x) #f (call (ref lib:%print) ((ref x) (const #t)))))\n(define lib:%print (lambda (x w) #f (if (prim %pair? ((ref x))) (seq ((prim %write-char ((const #\\())) (call (ref lib:%items) ((ref x) (ref w))))) (if (prim %null? ((ref x))) (seq ((call (ref lib:%text) ((const \"()\"))))) (if (prim %string? ((ref x))) (seq ((if (ref w) (call (ref lib:%quoted) ((ref x))) (call (ref lib:%text) ((ref x)))))) (if (prim %symbol? ((ref x))) (seq ((call (ref lib:%text) ((prim %symbol-name ((ref x))))))) (if (prim %integer? ((ref x))) (seq ((call (ref lib:%put) ((call (ref lib:%chars) ((ref x) (const 10))))))) (if (prim %char? ((ref x))) (seq ((if (ref w) (call (ref lib:%named) ((ref x))) (prim %write-char ((ref x)))))) (if (prim %boolean? ((ref x))) (seq ((call (ref lib:%text) ((if (ref x) (const \"#t\") (const \"#f\")))))) (if (prim %vector? ((ref x))) (seq ((prim %write-char ((const #\\#))) (call (ref lib:%print) ((call (ref lib:vector->list) ((ref x))) (ref w))))) (if (prim %procedure? ((ref x))) (seq ((call (ref lib:%text) ((const \"#<procedure>\"))))) (if (prim %eof? ((ref x))) (seq ((call (ref lib:%text) ((const \"#<eof>\"))))) (seq ((call (ref lib:%text) ((const \"#<unspecified>\")))))))))))))))))\n(define lib:%items (lambda (x w) #f (seq ((call (ref lib:%print) ((prim %car ((ref x))) (ref w))) (if (prim %pair? ((prim %cdr ((ref x))))) (seq ((prim %write-char ((const #\\space))) (call (ref lib:%items) ((prim %cdr ((ref x))) (ref w))))) (if (prim %null? ((prim %cdr ((ref x))))) (seq ((prim %write-char ((const #\\)))))) (seq ((call (ref lib:%text) ((const \" . \"))) (call (ref lib:%print) ((prim %cdr ((ref x))) (ref w))) (prim %write-char ((const #\\))))))))))))\n(define lib:%put (lambda (l) #f (if (if (prim %null? ((ref l))) (const #f) (const #t)) (seq ((prim %write-char ((prim %car ((ref l))))) (call (ref lib:%put) ((prim %cdr ((ref l))))))) (const #<unspecified>))))\n(define lib:%text (lambda (s) #f (call (ref lib:%put) ((call (ref lib:string->list) ((ref s)))))))\n(define lib:%quoted (lambda (s) #f (seq ((prim %write-char ((const #\\\"))) (call (ref lib:%qput) ((call (ref lib:string->list) ((ref s))))) (prim %write-char ((const #\\\")))))))\n(define lib:%qput (lambda (l) #f (if (if (prim %null? ((ref l))) (const #f) (const #t)) (seq ((if (call (lambda (.5) #f (if (ref .5) (ref .5) (call (ref lib:char=?) ((prim %car ((ref l))) (const #\\\\))))) ((call (ref lib:char=?) ((prim %car ((ref l))) (const #\\\"))))) (prim %write-char ((const #\\\\))) (const #<unspecified>)) (prim %write-char ((prim %car ((ref l))))) (call (ref lib:%qput) ((prim %cdr ((ref l))))))) (const #<unspecified>))))\n(define lib:%named (lambda (c) #f (seq ((prim %write-char ((const #\\#))) (prim %write-char ((const #\\\\))) (if (call (ref lib:char=?) ((ref c) (const #\\space))) (seq ((call (ref lib:%text) ((const \"space\"))))) (if (call (ref lib:char=?) ((ref c) (const #\\newline))) (seq ((call (ref lib:%text) ((const \"newline\"))))) (seq ((prim %write-char ((ref c)))))))))))\n(define car (ref lib:car))\n(define list (ref lib:list))\n(define + (ref lib:+))\n(define list->vector (ref lib:list->vector))\n(define eqv? (ref lib:eqv?))\n(call (ref lib:write) ((call (ref car) ((const (1 2))))))\n(define square (lambda (x) #f (prim %* ((ref x) (ref x)))))\n(define old-car (ref car))\n(define car (lambda (x) #f (call (ref list) ((const mycar) (call (ref old-car) ((ref x)))))))\n(call (ref lib:write) ((call (ref car) ((const (1 2))))))\n(call (ref lib:write) ((call (ref lib:caar) ((const ((1)))))))\n(call (ref lib:write) ((call (ref lib:cadr) ((const (1 2))))))\n(set + (ref lib:-))\n(call (ref lib:write) ((call (ref +) ((const 5) (const 3)))))\n(call (ref lib:write) ((prim %apply ((ref +) (const (5 3))))))\n(call (ref lib:write) ((prim %- ((const 5) (const 3)))))\n(call (ref lib:write) ((call (ref lib:map) ((ref +) (const (5)) (const (3))))))\n(define list (lambda () x (prim %cons ((const mine) (ref x)))))\n(call (ref lib:write) ((call (ref list) ((const 1) (const 2)))))\n(call (ref lib:write) ((prim %cons ((const 1) (prim %cons ((call (ref +) ((const 1) (const 1))) (call (ref lib:%join) ((call (ref list) ((const 3))) (const ())))))))))\n(call (lambda (cdr) #f (call (ref lib:write) ((call (ref cdr) ((const (1 2))))))) ((lambda (x) #f (const local))))\n(define h (lambda (vector-ref) #f (call (ref vector-ref) ((const 1)))))\n(call (ref lib:write) ((call (ref h) ((lambda (x) #f (call (lambda (.6) #f (prim %- ((const 0) (ref .6)))) ((ref x))))))))\n(define list->vector (ref car))\n(call (ref lib:write) ((call (ref lib:list->vector) ((prim %cons ((const 1) (prim %cons ((prim %- ((const 3) (const 1))) (const ())))))))))\n(define eqv? (lambda (a b) #f (const #f)))\n(call (ref lib:write) ((call (lambda (.7) #f (if (prim %eqv? ((ref .7) (const 1))) (seq ((const same))) (seq ((const other))))) ((const 1)))))\n(call (ref lib:write) ((call (ref lib:memv) ((const 1) (const (1))))))\n(call (ref lib:write) ((call (ref lib:equal?) ((const 1) (const 1)))))\n"
    ∷ codes "(define lib:car (lambda (x) #f (prim %car ((ref x)))))\n(define lib:cdr (lambda (x) #f (prim %cdr ((ref x)))))\n(define lib:%opt (lambda (r d) #f (if (prim %null? ((ref r))) (ref d) (if (prim %null? ((prim %cdr ((ref r))))) (prim %car ((ref r))) (call (lambda () #f (ref d)) ((ref d)))))))\n(define lib:abs (lambda (n) #f (if (prim %< ((ref n) (const 0))) (call (lambda (.1) #f (prim %- ((const 0) (ref .1)))) ((ref n))) (ref n))))\n(define lib:length (lambda (l) #f (call (ref lib:%length) ((ref l) (const 0)))))\n(define lib:%length (lambda (l n) #f (if (prim %null? ((ref l))) (ref n) (call (ref lib:%length) ((prim %cdr ((ref l))) (prim %+ ((ref n) (const 1))))))))\n(define lib:%join (lambda (a b) #f (if (prim %null? ((ref a))) (ref b) (prim %cons ((prim %car ((ref a))) (call (ref lib:%join) ((prim %cdr ((ref a))) (ref b))))))))\n(define lib:map (lambda (f l) r (if (prim %null? ((ref r))) (call (ref lib:%map) ((ref f) (ref l))) (call (ref lib:%maps) ((ref f) (prim %cons ((ref l) (ref r))))))))\n(define lib:%map (lambda (f l) #f (if (prim %null? ((ref l))) (const ()) (call (lambda (x) #f (prim %cons ((ref x) (call (ref lib:%map) ((ref f) (prim %cdr ((ref l)))))))) ((call (ref f) ((prim %car ((ref l))))))))))\n(define lib:%maps (lambda (f ls) #f (if (call (ref lib:%ends?) ((ref ls))) (const ()) (call (lambda (x) #f (prim %cons ((ref x) (call (ref lib:%maps) ((ref f) (call (ref lib:%map) ((ref lib:cdr) (ref ls)))))))) ((prim %apply ((ref f) (call (ref lib:%map) ((ref lib:car) (ref ls))))))))))\n(define lib:%ends? (lambda (ls) #f (call (lambda (.2) #f (if (ref .2) (ref .2) (if (prim %null? ((prim %car ((ref ls))))) (call (ref lib:%ends?) ((prim %cdr ((ref ls))))) (const #f)))) ((prim %null? ((ref ls)))))))\n(define lib:char=? (lambda (a b) #f (prim %= ((prim %char->integer ((ref a))) (prim %char->integer ((ref b)))))))\n(define lib:string->list (lambda (s) #f (call (ref lib:%slist) ((ref s) (prim %string-length ((ref s))) (const ())))))\n(define lib:%slist (lambda (s n a) #f (if (prim %= ((ref n) (const 0))) (ref a) (call (ref lib:%slist) ((ref s) (prim %- ((ref n) (const 1))) (prim %cons ((prim %string-ref ((ref s) (prim %- ((ref n) (const 1))))) (ref a))))))))\n(define lib:make-vector (lambda (n) r (prim %make-vector ((ref n) (call (ref lib:%opt) ((ref r) (const 0)))))))\n(define lib:list->vector (lambda (l) #f (call (lambda (v) #f (seq ((call (ref lib:%vput) ((ref v) (ref l) (const 0))) (ref v)))) ((call (ref lib:make-vector) ((call (ref lib:length) ((ref l)))))))))\n(define lib:%vput (lambda (v l i) #f (if (if (prim %null? ((ref l))) (const #f) (const #t)) (seq ((prim %vector-set! ((ref v) (ref i) (prim %car ((ref l))))) (call (ref lib:%vput) ((ref v) (prim %cdr ((ref l))) (prim %+ ((ref i) (const 1))))))) (const #<unspecified>))))\n(define lib:vector->list (lambda (v) #f (call (ref lib:%vlist) ((ref v) (prim %vector-length ((ref v))) (const ())))))\n(define lib:%vlist (lambda (v n a) #f (if (prim %= ((ref n) (const 0))) (ref a) (call (ref lib:%vlist) ((ref v) (prim %- ((ref n) (const 1))) (prim %cons ((prim %vector-ref ((ref v) (prim %- ((ref n) (const 1))))) (ref a))))))))\n(define lib:%chars (lambda (n b) #f (if (prim %< ((ref n) (const 0))) (prim %cons ((const #\\-) (call (ref lib:%num) ((ref n) (ref b) (const ()))))) (call (ref lib:%num) ((call (lambda (.3) #f (prim %- ((const 0) (ref .3)))) ((ref n))) (ref b) (const ()))))))\n(define lib:%num (lambda (n b a) #f (call (lambda (c q) #f (if (prim %= ((ref q) (const 0))) (prim %cons ((ref c) (ref a))) (call (ref lib:%num) ((ref q) (ref b) (prim %cons ((ref c) (ref a))))))) ((call (ref lib:%digit) ((call (lambda (.4) #f (prim %- ((const 0) (ref .4)))) ((prim %remainder ((ref n) (ref b))))))) (prim %quotient ((ref n) (ref b)))))))\n(define lib:%digit (lambda (d) #f (prim %integer->char ((if (prim %< ((ref d) (const 10))) (prim %+ ((const 48) (ref d))) (prim %+ ((const 87) (ref d))))))))\n(define lib:newline (lambda () #f (prim %write-char ((const #\\newline)))))\n(define lib:write (lambda (x) #f (call (ref lib:%print) ((ref x) (const #t)))))\n(define lib:%print (lambda (x w) #f (if (prim %pair? ((ref x))) (seq ((prim %write-char ((const #\\())) (call (ref lib:%items) ((ref x) (ref w))))) (if (prim %null? ((ref x))) (seq ((call (ref lib:%text) ((const \"()\"))))) (if (prim %string? ((ref x))) (seq ((if (ref w) (call (ref lib:%quoted) ((ref x))) (call (ref lib:%text) ((ref x)))))) (if (prim %symbol? ((ref x))) (seq ((call (ref lib:%text) ((prim %symbol-name ((ref x))))))) (if (prim %integer? ((ref x))) (seq ((call (ref lib:%put) ((call (ref lib:%chars) ((ref x) (const 10))))))) (if (prim %char? ((ref x))) (seq ((if (ref w) (call (ref lib:%named) ((ref x))) (prim %write-char ((ref x)))))) (if (prim %boolean? ((ref x))) (seq ((call (ref lib:%text) ((if (ref x) (const \"#t\") (const \"#f\")))))) (if (prim %vector? ((ref x))) (seq ((prim %write-char ((const #\\#))) (call (ref lib:%print) ((call (ref lib:vector->list) ((ref x))) (ref w))))) (if (prim %procedure? ((ref x))) (seq ((call (ref lib:%text) ((const \"#<procedure>\"))))) (if (prim %eof? ((ref x))) (seq ((call (ref lib:%text) ((const \"#<eof>\"))))) (seq ((call (ref lib:%text) ((const \"#<unspecified>\")))))))))))))))))\n(define lib:%items (lambda (x w) #f (seq ((call (ref lib:%print) ((prim %car ((ref x))) (ref w))) (if (prim %pair? ((prim %cdr ((ref x))))) (seq ((prim %write-char ((const #\\space))) (call (ref lib:%items) ((prim %cdr ((ref x))) (ref w))))) (if (prim %null? ((prim %cdr ((ref x))))) (seq ((prim %write-char ((const #\\)))))) (seq ((call (ref lib:%text) ((const \" . \"))) (call (ref lib:%print) ((prim %cdr ((ref x))) (ref w))) (prim %write-char ((const #\\))))))))))))\n(define lib:%put (lambda (l) #f (if (if (prim %null? ((ref l))) (const #f) (const #t)) (seq ((prim %write-char ((prim %car ((ref l))))) (call (ref lib:%put) ((prim %cdr ((ref l))))))) (const #<unspecified>))))\n(define lib:%text (lambda (s) #f (call (ref lib:%put) ((call (ref lib:string->list) ((ref s)))))))\n(define lib:%quoted (lambda (s) #f (seq ((prim %write-char ((const #\\\"))) (call (ref lib:%qput) ((call (ref lib:string->list) ((ref s))))) (prim %write-char ((const #\\\")))))))\n(define lib:%qput (lambda (l) #f (if (if (prim %null? ((ref l))) (const #f) (const #t)) (seq ((if (call (lambda (.5) #f (if (ref .5) (ref .5) (call (ref lib:char=?) ((prim %car ((ref l))) (const #\\\\))))) ((call (ref lib:char=?) ((prim %car ((ref l))) (const #\\\"))))) (prim %write-char ((const #\\\\))) (const #<unspecified>)) (prim %write-char ((prim %car ((ref l))))) (call (ref lib:%qput) ((prim %cdr ((ref l))))))) (const #<unspecified>))))\n(define lib:%named (lambda (c) #f (seq ((prim %write-char ((const #\\#))) (prim %write-char ((const #\\\\))) (if (call (ref lib:char=?) ((ref c) (const #\\space))) (seq ((call (ref lib:%text) ((const \"space\"))))) (if (call (ref lib:char=?) ((ref c) (const #\\newline))) (seq ((call (ref lib:%text) ((const \"newline\"))))) (seq ((prim %write-char ((ref c)))))))))))\n(call (ref lib:write) ((prim %cons ((const list) (prim %cons ((prim %+ ((const 1) (const 2))) (const (4))))))))\n(call (ref lib:write) ((call (lambda (name) #f (prim %cons ((const list) (prim %cons ((ref name) (prim %cons ((prim %cons ((const quote) (prim %cons ((ref name) (const ()))))) (const ())))))))) ((const a)))))\n(call (ref lib:write) ((prim %cons ((const a) (prim %cons ((prim %+ ((const 1) (const 2))) (call (ref lib:%join) ((call (ref lib:map) ((ref lib:abs) (const (4 -5 6)))) (const (b))))))))))\n(call (ref lib:newline) ())\n(call (ref lib:write) ((prim %cons ((prim %cons ((const foo) (prim %cons ((prim %- ((const 10) (const 3))) (const ()))))) (call (ref lib:%join) ((prim %cdr ((const (c)))) (prim %car ((const (cons))))))))))\n(call (ref lib:write) ((call (ref lib:list->vector) ((prim %cons ((const 10) (prim %cons ((const 5) (prim %cons ((call (ref lib:abs) ((const -2))) (call (ref lib:%join) ((call (ref lib:map) ((ref lib:abs) (const (4 -3 2)))) (const (8))))))))))))))\n(call (ref lib:newline) ())\n(call (ref lib:write) ((prim %cons ((const a) (prim %cons ((prim %cons ((const quasiquote) (prim %cons ((prim %cons ((const b) (prim %cons ((prim %cons ((const unquote) (prim %cons ((prim %cons ((const foo) (prim %cons ((prim %+ ((const 1) (const 3))) (const (d)))))) (const ()))))) (const (e)))))) (const ()))))) (const (f))))))))\n(call (ref lib:newline) ())\n(call (ref lib:write) ((call (lambda (name1 name2) #f (prim %cons ((const a) (prim %cons ((prim %cons ((const quasiquote) (prim %cons ((prim %cons ((const b) (prim %cons ((prim %cons ((const unquote) (prim %cons ((ref name1) (const ()))))) (prim %cons ((prim %cons ((const unquote) (prim %cons ((prim %cons ((const quote) (prim %cons ((ref name2) (const ()))))) (const ()))))) (const (d)))))))) (const ()))))) (const (e))))))) ((const x) (const y)))))\n(call (ref lib:newline) ())\n(call (ref lib:write) ((prim %cons ((const 1) (prim %+ ((const 1) (const 1)))))))\n(call (ref lib:write) ((prim %cons ((const 1) (call (ref lib:%join) ((const ()) (const 2)))))))\n(call (ref lib:write) ((call (ref lib:%join) ((const (1 2)) (const ())))))\n(call (ref lib:write) ((call (ref lib:%join) ((const (1 2)) (const 3)))))\n(call (ref lib:write) ((prim %+ ((const 1) (const 2)))))\n(call (ref lib:write) ((const x)))\n(call (ref lib:write) ((const ())))\n(call (ref lib:write) ((const #())))\n(call (ref lib:write) ((prim %cons ((const 1) (prim %cons ((prim %cons ((const quasiquote) (prim %cons ((prim %cons ((prim %cons ((const unquote-splicing) (prim %cons ((prim %cons ((const a) (call (ref lib:%join) ((call (lambda (.6 .7) #f (prim %cons ((ref .6) (prim %cons ((ref .7) (const ())))))) ((const 1) (const 2))) (const (b)))))) (const ()))))) (const ()))) (const ()))))) (const ())))))))\n(call (ref lib:newline) ())\n(call (ref lib:write) ((const (1 (quasiquote (unquote-splicing (unquote (list 2))))))))\n(call (ref lib:write) ((prim %+ ((const 1) (const 2)))))\n(call (ref lib:write) ((const (quasiquote (a (unquote b) (unquote-splicing c))))))\n(call (ref lib:write) ((prim %cons ((const a) (prim %+ ((const 1) (const 2)))))))\n(call (ref lib:newline) ())\n(call (ref lib:write) ((prim %cons ((const list) (prim %cons ((prim %+ ((const 1) (const 2))) (const (4))))))))\n(call (ref lib:write) ((const (quasiquote (list (unquote (+ 1 2)) 4)))))\n(call (ref lib:write) ((prim %cons ((const 1) (call (ref lib:list->vector) ((prim %cons ((prim %+ ((const 1) (const 1))) (const ())))))))))\n(call (ref lib:write) ((prim %cons ((call (ref lib:list->vector) ((call (ref lib:%join) ((call (lambda (.8 .9) #f (prim %cons ((ref .8) (prim %cons ((ref .9) (const ())))))) ((const 1) (const 2))) (const ()))))) (const (\"s\" #\\a))))))\n(define f (lambda () x (prim %cons ((const f) (call (ref lib:%join) ((ref x) (const ())))))))\n(call (ref lib:write) ((prim %eqv? ((call (ref f) ()) (call (ref f) ())))))\n(call (ref lib:write) ((call (ref f) ((const 1) (const 2)))))\n(call (ref lib:write) ((prim %eqv? ((prim %cdr ((prim %cons ((const 1) (const (2 3)))))) (prim %cdr ((prim %cons ((const 1) (const (2 3))))))))))\n(define g (lambda () #f (prim %cons ((const 1) (const (2 3))))))\n(call (ref lib:write) ((prim %eqv? ((prim %cdr ((call (ref g) ()))) (prim %cdr ((call (ref g) ())))))))\n"
    ∷ codes "(define lib:char=? (lambda (a b) #f (prim %= ((prim %char->integer ((ref a))) (prim %char->integer ((ref b)))))))\n(define lib:string->list (lambda (s) #f (call (ref lib:%slist) ((ref s) (prim %string-length ((ref s))) (const ())))))\n(define lib:%slist (lambda (s n a) #f (if (prim %= ((ref n) (const 0))) (ref a) (call (ref lib:%slist) ((ref s) (prim %- ((ref n) (const 1))) (prim %cons ((prim %string-ref ((ref s) (prim %- ((ref n) (const 1))))) (ref a))))))))\n(define lib:vector->list (lambda (v) #f (call (ref lib:%vlist) ((ref v) (prim %vector-length ((ref v))) (const ())))))\n(define lib:%vlist (lambda (v n a) #f (if (prim %= ((ref n) (const 0))) (ref a) (call (ref lib:%vlist) ((ref v) (prim %- ((ref n) (const 1))) (prim %cons ((prim %vector-ref ((ref v) (prim %- ((ref n) (const 1))))) (ref a))))))))\n(define lib:%chars (lambda (n b) #f (if (prim %< ((ref n) (const 0))) (prim %cons ((const #\\-) (call (ref lib:%num) ((ref n) (ref b) (const ()))))) (call (ref lib:%num) ((call (lambda (.1) #f (prim %- ((const 0) (ref .1)))) ((ref n))) (ref b) (const ()))))))\n(define lib:%num (lambda (n b a) #f (call (lambda (c q) #f (if (prim %= ((ref q) (const 0))) (prim %cons ((ref c) (ref a))) (call (ref lib:%num) ((ref q) (ref b) (prim %cons ((ref c) (ref a))))))) ((call (ref lib:%digit) ((call (lambda (.2) #f (prim %- ((const 0) (ref .2)))) ((prim %remainder ((ref n) (ref b))))))) (prim %quotient ((ref n) (ref b)))))))\n(define lib:%digit (lambda (d) #f (prim %integer->char ((if (prim %< ((ref d) (const 10))) (prim %+ ((const 48) (ref d))) (prim %+ ((const 87) (ref d))))))))\n(define lib:write (lambda (x) #f (call (ref lib:%print) ((ref x) (const #t)))))\n(define lib:%print (lambda (x w) #f (if (prim %pair? ((ref x))) (seq ((prim %write-char ((const #\\())) (call (ref lib:%items) ((ref x) (ref w))))) (if (prim %null? ((ref x))) (seq ((call (ref lib:%text) ((const \"()\"))))) (if (prim %string? ((ref x))) (seq ((if (ref w) (call (ref lib:%quoted) ((ref x))) (call (ref lib:%text) ((ref x)))))) (if (prim %symbol? ((ref x))) (seq ((call (ref lib:%text) ((prim %symbol-name ((ref x))))))) (if (prim %integer? ((ref x))) (seq ((call (ref lib:%put) ((call (ref lib:%chars) ((ref x) (const 10))))))) (if (prim %char? ((ref x))) (seq ((if (ref w) (call (ref lib:%named) ((ref x))) (prim %write-char ((ref x)))))) (if (prim %boolean? ((ref x))) (seq ((call (ref lib:%text) ((if (ref x) (const \"#t\") (const \"#f\")))))) (if (prim %vector? ((ref x))) (seq ((prim %write-char ((const #\\#))) (call (ref lib:%print) ((call (ref lib:vector->list) ((ref x))) (ref w))))) (if (prim %procedure? ((ref x))) (seq ((call (ref lib:%text) ((const \"#<procedure>\"))))) (if (prim %eof? ((ref x))) (seq ((call (ref lib:%text) ((const \"#<eof>\"))))) (seq ((call (ref lib:%text) ((const \"#<unspecified>\")))))))))))))))))\n(define lib:%items (lambda (x w) #f (seq ((call (ref lib:%print) ((prim %car ((ref x))) (ref w))) (if (prim %pair? ((prim %cdr ((ref x))))) (seq ((prim %write-char ((const #\\space))) (call (ref lib:%items) ((prim %cdr ((ref x))) (ref w))))) (if (prim %null? ((prim %cdr ((ref x))))) (seq ((prim %write-char ((const #\\)))))) (seq ((call (ref lib:%text) ((const \" . \"))) (call (ref lib:%print) ((prim %cdr ((ref x))) (ref w))) (prim %write-char ((const #\\))))))))))))\n(define lib:%put (lambda (l) #f (if (if (prim %null? ((ref l))) (const #f) (const #t)) (seq ((prim %write-char ((prim %car ((ref l))))) (call (ref lib:%put) ((prim %cdr ((ref l))))))) (const #<unspecified>))))\n(define lib:%text (lambda (s) #f (call (ref lib:%put) ((call (ref lib:string->list) ((ref s)))))))\n(define lib:%quoted (lambda (s) #f (seq ((prim %write-char ((const #\\\"))) (call (ref lib:%qput) ((call (ref lib:string->list) ((ref s))))) (prim %write-char ((const #\\\")))))))\n(define lib:%qput (lambda (l) #f (if (if (prim %null? ((ref l))) (const #f) (const #t)) (seq ((if (call (lambda (.3) #f (if (ref .3) (ref .3) (call (ref lib:char=?) ((prim %car ((ref l))) (const #\\\\))))) ((call (ref lib:char=?) ((prim %car ((ref l))) (const #\\\"))))) (prim %write-char ((const #\\\\))) (const #<unspecified>)) (prim %write-char ((prim %car ((ref l))))) (call (ref lib:%qput) ((prim %cdr ((ref l))))))) (const #<unspecified>))))\n(define lib:%named (lambda (c) #f (seq ((prim %write-char ((const #\\#))) (prim %write-char ((const #\\\\))) (if (call (ref lib:char=?) ((ref c) (const #\\space))) (seq ((call (ref lib:%text) ((const \"space\"))))) (if (call (ref lib:char=?) ((ref c) (const #\\newline))) (seq ((call (ref lib:%text) ((const \"newline\"))))) (seq ((prim %write-char ((ref c)))))))))))\n(define f (lambda (x) #f (fix (even? odd?) ((lambda (n) #f (if (prim %= ((ref n) (const 0))) (const #t) (call (ref odd?) ((prim %- ((ref n) (const 1))))))) (lambda (n) #f (if (prim %= ((ref n) (const 0))) (const #f) (call (ref even?) ((prim %- ((ref n) (const 1)))))))) (call (ref even?) ((ref x))))))\n(call (ref lib:write) ((call (ref f) ((const 100)))))\n(call (ref lib:write) ((call (ref f) ((const 101)))))\n(define g (lambda (x) #f (call (lambda (a b c d) #f (call (lambda (.4 .5 .6 .7) #f (seq ((set a (ref .4)) (set b (ref .5)) (set c (ref .6)) (set d (ref .7)) (call (lambda () #f (seq ((set c (const 9)) (call (lambda (.8 .9 .10) #f (prim %cons ((ref .8) (prim %cons ((ref .9) (prim %cons ((ref .10) (const ())))))))) ((ref a) (call (ref b) ()) (call (ref d) ())))))) ())))) ((prim %* ((ref x) (const 2))) (lambda () #f (prim %+ ((ref a) (const 1)))) (const 5) (lambda () #f (ref c))))) ((const #<undefined>) (const #<undefined>) (const #<undefined>) (const #<undefined>)))))\n(call (ref lib:write) ((call (ref g) ((const 4)))))\n(call (ref lib:write) ((call (lambda (x) #f (fix (foo bar) ((lambda (y) #f (call (ref bar) ((ref x) (ref y)))) (lambda (a b) #f (prim %+ ((prim %* ((ref a) (ref b))) (ref a))))) (call (ref foo) ((prim %+ ((ref x) (const 3))))))) ((const 5)))))\n(define q (const 1))\n(define w (const 2))\n(call (ref lib:write) ((prim %+ ((ref q) (ref w)))))\n(define q (const 10))\n(call (ref lib:write) ((ref q)))\n(call (ref lib:write) ((fix (e? o?) ((lambda (n) #f (if (prim %= ((const 0) (ref n))) (const #t) (call (ref o?) ((prim %- ((ref n) (const 1))))))) (lambda (n) #f (if (prim %= ((const 0) (ref n))) (const #f) (call (ref e?) ((prim %- ((ref n) (const 1)))))))) (call (ref e?) ((const 88))))))\n(call (ref lib:write) ((call (lambda (x) #f (call (lambda (y) #f (call (lambda (x) #f (call (lambda (.11 .12) #f (prim %cons ((ref .11) (prim %cons ((ref .12) (const ())))))) ((ref x) (ref y)))) ((prim %* ((ref y) (const 10)))))) ((prim %+ ((ref x) (const 1)))))) ((const 1)))))\n(call (ref lib:write) ((call (lambda (a b) #f (call (lambda (.13 .14) #f (seq ((set a (ref .13)) (set b (ref .14)) (call (lambda () #f (call (ref a) ())) ())))) ((lambda () #f (ref b)) (const 7)))) ((const #<undefined>) (const #<undefined>)))))\n(call (ref lib:write) ((call (lambda () #f (call (lambda (x y) #f (call (lambda (.15 .16) #f (seq ((set x (ref .15)) (set y (ref .16)) (call (lambda () #f (seq ((set x (const 5)) (prim %+ ((ref x) (ref y)))))) ())))) ((const 1) (const 2)))) ((const #<undefined>) (const #<undefined>)))) ())))\n(define opt (lambda (a) r (if (prim %null? ((ref r))) (ref a) (prim %car ((ref r))))))\n(call (ref lib:write) ((call (ref opt) ((const 1)))))\n(call (ref lib:write) ((call (ref opt) ((const 1) (const 2)))))\n(call (ref lib:write) ((call (lambda () x (ref x)) ())))\n(call (ref lib:write) ((call (lambda (a) b (call (lambda (.17 .18) #f (prim %cons ((ref .17) (prim %cons ((ref .18) (const ())))))) ((ref a) (ref b)))) ((const 1) (const 2) (const 3)))))\n(call (ref lib:write) ((call (lambda () x (ref x)) ((const 1) (const 2)))))\n(call (lambda () #f (call (lambda (a b) #f (call (lambda (.19 .20) #f (seq ((set a (ref .19)) (set b (ref .20)) (call (lambda () #f (ref b)) ())))) ((const 1) (ref a)))) ((const #<undefined>) (const #<undefined>)))) ())\n"
    ∷ codes "(define lib:eqv? (lambda (x y) #f (prim %eqv? ((ref x) (ref y)))))\n(define lib:eq? (lambda (x y) #f (prim %eqv? ((ref x) (ref y)))))\n(define lib:caar (lambda (p) #f (prim %car ((prim %car ((ref p)))))))\n(define lib:cadr (lambda (p) #f (prim %car ((prim %cdr ((ref p)))))))\n(define lib:length (lambda (l) #f (call (ref lib:%length) ((ref l) (const 0)))))\n(define lib:%length (lambda (l n) #f (if (prim %null? ((ref l))) (ref n) (call (ref lib:%length) ((prim %cdr ((ref l))) (prim %+ ((ref n) (const 1))))))))\n(define lib:%mem (lambda (f x l) #f (if (prim %null? ((ref l))) (seq ((const #f))) (if (call (ref f) ((ref x) (prim %car ((ref l))))) (seq ((ref l))) (seq ((call (ref lib:%mem) ((ref f) (ref x) (prim %cdr ((ref l)))))))))))\n(define lib:memq (lambda (x l) #f (call (ref lib:%mem) ((ref lib:eq?) (ref x) (ref l)))))\n(define lib:memv (lambda (x l) #f (call (ref lib:%mem) ((ref lib:eqv?) (ref x) (ref l)))))\n(define lib:%ass (lambda (f x l) #f (if (prim %null? ((ref l))) (seq ((const #f))) (if (call (ref f) ((ref x) (call (ref lib:caar) ((ref l))))) (seq ((prim %car ((ref l))))) (seq ((call (ref lib:%ass) ((ref f) (ref x) (prim %cdr ((ref l)))))))))))\n(define lib:assv (lambda (x l) #f (call (ref lib:%ass) ((ref lib:eqv?) (ref x) (ref l)))))\n(define lib:char=? (lambda (a b) #f (prim %= ((prim %char->integer ((ref a))) (prim %char->integer ((ref b)))))))\n(define lib:string->list (lambda (s) #f (call (ref lib:%slist) ((ref s) (prim %string-length ((ref s))) (const ())))))\n(define lib:%slist (lambda (s n a) #f (if (prim %= ((ref n) (const 0))) (ref a) (call (ref lib:%slist) ((ref s) (prim %- ((ref n) (const 1))) (prim %cons ((prim %string-ref ((ref s) (prim %- ((ref n) (const 1))))) (ref a))))))))\n(define lib:vector->list (lambda (v) #f (call (ref lib:%vlist) ((ref v) (prim %vector-length ((ref v))) (const ())))))\n(define lib:%vlist (lambda (v n a) #f (if (prim %= ((ref n) (const 0))) (ref a) (call (ref lib:%vlist) ((ref v) (prim %- ((ref n) (const 1))) (prim %cons ((prim %vector-ref ((ref v) (prim %- ((ref n) (const 1))))) (ref a))))))))\n(define lib:%chars (lambda (n b) #f (if (prim %< ((ref n) (const 0))) (prim %cons ((const #\\-) (call (ref lib:%num) ((ref n) (ref b) (const ()))))) (call (ref lib:%num) ((call (lambda (.1) #f (prim %- ((const 0) (ref .1)))) ((ref n))) (ref b) (const ()))))))\n(define lib:%num (lambda (n b a) #f (call (lambda (c q) #f (if (prim %= ((ref q) (const 0))) (prim %cons ((ref c) (ref a))) (call (ref lib:%num) ((ref q) (ref b) (prim %cons ((ref c) (ref a))))))) ((call (ref lib:%digit) ((call (lambda (.2) #f (prim %- ((const 0) (ref .2)))) ((prim %remainder ((ref n) (ref b))))))) (prim %quotient ((ref n) (ref b)))))))\n(define lib:%digit (lambda (d) #f (prim %integer->char ((if (prim %< ((ref d) (const 10))) (prim %+ ((const 48) (ref d))) (prim %+ ((const 87) (ref d))))))))\n(define lib:newline (lambda () #f (prim %write-char ((const #\\newline)))))\n(define lib:write (lambda (x) #f (call (ref lib:%print) ((ref x) (const #t)))))\n(define lib:%print (lambda (x w) #f (if (prim %pair? ((ref x))) (seq ((prim %write-char ((const #\\())) (call (ref lib:%items) ((ref x) (ref w))))) (if (prim %null? ((ref x))) (seq ((call (ref lib:%text) ((const \"()\"))))) (if (prim %string? ((ref x))) (seq ((if (ref w) (call (ref lib:%quoted) ((ref x))) (call (ref lib:%text) ((ref x)))))) (if (prim %symbol? ((ref x))) (seq ((call (ref lib:%text) ((prim %symbol-name ((ref x))))))) (if (prim %integer? ((ref x))) (seq ((call (ref lib:%put) ((call (ref lib:%chars) ((ref x) (const 10))))))) (if (prim %char? ((ref x))) (seq ((if (ref w) (call (ref lib:%named) ((ref x))) (prim %write-char ((ref x)))))) (if (prim %boolean? ((ref x))) (seq ((call (ref lib:%text) ((if (ref x) (const \"#t\") (const \"#f\")))))) (if (prim %vector? ((ref x))) (seq ((prim %write-char ((const #\\#))) (call (ref lib:%print) ((call (ref lib:vector->list) ((ref x))) (ref w))))) (if (prim %procedure? ((ref x))) (seq ((call (ref lib:%text) ((const \"#<procedure>\"))))) (if (prim %eof? ((ref x))) (seq ((call (ref lib:%text) ((const \"#<eof>\"))))) (seq ((call (ref lib:%text) ((const \"#<unspecified>\")))))))))))))))))\n(define lib:%items (lambda (x w) #f (seq ((call (ref lib:%print) ((prim %car ((ref x))) (ref w))) (if (prim %pair? ((prim %cdr ((ref x))))) (seq ((prim %write-char ((const #\\space))) (call (ref lib:%items) ((prim %cdr ((ref x))) (ref w))))) (if (prim %null? ((prim %cdr ((ref x))))) (seq ((prim %write-char ((const #\\)))))) (seq ((call (ref lib:%text) ((const \" . \"))) (call (ref lib:%print) ((prim %cdr ((ref x))) (ref w))) (prim %write-char ((const #\\))))))))))))\n(define lib:%put (lambda (l) #f (if (if (prim %null? ((ref l))) (const #f) (const #t)) (seq ((prim %write-char ((prim %car ((ref l))))) (call (ref lib:%put) ((prim %cdr ((ref l))))))) (const #<unspecified>))))\n(define lib:%text (lambda (s) #f (call (ref lib:%put) ((call (ref lib:string->list) ((ref s)))))))\n(define lib:%quoted (lambda (s) #f (seq ((prim %write-char ((const #\\\"))) (call (ref lib:%qput) ((call (ref lib:string->list) ((ref s))))) (prim %write-char ((const #\\\")))))))\n(define lib:%qput (lambda (l) #f (if (if (prim %null? ((ref l))) (const #f) (const #t)) (seq ((if (call (lambda (.3) #f (if (ref .3) (ref .3) (call (ref lib:char=?) ((prim %car ((ref l))) (const #\\\\))))) ((call (ref lib:char=?) ((prim %car ((ref l))) (const #\\\"))))) (prim %write-char ((const #\\\\))) (const #<unspecified>)) (prim %write-char ((prim %car ((ref l))))) (call (ref lib:%qput) ((prim %cdr ((ref l))))))) (const #<unspecified>))))\n(define lib:%named (lambda (c) #f (seq ((prim %write-char ((const #\\#))) (prim %write-char ((const #\\\\))) (if (call (ref lib:char=?) ((ref c) (const #\\space))) (seq ((call (ref lib:%text) ((const \"space\"))))) (if (call (ref lib:char=?) ((ref c) (const #\\newline))) (seq ((call (ref lib:%text) ((const \"newline\"))))) (seq ((prim %write-char ((ref c)))))))))))\n(call (ref lib:write) ((call (lambda (.4) #f (if (call (lambda (.5) #f (if (ref .5) (ref .5) (call (lambda (.6) #f (if (ref .6) (ref .6) (call (lambda (.7) #f (if (ref .7) (ref .7) (prim %eqv? ((ref .4) (const 7))))) ((prim %eqv? ((ref .4) (const 5))))))) ((prim %eqv? ((ref .4) (const 3))))))) ((prim %eqv? ((ref .4) (const 2))))) (seq ((const prime))) (if (call (lambda (.8) #f (if (ref .8) (ref .8) (call (lambda (.9) #f (if (ref .9) (ref .9) (call (lambda (.10) #f (if (ref .10) (ref .10) (call (lambda (.11) #f (if (ref .11) (ref .11) (prim %eqv? ((ref .4) (const 9))))) ((prim %eqv? ((ref .4) (const 8))))))) ((prim %eqv? ((ref .4) (const 6))))))) ((prim %eqv? ((ref .4) (const 4))))))) ((prim %eqv? ((ref .4) (const 1))))) (seq ((const composite))) (const #<unspecified>)))) ((prim %* ((const 2) (const 3)))))))\n(call (ref lib:write) ((call (lambda (.12) #f (if (call (lambda (.13) #f (if (ref .13) (ref .13) (call (lambda (.14) #f (if (ref .14) (ref .14) (call (lambda (.15) #f (if (ref .15) (ref .15) (call (lambda (.16) #f (if (ref .16) (ref .16) (prim %eqv? ((ref .12) (const u))))) ((prim %eqv? ((ref .12) (const o))))))) ((prim %eqv? ((ref .12) (const i))))))) ((prim %eqv? ((ref .12) (const e))))))) ((prim %eqv? ((ref .12) (const a))))) (seq ((const vowel))) (if (call (lambda (.17) #f (if (ref .17) (ref .17) (prim %eqv? ((ref .12) (const y))))) ((prim %eqv? ((ref .12) (const w))))) (seq ((const semivowel))) (seq ((const consonant)))))) ((prim %car ((const (c d))))))))\n(call (ref lib:write) ((call (lambda (.18) #f (if (call (lambda (.19) #f (if (ref .19) (ref .19) (prim %eqv? ((ref .18) (const #\\a))))) ((prim %eqv? ((ref .18) (const #\\b))))) (seq ((const 1))) (seq ((const 2))))) ((const #\\a)))))\n(call (ref lib:write) ((call (lambda (.20) #f (if (prim %eqv? ((ref .20) (const \"a\"))) (seq ((const 1))) (seq ((const 2))))) ((const \"a\")))))\n(call (ref lib:write) ((call (lambda (.21) #f (if (prim %eqv? ((ref .21) (const ()))) (seq ((const nil))) (seq ((const no))))) ((const ())))))\n(call (ref lib:write) ((call (lambda (.22) #f (if (const #f) (seq ((const 1))) (if (prim %eqv? ((ref .22) (const 5))) (seq ((const five))) (const #<unspecified>)))) ((const 5)))))\n(call (ref lib:write) ((call (lambda (.23) #f (prim %cons ((ref .23) (const ())))) ((call (lambda (.24) #f (if (prim %eqv? ((ref .24) (const 1))) (seq ((const 1))) (const #<unspecified>))) ((const 9)))))))\n(call (ref lib:write) ((call (lambda (.25) #f (if (prim %eqv? ((ref .25) (const #f))) (seq ((const 0))) (if (prim %eqv? ((ref .25) (const #t))) (seq ((const 1))) (const #<unspecified>)))) ((const #t)))))\n(call (ref lib:newline) ())\n(call (ref lib:write) ((call (lambda (.26) #f (if (ref .26) (call (ref lib:cadr) ((ref .26))) (seq ((const #f))))) ((call (ref lib:assv) ((const b) (const ((a 1) (b 2)))))))))\n(call (ref lib:write) ((if (const #f) (seq ((const 1))) (call (lambda (.27) #f (if (ref .27) (ref .27) (const #<unspecified>))) ((const 5))))))\n(call (ref lib:write) ((call (lambda (.28) #f (prim %cons ((ref .28) (const ())))) ((if (const #f) (seq ((const 1))) (const #<unspecified>))))))\n(call (ref lib:write) ((if (call (lambda (.29 .30) #f (prim %< ((ref .30) (ref .29)))) ((const 3) (const 2))) (seq ((const greater))) (if (prim %< ((const 3) (const 2))) (seq ((const less))) (const #<unspecified>)))))\n(call (ref lib:write) ((call (lambda (.31) #f (if (ref .31) (prim %car ((ref .31))) (call (lambda (.32) #f (if (ref .32) (call (ref lib:length) ((ref .32))) (seq ((const 9))))) ((call (ref lib:memv) ((const 2) (const (1 2 3)))))))) ((const #f)))))\n(call (ref lib:newline) ())\n(call (ref lib:write) ((const #t)))\n(call (ref lib:write) ((const #f)))\n(call (ref lib:write) ((if (const 1) (if (const 2) (if (const c) (const (f g)) (const #f)) (const #f)) (const #f))))\n(call (ref lib:write) ((call (lambda (.33) #f (if (ref .33) (ref .33) (prim %car ((const ()))))) ((call (ref lib:memq) ((const b) (const (a b c))))))))\n(call (ref lib:write) ((if (const 1) (if (const #f) (prim %car ((const ()))) (const #f)) (const #f))))\n(call (ref lib:write) ((call (lambda (.34) #f (if (ref .34) (ref .34) (call (lambda (.35) #f (if (ref .35) (ref .35) (const 3))) ((const #f))))) ((const #f)))))\n(call (ref lib:write) ((const #f)))\n(call (ref lib:write) ((if (const ()) (const 1) (const 2))))\n(call (ref lib:write) ((if (const 0) (const 1) (const 2))))\n(call (ref lib:write) ((call (lambda (.36) #f (prim %cons ((ref .36) (const ())))) ((if (const #f) (const #f) (const #<unspecified>))))))\n(call (ref lib:write) ((call (lambda (.37) #f (prim %cons ((ref .37) (const ())))) ((set x (const 5))))))\n(define x (const 1))\n"
    ∷ []

own_names_quasi_defines_control : texts_of (library_of (data_in library_text)) own_names_quasi_defines_control_text ≡ own_names_quasi_defines_control_core
unfolding digits
own_names_quasi_defines_control = refl
