-- Each procedure of a program but the first is made by one step, of a procedure before it.
use Rattle.std.proofs.Common.{◌≡◌, ℕ, zero, suc, ◌+◌, ◌<◌, ◌≤◌, Bool, true, false, List, [], ◌∷◌, ◌++◌, length, map, Option, Some, None, refl, sym, ap, ◌∙◌, subst, arith, append_assoc, append-nil, eqb-true, ne_eqb}
use Rattle.std.proofs.lemmas.Bool.{eqb-false}
use Rattle.std.proofs.lemmas.List.Sorted.{IsPermutation-append, IsPermutation-append_comm, IsPermutation-append_left, IsPermutation-append_right, IsPermutation-refl, IsPermutation-sym, IsPermutation-trans, list_any-IsPermutation}
use Rattle.std.proofs.lemmas.Map.Keys.{IsDistinct-IsPermutation}
use Rattle.std.specs.Prelude.{IsTrue, if◌then◌else◌, is_some, nat_eq}
use Rattle.std.specs.List.{AllByRecursion, IsDistinct}
use Rattle.std.specs.List.Sorted.{IsPermutation}
use Rattle.scheme_base.specs.declared.op.Op.{Op}
use Rattle.scheme_base.specs.declared.op.Op.TheVariants as op
use Rattle.scheme_base.specs.declared.pos.Pos.{Pos}
use Rattle.core_form.specs.declared.program.Program.{Program}
use Rattle.core_form.specs.declared.program.VarRef.{VarRef}
use Rattle.core_form.specs.Trees.{Trees}
use Rattle.core_form.specs.Valid.{IsRenamed}
use Rattle.named_form.specs.Code.{Code, Ends, Then, Act, Written, closes_in, has}
use Rattle.named_form.specs.Code as act
use Rattle.named_form.specs.Valid.{LaterOnes, Made, all_made, numbers_from}
use Rattle.named_form.proofs.Kept.{has_within}
use Rattle.named_form.proofs.Rising.{numbers_append}
use Rattle.box_name.specs.Told.{Expr, Local, Lambda, If, SetLocal, SetTop, Call, Direct, Prim, Seq, Fix, Define, Exprs, none, item, all_told}
use Rattle.box_name.specs.Counts.{after, after_boxes, after_lambda, after_param, after_params, all_after, all_lambdas, all_params, all_procs_in, have_values, lambdas, procs_in}
use Rattle.box_name.specs.Cores.{form_of}
use Rattle.box_name.specs.Naming.{Setting, all_code, all_valued, bind_param, bind_params, code, make_boxes, operation, place, procs_of, value, values, written}
use Rattle.box_name.specs.Whole.{all_written, form_code, is_boxed, placed_lambdas, setting}
use Rattle.box_name.proofs.FitExpressions.{AllFit, AreLambdas, FormFits, FormsFit, IsFit}
use Rattle.box_name.proofs.NumbersNamed.{all_lambdas_many, lambdas_many, placed_many, written_many}
use Rattle.box_name.proofs.StepsWell.{fit_of, of_both}

-- the procedures of which an expression's own steps make closures, where its procedures are those from p on
abbrev mutual
  pub made_in : (p : ℕ) → Expr → List ℕ
  made_in p (Lambda q xs r body) = p ∷ []
  made_in p (If q test this that) =
      let p1 = p + procs_in test in made_in p test ++ (made_in p1 this ++ made_in (p1 + procs_in this) that)
  made_in p (SetLocal q x e) = made_in p e
  made_in p (SetTop q x e) = made_in p e
  made_in p (Call q f es) = made_in p f ++ all_made_in (p + procs_in f) es
  made_in p (Direct q xs body es) = all_made_in (p + procs_in body) es ++ made_in p body
  made_in p (Prim q o es) = all_made_in p es
  made_in p (Seq q es) = all_made_in p es
  made_in p (Fix q xs ls body) = procs_of p ls ++ made_in (p + all_procs_in ls) body
  made_in p (Define q x e) = made_in p e
  made_in p e = []

  pub all_made_in : (p : ℕ) → Exprs → List ℕ
  all_made_in p none = []
  all_made_in p (item e es) = made_in p e ++ all_made_in (p + procs_in e) es

-- Steps

operation_closes : (q : Pos) (vars : List ℕ) (o : Op) (ys : List ℕ) (rest : Code Pos)
    → closes_in (Then q vars (operation o ys) rest) ≡ closes_in rest
operation_closes q vars op.Apply [] rest = refl
operation_closes q vars op.Apply (x ∷ []) rest = refl
operation_closes q vars op.Apply (x ∷ y ∷ []) rest = refl
operation_closes q vars op.Apply (x ∷ y ∷ z ∷ zs) rest = refl
operation_closes q vars op.CallCC [] rest = refl
operation_closes q vars op.CallCC (x ∷ []) rest = refl
operation_closes q vars op.CallCC (x ∷ y ∷ ys) rest = refl
operation_closes q vars o ys rest = refl

either_closes : (b : Bool) (c d : Code Pos) (xs : List ℕ) → closes_in c ≡ xs → closes_in d ≡ xs
    → closes_in (if b then c else d) ≡ xs
either_closes true c d xs h k = h
either_closes false c d xs h k = k

param_closes : (s : Setting) (q : Pos) (x n : ℕ) (v : Option ℕ) (rest : Code Pos)
    → closes_in (bind_param s q x n v rest) ≡ closes_in rest
param_closes s q x n None rest = refl
param_closes s q x n (Some v) rest =
    either_closes (s.boxed x) (Then q (suc n ∷ []) (act.MakeBox n) rest) rest (closes_in rest) refl refl

params_closes : (s : Setting) (q : Pos) (xs : List ℕ) (vs : List (Option ℕ)) (n : ℕ) (rest : Code Pos)
    → closes_in (bind_params s q xs vs n rest) ≡ closes_in rest
params_closes s q [] vs n rest = refl
params_closes s q (x ∷ xs) [] n rest = refl
params_closes s q (x ∷ xs) (v ∷ vs) n rest =
    param_closes s q x n v (bind_params s q xs vs (after_param s.boxed n x (is_some v)) rest)
    ∙ params_closes s q xs vs (after_param s.boxed n x (is_some v)) rest

mutual
  code_closes : (s : Setting) (e : Expr) (n p : ℕ) (rest : Code Pos)
      → closes_in (code s e n p rest) ≡ made_in p e ++ closes_in rest
  code_closes s (Local q x) n p rest =
      either_closes (s.boxed x) (Then q (n ∷ []) (act.Unbox (place s.places x) (s.hole x)) rest) rest (closes_in rest) refl refl
  code_closes s (If q test this that) n p rest =
      let k = after s.boxed n test in
      let j = after s.boxed (suc k) this in
      let p1 = p + procs_in test in
      let p2 = p1 + procs_in this in
      let first = code s this (suc k) p1 (Ends (Some (value s this (suc k)))) in
      let second = code s that j p2 (Ends (Some (value s that j))) in
      let one : closes_in first ≡ made_in p1 this =
      code_closes s this (suc k) p1 (Ends (Some (value s this (suc k)))) ∙ append-nil (made_in p1 this) in
      let two : closes_in second ≡ made_in p2 that =
      code_closes s that j p2 (Ends (Some (value s that j))) ∙ append-nil (made_in p2 that) in
      code_closes s test n p (Then q (k ∷ []) (act.If (value s test n) first second) rest)
      ∙ (ap (λ xs. made_in p test ++ ((xs ++ closes_in second) ++ closes_in rest)) one
      ∙ (ap (λ xs. made_in p test ++ ((made_in p1 this ++ xs) ++ closes_in rest)) two
      ∙ sym (append_assoc (made_in p test) (made_in p1 this ++ made_in p2 that) (closes_in rest))))
  code_closes s (SetLocal q x e) n p rest =
      code_closes s e n p (Then q (after s.boxed n e ∷ []) (act.SetBox (place s.places x) (value s e n)) rest)
  code_closes s (SetTop q x e) n p rest =
      code_closes s e n p (Then q (after s.boxed n e ∷ []) (act.TopSet (s.top x) (value s e n) (s.checked x)) rest)
  code_closes s (Call q f es) n p rest =
      let k = after s.boxed n f in
      let call = Then q (all_after s.boxed k es ∷ []) (act.Call (value s f n) (values s es k)) rest in
      code_closes s f n p (all_code s es k (p + procs_in f) call)
      ∙ (ap (λ xs. made_in p f ++ xs) (all_closes s es k (p + procs_in f) call)
      ∙ sym (append_assoc (made_in p f) (all_made_in (p + procs_in f) es) (closes_in rest)))
  code_closes s (Direct q xs body es) n p rest =
      let k = all_after s.boxed n es in
      let j = after_params s.boxed k xs (have_values es) in
      let inner = code s body j p rest in
      all_closes s es n (p + procs_in body) (bind_params s q xs (all_valued s es n) k inner)
      ∙ (ap (λ ys. all_made_in (p + procs_in body) es ++ ys)
      (params_closes s q xs (all_valued s es n) k inner ∙ code_closes s body j p rest)
      ∙ sym (append_assoc (all_made_in (p + procs_in body) es) (made_in p body) (closes_in rest)))
  code_closes s (Prim q o es) n p rest =
      let k = all_after s.boxed n es in
      all_closes s es n p (Then q (k ∷ []) (operation o (values s es n)) rest)
      ∙ ap (λ xs. all_made_in p es ++ xs) (operation_closes q (k ∷ []) o (values s es n) rest)
  code_closes s (Seq q es) n p rest = all_closes s es n p rest
  code_closes s (Fix q xs ls body) n p rest =
      ap (λ ys. procs_of p ls ++ ys) (code_closes s body (n + length xs) (p + all_procs_in ls) rest)
      ∙ sym (append_assoc (procs_of p ls) (made_in (p + all_procs_in ls) body) (closes_in rest))
  code_closes s (Define q x e) n p rest =
      code_closes s e n p (Then q (after s.boxed n e ∷ []) (act.TopDefine (s.top x) (value s e n)) rest)
  code_closes s e n p rest = refl

  all_closes : (s : Setting) (es : Exprs) (n p : ℕ) (rest : Code Pos)
      → closes_in (all_code s es n p rest) ≡ all_made_in p es ++ closes_in rest
  all_closes s none n p rest = refl
  all_closes s (item e es) n p rest =
      let others = all_code s es (after s.boxed n e) (p + procs_in e) rest in
      code_closes s e n p others
      ∙ (ap (λ xs. made_in p e ++ xs) (all_closes s es (after s.boxed n e) (p + procs_in e) rest)
      ∙ sym (append_assoc (made_in p e) (all_made_in (p + procs_in e) es) (closes_in rest)))

-- Procedures

-- the procedures of which the body of procedure p makes closures
abbrev pub body_made : (p : ℕ) → Expr → List ℕ
body_made p (Lambda q xs r body) = made_in (suc p) body
body_made p e = []

-- the same of the bodies of the procedures from p on
abbrev pub bodies : (p : ℕ) → List Expr → List ℕ
bodies p [] = []
bodies p (e ∷ es) = body_made p e ++ bodies (suc p) es

boxes_closes : (s : Setting) (q : Pos) (xs : List ℕ) (v k : ℕ) (rest : Code Pos)
    → closes_in (make_boxes s q xs v k rest) ≡ closes_in rest
boxes_closes s q [] v k rest = refl
boxes_closes s q (x ∷ xs) v k rest =
    either_closes (s.boxed x) (Then q (k ∷ []) (act.MakeBox v) (make_boxes s q xs (suc v) (suc k) rest))
    (make_boxes s q xs (suc v) k rest) (closes_in rest) (boxes_closes s q xs (suc v) (suc k) rest)
    (boxes_closes s q xs (suc v) k rest)

written_closes : (s : Setting) (n p : ℕ) (e : Expr) → closes_in (written s n p e).body ≡ body_made p e
written_closes s n p (Lambda q xs r body) =
    let ys = all_params xs r in
    let k = after_boxes s.boxed (n + length ys) ys in
    let end = Ends (Some (value s body k)) in
    boxes_closes s q ys n (n + length ys) (code s body k (suc p) end)
    ∙ (code_closes s body k (suc p) end ∙ append-nil (made_in (suc p) body))
written_closes s n p e = refl

abbrev pub exprs_of : List (ℕ × Expr) → List Expr
exprs_of ls = map (λ l. l.1) ls

all_written_close : (all : Exprs) (n p : ℕ) (ls : List (ℕ × Expr)) → all_made (all_written all n p ls) ≡ bodies p (exprs_of ls)
all_written_close all n p [] = refl
all_written_close all n p (l ∷ ls) =
    let others = all_written all (after_lambda (is_boxed all) n l.1) (suc p) ls in
    ap (λ xs. xs ++ all_made others) (written_closes (setting all l.0) n p l.1)
    ∙ ap (λ xs. body_made p l.1 ++ xs) (all_written_close all (after_lambda (is_boxed all) n l.1) (suc p) ls)

placed_exprs : (f : ℕ) (es : List Expr) (ls : List (ℕ × Expr)) → exprs_of (map (λ e. (f, e)) es ++ ls) ≡ es ++ exprs_of ls
placed_exprs f [] ls = refl
placed_exprs f (e ∷ es) ls = ap (λ xs. e ∷ xs) (placed_exprs f es ls)

pub all_placed_exprs : (f : ℕ) (es : Exprs) → exprs_of (placed_lambdas f es) ≡ all_lambdas es
all_placed_exprs f none = refl
all_placed_exprs f (item e es) =
    placed_exprs f (lambdas e) (placed_lambdas (suc f) es) ∙ ap (λ xs. lambdas e ++ xs) (all_placed_exprs (suc f) es)

-- What is made is each procedure once

bodies_both : (p : ℕ) (xs ys : List Expr) → bodies p (xs ++ ys) ≡ bodies p xs ++ bodies (p + length xs) ys
bodies_both p [] ys = let same : p ≡ p + 0 = omega arith in ap (λ n. bodies n ys) same
bodies_both p (x ∷ xs) ys =
    let next : suc p + length xs ≡ p + suc (length xs) = omega arith in
    ap (λ zs. body_made p x ++ zs) (bodies_both (suc p) xs ys ∙ ap (λ n. bodies (suc p) xs ++ bodies n ys) next)
    ∙ sym (append_assoc (body_made p x) (bodies (suc p) xs) (bodies (p + suc (length xs)) ys))

pub four : (a b c d : List ℕ) → IsPermutation ((a ++ b) ++ (c ++ d)) ((a ++ c) ++ (b ++ d))
four a b c d =
    let left : a ++ ((b ++ c) ++ d) ≡ (a ++ b) ++ (c ++ d) =
    ap (λ xs. a ++ xs) (append_assoc b c d) ∙ sym (append_assoc a b (c ++ d)) in
    let right : a ++ ((c ++ b) ++ d) ≡ (a ++ c) ++ (b ++ d) =
    ap (λ xs. a ++ xs) (append_assoc c b d) ∙ sym (append_assoc a c (b ++ d)) in
    subst (λ xs. IsPermutation xs ((a ++ c) ++ (b ++ d))) left
    (subst (λ xs. IsPermutation (a ++ ((b ++ c) ++ d)) xs) right
    (IsPermutation-append_right a ((b ++ c) ++ d) ((c ++ b) ++ d)
    (IsPermutation-append_left d (b ++ c) (c ++ b) (IsPermutation-append_comm b c))))

-- what is made in these steps, and in the bodies of these procedures from p on, is each procedure from p on once
abbrev EachOnce : (p many : ℕ) → (made : List ℕ) → List Expr → Type 0
EachOnce p many made es = IsPermutation (made ++ bodies p es) (numbers_from p many)

join : (p a b : ℕ) (made more : List ℕ) (xs ys : List Expr) → length xs ≡ a → EachOnce p a made xs
    → EachOnce (p + a) b more ys → EachOnce p (a + b) (made ++ more) (xs ++ ys)
join p a b made more xs ys long h k =
    let split : bodies p (xs ++ ys) ≡ bodies p xs ++ bodies (p + a) ys =
    bodies_both p xs ys ∙ ap (λ n. bodies p xs ++ bodies (p + n) ys) long in
    subst (λ zs. IsPermutation ((made ++ more) ++ zs) (numbers_from p (a + b))) (sym split)
    (subst (λ zs. IsPermutation ((made ++ more) ++ (bodies p xs ++ bodies (p + a) ys)) zs) (sym (numbers_append p a b))
    (IsPermutation-trans ((made ++ more) ++ (bodies p xs ++ bodies (p + a) ys))
    ((made ++ bodies p xs) ++ (more ++ bodies (p + a) ys))
    (numbers_from p a ++ numbers_from (p + a) b)
    (four made more (bodies p xs) (bodies (p + a) ys))
    (IsPermutation-append (made ++ bodies p xs) (numbers_from p a) (more ++ bodies (p + a) ys) (numbers_from (p + a) b) h k)))

only_first : (p : ℕ) (l : Expr) (ls : Exprs) → AreLambdas (item l ls) → (made_in p l ≡ p ∷ []) × AreLambdas ls
only_first p (Lambda q xs r body) ls h = (refl, h)
only_first p l ls h = absurd h

mutual
  each_once : (p : ℕ) (e : Expr) → IsFit e → EachOnce p (procs_in e) (made_in p e) (lambdas e)
  each_once p (Lambda q xs r body) fit =
      IsPermutation-append_right (p ∷ []) (made_in (suc p) body ++ bodies (suc p) (lambdas body))
      (numbers_from (suc p) (procs_in body)) (each_once (suc p) body fit.1)
  each_once p (If q test this that) fit =
      let p1 = p + procs_in test in
      let p2 = p1 + procs_in this in
      let all : procs_in test + (procs_in this + procs_in that) ≡ procs_in test + procs_in this + procs_in that = omega arith in
      subst (λ n. EachOnce p n (made_in p test ++ (made_in p1 this ++ made_in p2 that)) (lambdas test ++ (lambdas this ++ lambdas that))) all
      (join p (procs_in test) (procs_in this + procs_in that) (made_in p test) (made_in p1 this ++ made_in p2 that)
      (lambdas test) (lambdas this ++ lambdas that) (lambdas_many test) (each_once p test fit.1)
      (join p1 (procs_in this) (procs_in that) (made_in p1 this) (made_in p2 that) (lambdas this) (lambdas that)
      (lambdas_many this) (each_once p1 this fit.2) (each_once p2 that fit.3)))
  each_once p (SetLocal q x e) fit = each_once p e fit.1
  each_once p (SetTop q x e) fit = each_once p e fit.1
  each_once p (Call q f es) fit =
      join p (procs_in f) (all_procs_in es) (made_in p f) (all_made_in (p + procs_in f) es) (lambdas f) (all_lambdas es)
      (lambdas_many f) (each_once p f fit.1) (all_once (p + procs_in f) es fit.2)
  each_once p (Direct q xs body es) fit =
      let own = made_in p body in
      let others = all_made_in (p + procs_in body) es in
      let held = bodies p (lambdas body ++ all_lambdas es) in
      IsPermutation-trans ((others ++ own) ++ held) ((own ++ others) ++ held)
      (numbers_from p (procs_in body + all_procs_in es))
      (IsPermutation-append_left held (others ++ own) (own ++ others) (IsPermutation-append_comm others own))
      (join p (procs_in body) (all_procs_in es) own others (lambdas body) (all_lambdas es) (lambdas_many body)
      (each_once p body fit.1) (all_once (p + procs_in body) es fit.2))
  each_once p (Prim q o es) fit = all_once p es fit.2
  each_once p (Seq q es) fit = all_once p es fit.1
  each_once p (Fix q xs ls body) fit =
      join p (all_procs_in ls) (procs_in body) (procs_of p ls) (made_in (p + all_procs_in ls) body) (all_lambdas ls)
      (lambdas body) (all_lambdas_many ls) (fix_once p ls fit.2 fit.4) (each_once (p + all_procs_in ls) body fit.3)
  each_once p (Define q x e) fit = absurd fit
  each_once p e fit = IsPermutation-refl []

  all_once : (p : ℕ) (es : Exprs) → AllFit es → EachOnce p (all_procs_in es) (all_made_in p es) (all_lambdas es)
  all_once p none fit = IsPermutation-refl []
  all_once p (item e es) fit =
      join p (procs_in e) (all_procs_in es) (made_in p e) (all_made_in (p + procs_in e) es) (lambdas e) (all_lambdas es)
      (lambdas_many e) (each_once p e fit.0) (all_once (p + procs_in e) es fit.1)

  -- a `Fix` makes closures of lambda expressions alone
  fix_once : (p : ℕ) (ls : Exprs) → AllFit ls → AreLambdas ls → EachOnce p (all_procs_in ls) (procs_of p ls) (all_lambdas ls)
  fix_once p none fit only = IsPermutation-refl []
  fix_once p (item l ls) fit only =
      let first = only_first p l ls only in
      join p (procs_in l) (all_procs_in ls) (p ∷ []) (procs_of (p + procs_in l) ls) (lambdas l) (all_lambdas ls)
      (lambdas_many l) (subst (λ xs. EachOnce p (procs_in l) xs (lambdas l)) first.0 (each_once p l fit.0))
      (fix_once (p + procs_in l) ls fit.1 first.1)

form_once : (p : ℕ) (e : Expr) → FormFits e → EachOnce p (procs_in e) (made_in p e) (lambdas e)
form_once p (Define q x e) fit = each_once p e fit.1
form_once p e fit = each_once p e fit

forms_once : (p : ℕ) (es : Exprs) → FormsFit es → EachOnce p (all_procs_in es) (all_made_in p es) (all_lambdas es)
forms_once p none fit = IsPermutation-refl []
forms_once p (item e es) fit =
    join p (procs_in e) (all_procs_in es) (made_in p e) (all_made_in (p + procs_in e) es) (lambdas e) (all_lambdas es)
    (lambdas_many e) (form_once p e fit.0) (forms_once (p + procs_in e) es fit.1)

-- A procedure makes closures of later ones

later_more : (p q : ℕ) (xs : List ℕ) → p ≤ q → AllByRecursion (λ x. q ≤ x) xs → AllByRecursion (λ x. p ≤ x) xs
later_more p q [] less h = tt
later_more p q (x ∷ xs) less h = let more = h.0 in (omega (arith, less, more), later_more p q xs less h.1)

procs_later : (p : ℕ) (ls : Exprs) → AllByRecursion (λ x. p ≤ x) (procs_of p ls)
procs_later p none = tt
procs_later p (item l ls) =
    (omega arith, later_more p (p + procs_in l) (procs_of (p + procs_in l) ls) (omega arith) (procs_later (p + procs_in l) ls))

-- what is made in two parts, the second of which begins later
both_later : (p q : ℕ) (xs ys : List ℕ) → p ≤ q → AllByRecursion (λ x. p ≤ x) xs → AllByRecursion (λ x. q ≤ x) ys
    → AllByRecursion (λ x. p ≤ x) (xs ++ ys)
both_later p q xs ys less h k = of_both (λ x. p ≤ x) xs ys h (later_more p q ys less k)

mutual
  made_later : (p : ℕ) (e : Expr) → AllByRecursion (λ x. p ≤ x) (made_in p e)
  made_later p (Lambda q xs r body) = (omega arith, tt)
  made_later p (If q test this that) =
      let p1 = p + procs_in test in
      let p2 = p1 + procs_in this in
      both_later p p1 (made_in p test) (made_in p1 this ++ made_in p2 that) (omega arith) (made_later p test)
      (both_later p1 p2 (made_in p1 this) (made_in p2 that) (omega arith) (made_later p1 this) (made_later p2 that))
  made_later p (SetLocal q x e) = made_later p e
  made_later p (SetTop q x e) = made_later p e
  made_later p (Call q f es) =
      both_later p (p + procs_in f) (made_in p f) (all_made_in (p + procs_in f) es) (omega arith) (made_later p f)
      (all_later (p + procs_in f) es)
  made_later p (Direct q xs body es) =
      let others = all_made_in (p + procs_in body) es in
      of_both (λ x. p ≤ x) others (made_in p body)
      (later_more p (p + procs_in body) others (omega arith) (all_later (p + procs_in body) es)) (made_later p body)
  made_later p (Prim q o es) = all_later p es
  made_later p (Seq q es) = all_later p es
  made_later p (Fix q xs ls body) =
      both_later p (p + all_procs_in ls) (procs_of p ls) (made_in (p + all_procs_in ls) body) (omega arith) (procs_later p ls)
      (made_later (p + all_procs_in ls) body)
  made_later p (Define q x e) = made_later p e
  made_later p e = tt

  all_later : (p : ℕ) (es : Exprs) → AllByRecursion (λ x. p ≤ x) (all_made_in p es)
  all_later p none = tt
  all_later p (item e es) =
      both_later p (p + procs_in e) (made_in p e) (all_made_in (p + procs_in e) es) (omega arith) (made_later p e)
      (all_later (p + procs_in e) es)

past_all : (p : ℕ) (xs : List ℕ) → AllByRecursion (λ x. suc p ≤ x) xs → AllByRecursion (λ x. p < x) xs
past_all p [] h = tt
past_all p (x ∷ xs) h = let less = h.0 in (omega (arith, less), past_all p xs h.1)

body_later : (p : ℕ) (e : Expr) → AllByRecursion (λ x. p < x) (body_made p e)
body_later p (Lambda q xs r body) = past_all p (made_in (suc p) body) (made_later (suc p) body)
body_later p e = tt

written_later : (all : Exprs) (n p : ℕ) (ls : List (ℕ × Expr)) → LaterOnes p (all_written all n p ls)
written_later all n p [] = tt
written_later all n p (l ∷ ls) = (
  subst (λ xs. AllByRecursion (λ x. p < x) xs) (sym (written_closes (setting all l.0) n p l.1)) (body_later p l.1),
  written_later all (after_lambda (is_boxed all) n l.1) (suc p) ls,
)

-- Programs

forms_close : (all : Exprs) (f n p : ℕ) (es : Exprs) → closes_in (form_code all f n p es) ≡ all_made_in p es
forms_close all f n p none = refl
forms_close all f n p (item e es) =
    let k = after (is_boxed all) n e in
    code_closes (setting all f) e n p (form_code all (suc f) k (p + procs_in e) es)
    ∙ ap (λ xs. made_in p e ++ xs) (forms_close all (suc f) k (p + procs_in e) es)

others_apart : (x lo many : ℕ) → x < lo → AllByRecursion (λ y. nat_eq x y ≡ false) (numbers_from lo many)
others_apart x lo zero less = tt
others_apart x lo (suc many) less =
    (ne_eqb x lo (λ e. omega (arith, e, less)), others_apart x (suc lo) many (omega (arith, less)))

numbers_apart : (lo many : ℕ) → IsDistinct nat_eq (numbers_from lo many)
unfolding IsDistinct
numbers_apart lo zero = tt
numbers_apart lo (suc many) = (others_apart lo (suc lo) many (omega arith), numbers_apart (suc lo) many)

pub same_flip : (x y : ℕ) → nat_eq x y ≡ nat_eq y x
same_flip x y = here (nat_eq x y) refl
  where
    here : (b : Bool) → nat_eq x y ≡ b → nat_eq x y ≡ nat_eq y x
    here true e = let same = eqb-true x y e in ap (λ z. nat_eq z y) same ∙ ap (λ z. nat_eq y z) (sym same)
    here false e = e ∙ sym (ne_eqb y x (λ k. eqb-false x y e (sym k)))

each_number : (P : ℕ → Type 0) (lo many : ℕ) → ((x : ℕ) → lo ≤ x → x < lo + many → P x) → AllByRecursion P (numbers_from lo many)
each_number P lo zero h = tt
each_number P lo (suc many) h = (
  h lo (omega arith) (omega arith),
  each_number P (suc lo) many (λ x from to. h x (omega (arith, from)) (omega (arith, to))),
)

pub all_made_once : (core : Program VarRef) (forms : Trees VarRef) → IsRenamed core forms → Made (form_of core forms).procs
all_made_once core forms h =
    let es = all_told core.lits forms in
    let k = all_after (is_boxed es) 0 es in
    let ls = placed_lambdas 0 es in
    let others = all_written es k 1 ls in
    let main = form_code es 0 0 1 es in
    let many = all_procs_in es in
    let made : closes_in main ++ all_made others ≡ all_made_in 1 es ++ bodies 1 (all_lambdas es) =
    ap (λ xs. xs ++ all_made others) (forms_close es 0 0 1 es)
    ∙ ap (λ xs. all_made_in 1 es ++ xs)
    (all_written_close es k 1 ls ∙ ap (bodies 1) (all_placed_exprs 0 es)) in
    let moves : IsPermutation (numbers_from 1 many) (closes_in main ++ all_made others) =
    IsPermutation-sym (closes_in main ++ all_made others) (numbers_from 1 many)
    (subst (λ xs. IsPermutation xs (numbers_from 1 many)) (sym made) (forms_once 1 es (fit_of core forms h))) in
    let long : length others ≡ many = written_many es k 1 ls ∙ placed_many 0 es in
    record {
      once =
          IsDistinct-IsPermutation nat_eq same_flip (numbers_from 1 many) (closes_in main ++ all_made others) moves
          (numbers_apart 1 many);
      each =
          each_number (λ q. IsTrue (has (closes_in main ++ all_made others) q)) 1 (length others)
          (λ q from to.
          sym (list_any-IsPermutation (nat_eq q) (numbers_from 1 many) (closes_in main ++ all_made others) moves)
          ∙ has_within 1 many q from (omega (arith, to, long)));
      later = (
        subst (λ xs. AllByRecursion (λ x. 0 < x) xs) (sym (forms_close es 0 0 1 es)) (past_all 0 (all_made_in 1 es) (all_later 1 es)),
        written_later es k 1 ls,
      );
    }
